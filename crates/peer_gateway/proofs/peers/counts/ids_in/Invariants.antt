-- What is counted, and what the rest counts.
use Rattle.std.proofs.Common.{◌≡◌, ◌+◌, ◌≤◌, None, length, drop}
use Rattle.peer_gateway.specs.Picks.{ids_counted}
use Rattle.peer_gateway.proofs.peers.counts.ids_in.Given as goal

abbrev pub invariant-loop-row : goal.invariant-loop-row
invariant-loop-row l =
    (l.count ≤ l.row-index)
    × (l.count + length (ids_counted l.session l.last (drop l.row-index l.row-items)) ≡ length (ids_counted l.session None l.row-items))
