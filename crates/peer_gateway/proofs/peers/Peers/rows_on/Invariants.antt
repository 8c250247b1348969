-- So many of the rows gone over are the gate's.
use Rattle.std.proofs.Common.{◌≡◌, ◌≤◌, length, filter, take}
use Rattle.peer_gateway.specs.Answers.{is_on}
use Rattle.peer_gateway.proofs.peers.Peers.rows_on.Given as goal

abbrev pub invariant-loop-row : goal.invariant-loop-row
invariant-loop-row l = (l.on ≤ l.row-index) × (l.on ≡ length (filter (is_on l.gate) (take l.row-index l.row-items)))
