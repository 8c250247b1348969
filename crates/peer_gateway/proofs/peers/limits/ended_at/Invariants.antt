-- The entries before `ended` end.
use Rattle.std.proofs.Common.{◌≤◌, ◌≤ℤ◌, ◌-◌, length, take}
use Rattle.peer_gateway.specs.Happenings.{Has}
use Rattle.peer_gateway.specs.declared.expiry.Expiry.{Expiry}
use Rattle.peer_gateway.proofs.peers.limits.ended_at.Given as goal

abbrev pub invariant-loop-ended : goal.invariant-loop-ended
invariant-loop-ended l =
    (l.ended ≤ length l.by_limit.items) × ((e : Expiry) → Has (take l.ended l.by_limit.items) e → e.limit ≤ℤ l.fn.now)

abbrev pub decreases-loop-ended : goal.decreases-loop-ended
decreases-loop-ended l = length l.by_limit.items - l.ended
