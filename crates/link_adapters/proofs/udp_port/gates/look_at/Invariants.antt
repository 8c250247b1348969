use Rattle.std.proofs.Common.{◌≤◌, ◌-◌, vec_len}
use Rattle.link_adapters.proofs.udp_port.gates.look_at.Given as goal

abbrev pub invariant-loop-turn : goal.invariant-loop-turn
invariant-loop-turn g l = l.turn ≤ vec_len l.gates

abbrev pub decreases-loop-turn : goal.decreases-loop-turn
decreases-loop-turn g l = vec_len l.gates - l.turn
