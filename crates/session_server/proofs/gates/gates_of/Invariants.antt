use Rattle.std.proofs.Common.{◌-◌, length, map}
use Rattle.std.specs.String.{string_bytes}
use Rattle.link_node.specs.Config.{gate_value}
use Rattle.session_server.specs.Words.{gate_parts_of}
use Rattle.session_server.proofs.GateLemmas.{AreTaken}
use Rattle.session_server.proofs.gates.gates_of.Given as goal

abbrev pub invariant-loop-given : goal.invariant-loop-given
invariant-loop-given l = AreTaken (gate_parts_of (map string_bytes l.words)) (map gate_value l.gates.items) l.number

abbrev pub decreases-loop-given : goal.decreases-loop-given
decreases-loop-given l = length (gate_parts_of (map string_bytes l.words)) - l.number
