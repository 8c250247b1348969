-- The line is as it was, and the line that is looked for is `left` lines on from those of the gates passed over.
use Rattle.std.proofs.Common.{◌≡◌, map}
use Rattle.std.specs.Prelude.{slice_get}
use Rattle.std.specs.List.{flat_map}
use Rattle.link_node.specs.Config.{gate_value}
use Rattle.link_script.specs.ReplayScript.{gate_lines}
use Rattle.link_text.proofs.WrittenHeadLemmas.{lines_from}
use Rattle.link_text.proofs.head_line.write_gates.Given as goal

abbrev pub invariant-loop-gate : goal.invariant-loop-gate
invariant-loop-gate l =
    (l.line ≡ l.fn.line) × (slice_get (flat_map gate_lines (map gate_value l.gates)) l.k ≡ slice_get (lines_from l.gates l.gate-index) l.left)
