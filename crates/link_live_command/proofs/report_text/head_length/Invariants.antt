-- The lines of the gates so far are counted, at most 33 for each.
use Rattle.std.proofs.Common.{◌≡◌, ◌≤◌, ◌+◌, ◌*◌}
use Rattle.link_node.specs.Config.{gate_value}
use Rattle.link_script.specs.ReplayScript.{gate_lines}
use Rattle.link_live_command.proofs.ReportLemmas.{count_of}
use Rattle.link_live_command.proofs.report_text.head_length.Given as goal

abbrev pub invariant-loop-gate : goal.invariant-loop-gate
invariant-loop-gate l =
    (l.lines ≡ 4 + count_of gate_lines gate_value l.config.gates.items l.gate-index) × (l.lines ≤ 4 + 33 * l.gate-index)
