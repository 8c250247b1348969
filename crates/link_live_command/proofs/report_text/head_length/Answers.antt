use Rattle.std.proofs.Common.{◌∙◌, refl, ap, length, arith}
use Rattle.link_live_command.proofs.ReportLemmas.{head_lines_are}
use Rattle.link_live_command.proofs.report_text.head_length.Goals as goal

pub returns : goal.returns
returns c now =
    c.loop-gate.invariant.0
    ∙ head_lines_are c.args.config.now c.args.config.now.gates.items now c.loop-gate.gate-index refl (omega (arith, c.loop-gate-test.false, ap length c.as_slice-gate-items.ensures.value))
