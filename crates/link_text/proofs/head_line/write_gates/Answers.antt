use Rattle.std.proofs.Common.{◌≡◌, ◌<◌, ◌+◌, ◌∙◌, sym, arith, refl, length}
use Rattle.link_node.specs.Config.{gate_value}
use Rattle.link_script.specs.ReplayScript.{gate_lines}
use Rattle.link_text.proofs.WrittenHeadLemmas.{gate_here, length-gate_lines, gate_past, no_gate_past}
use Rattle.link_text.proofs.head_line.write_gates.Goals as goal

pub returns-then-left-lines-clause-there : goal.returns-then-left-lines-clause-there
returns-then-left-lines-clause-there c l e =
    let short : c.loop-gate.left < length (gate_lines (gate_value c.gate-item.result)) = omega (arith, length-gate_lines c.gate-item.result) in
    let here = gate_here c.args.gates.now c.loop-gate.gate-index c.loop-gate.left c.gate-item.result c.loop-gate-test.true c.gate-item.is short in
    (refl, c.write_gate.ensures l (sym here ∙ (sym c.loop-gate.invariant.1 ∙ e)))

pub returns-then-left-lines-clause-past : goal.returns-then-left-lines-clause-past
returns-then-left-lines-clause-past c e =
    let short : c.loop-gate.left < length (gate_lines (gate_value c.gate-item.result)) = omega (arith, length-gate_lines c.gate-item.result) in
    no_gate_past c.args.gates.now c.loop-gate.gate-index c.loop-gate.left c.gate-item.result c.loop-gate-test.true c.gate-item.is short (sym c.loop-gate.invariant.1 ∙ e)

pub loop-gate-preserved : goal.loop-gate-preserved
loop-gate-preserved c =
    let lines : 1 + c.len-lines.result ≡ length (gate_lines (gate_value c.gate-item.result)) = omega (arith, length-gate_lines c.gate-item.result) in (
      c.loop-gate.invariant.0,
      c.loop-gate.invariant.1
          ∙ gate_past c.args.gates.now c.loop-gate.gate-index c.loop-gate.left (1 + c.len-lines.result) c.gate-item.result c.loop-gate-test.true c.gate-item.is lines c.if-left-lines.false,
    )
