use Rattle.std.proofs.Common.{◌++◌, arith, codes, length}
use Rattle.std.specs.Fmt.{decimal}
use Rattle.link_asks.proofs.TextLemmas.{gates_end, gates_here}
use Rattle.link_asks.proofs.answer.put_gates.Goals as goal

pub loop-gate-preserved : goal.loop-gate-preserved
loop-gate-preserved c = record {
  items = gates_here (codes "gates " ++ decimal (length c.args.gates.now)) _ _ c.args.gates.now c.loop-gate.gate-index _ c.loop-gate-test.true c.loop-gate.invariant.items c.put_gate.ensures.items;
  len = omega (arith, c.put_gate.ensures.len);
}

pub returns : goal.returns
returns c =
    gates_end (codes "gates") (decimal (length c.args.gates.now)) _ _ c.args.gates.now c.loop-gate.gate-index c.loop-gate-test.false c.loop-gate.invariant.items c.put-2.ensures.items
