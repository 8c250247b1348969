use Rattle.std.proofs.Common.{refl}
use Rattle.link_node.specs.Due.{due_of}
use Rattle.link_node.proofs.NumberLemmas.{number-back}
use Rattle.link_node.proofs.node.Node.due.Goals as goal

pub returns : goal.returns
unfolding due_of
returns c m stands =
    rw (
      number-back c.earlier_of.result c.earlier_of.type_inv,
      c.earlier_of.ensures,
      number-back c.earlier_of-due-3.result c.earlier_of-due-3.type_inv,
      c.earlier_of-due-3.ensures,
      number-back c.earlier_of-due-2.result c.earlier_of-due-2.type_inv,
      c.earlier_of-due-2.ensures,
      number-back c.earlier_of-due.result c.earlier_of-due.type_inv,
      c.earlier_of-due.ensures,
      number-back c.broadcast_due-due.result c.broadcast_due-due.type_inv,
      c.broadcast_due-due.ensures m stands.parts,
      c.least_limit.ensures m.life stands.parts.life,
      c.deadline.ensures m stands.parts,
      stands.parts.remeasure_at,
      c.waiting_due.ensures m stands.parts,
    ) refl
