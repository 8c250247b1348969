use Rattle.std.proofs.Common.{◌∙◌, sym}
use Rattle.link_node.proofs.PartLemmas.{some_if}
use Rattle.link_node.proofs.node.Node.hold_start.Goals as goal

pub invariant_of-self-clause-start : goal.invariant_of-self-clause-start
invariant_of-self-clause-start c =
    rw (some_if _ _ _ (sym c.later_start.ensures.value ∙ c.in-Some.is)) c.requires.range
