use Rattle.std.proofs.Common.{◌∙◌, sym}
use Rattle.link_node.specs.Taking.{timeline_taken}
use Rattle.link_node.proofs.node.Node.take_timeline.Goals as goal

pub returns-clause-stands : goal.returns-clause-stands
unfolding timeline_taken
returns-clause-stands c m room stands =
    let answer = sym (c.see-saw.ensures.answer m stands) in
    rw answer (c.follow.ensures.stands _ (λ new. room (answer ∙ new)) (c.see-saw.ensures.stands m stands))
