use Rattle.std.proofs.Common.{rules, ◌∙◌, sym, refl}
use Rattle.link_node.proofs.PartLemmas.{limit_back}
use Rattle.link_node.proofs.node.Node.take_client_timeline.Goals as goal

pub returns-clause-answer : goal.returns-clause-answer
returns-clause-answer c m stands =
    let value = rw (limit_back _ c.requires.at) at (c.session_by.ensures.value m stands) in
    rw (sym value ∙ c.in-Some.is) refl

pub returns-clause-stands : goal.returns-clause-stands
returns-clause-stands c m stands =
    let value = rw (limit_back _ c.requires.at) at (c.session_by.ensures.value m stands) in
    rw (sym value ∙ c.in-Some.is) (c.renew.ensures.stands _ (c.give_session.ensures.stands (record m { client = c.args.client }) (search rules)))
