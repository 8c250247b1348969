use Rattle.std.proofs.Common.{rules, ◌∙◌, ◌++◌, ◌∷◌, [], ap, List, ℕ}
use Rattle.link_node.specs.Arrival.{pongs_to}
use Rattle.link_node.proofs.ArrivalLemmas.{is_short, is_long}
use Rattle.link_node.proofs.PartLemmas.{now_in, limit_back}
use Rattle.link_node.proofs.node.Node.answer.Goals as goal

pub returns-in-Some-clause-sends : goal.returns-in-Some-clause-sends
unfolding pongs_to
returns-in-Some-clause-sends c m stands =
    let told = rw (limit_back _ c.to_ghost-ghost_time.ensures.within, c.to_ghost-ghost_time.ensures.value, now_in _ m stands, c.current-current.ensures.session _ stands.sessions, c.current-current.ensures.xform _ stands.sessions) at c.in-Some.ensures.some in
    rw (is_short _ c.in-Some.ensures.none.1)
    (c.push.ensures.items ∙ ap (λ (bytes : List ℕ). c.args.sends.now ++ record { gate = c.args.gate; to = c.args.to; bytes = bytes } ∷ []) told)

pub returns-in_default-clause-sends : goal.returns-in_default-clause-sends
unfolding pongs_to
returns-in_default-clause-sends c m stands = rw (is_long _ (c.in_default.ensures.none.0 (search rules))) (search rules)
