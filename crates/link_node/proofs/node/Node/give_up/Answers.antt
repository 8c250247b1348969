use Rattle.std.proofs.Common.{◌∙◌, sym, rules}
use Rattle.session_choice.specs.History as sessions
use Rattle.session_choice.specs.History.{forgotten}
use Rattle.link_node.specs.Measuring.{unmeasured}
use Rattle.link_node.proofs.node.Node.give_up.Goals as goal

pub returns-then-is_current-clause-stands : goal.returns-then-is_current-clause-stands
unfolding unmeasured
returns-then-is_current-clause-stands c m stands =
    rw (sym (c.is_current.ensures m stands) ∙ c.if-is_current.true) (c.remeasure_later.ensures.stands m stands)

pub returns-else-is_current-clause-stands : goal.returns-else-is_current-clause-stands
unfolding unmeasured
returns-else-is_current-clause-stands c m stands =
    rw (sym (c.is_current.ensures m stands) ∙ c.if-is_current.false)
    (let taken : sessions.StandsFor c.forget-was_known.new.self (forgotten c.args.session m.sessions) = c.forget-was_known.ensures.stands m.sessions stands.sessions in
    search rules)
