use Rattle.std.proofs.Common.{rules, sym, ◌∙◌, ◌≡◌, true, false}
use Rattle.link_node.specs.Publishing.{alike, state_in, change_in, shown}
use Rattle.link_node.proofs.node.Node.publish.Goals as goal

pub returns-then-is_alike-clause-change : goal.returns-then-is_alike-clause-change
unfolding change_in
returns-then-is_alike-clause-change c m stands =
    rw (sym (c.formed-state.ensures.value m stands), sym stands.published, sym c.is_alike.ensures, c.if-is_alike.true) search rules

pub returns-then-is_alike-clause-stands : goal.returns-then-is_alike-clause-stands
unfolding shown
returns-then-is_alike-clause-stands c m stands =
    let same : alike (state_in m) m.published ≡ true =
    rw (sym (c.formed-state.ensures.value m stands), sym stands.published) (sym c.is_alike.ensures ∙ c.if-is_alike.true) in
    rw same stands

pub returns-clause-change : goal.returns-clause-change
unfolding change_in
returns-clause-change c m stands =
    rw (sym (c.formed-state.ensures.value m stands), sym stands.published, sym c.is_alike.ensures, c.if-is_alike.false) search rules

pub returns-clause-stands : goal.returns-clause-stands
unfolding shown
returns-clause-stands c m stands =
    let same : alike (state_in m) m.published ≡ false =
    rw (sym (c.formed-state.ensures.value m stands), sym stands.published) (sym c.is_alike.ensures ∙ c.if-is_alike.false) in
    let value = c.formed-state.ensures.value m stands in
    rw same (search rules)
