use Rattle.std.proofs.Common.{ℤ, sym, subst, ◌∙◌, w64}
use Rattle.std.proofs.lemmas.Int.{to_z-of_z}
use Rattle.lk_base.specs.Ranges.{IsMoment}
use Rattle.link_node.specs.Config.{IsConfig}
use Rattle.link_shared.specs.Hub.{HubView}
use Rattle.link_shared.proofs.TurnLemmas.{machine_tells}
use Rattle.link_shared.proofs.hub.Hub.moment.Goals as goal

pub returns-clause-moment : goal.returns-clause-moment
returns-clause-moment g c = to_z-of_z w64 c.moment.result (record { sfits = c.moment.type_inv }) ∙ machine_tells c.self.inside.keeper.node _ _ _ (λ m. m.moment) c.self.view_is c.self.inside.keeper.stands c.moment.ensures.value

pub returns-clause-range : goal.returns-clause-range
returns-clause-range g c =
    subst (λ (at : ℤ). IsMoment at) (sym (to_z-of_z w64 c.moment.result (record { sfits = c.moment.type_inv }))) c.moment.ensures.range

pub returns-clause-opening : goal.returns-clause-opening
returns-clause-opening g c =
    let keeper = c.self.inside.keeper in
    subst (λ (h : HubView). IsConfig h.config × IsMoment h.opened_at) c.self.view_is (keeper.config, keeper.opening)
