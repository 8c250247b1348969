use Rattle.std.proofs.Common.{ℕ, ◌≤◌, refl, sym, ap, subst}
use Rattle.link_shared.specs.Hub.{HubView}
use Rattle.link_shared.proofs.HearingLemmas.{handed_more, few_handed, room_for_one, hub_of_more}
use Rattle.link_shared.proofs.hub.Hub.hand_in.Goals as goal

pub push_reserved-requires : goal.push_reserved-requires
push_reserved-requires g c =
    let few = few_handed _ _ _ (ap (λ (hub : HubView). hub.handed) c.self.view_is) c.requires.room in
    room_for_one _ _ _ c.self.inside.handed.ok.0 few c.self.invariant.6

pub invariant_of-self : goal.invariant_of-self
invariant_of-self g c =
    let i = c.self.invariant in
    let p = c.pass.invariant in
    let few = few_handed _ _ _ (ap (λ (hub : HubView). hub.handed) c.self.view_is) c.requires.room in (
      i.0,
      i.1,
      i.2,
      i.3,
      i.4,
      i.5,
      subst (λ (places : ℕ). 16 ≤ places) (sym c.push_reserved.ensures.capacity) i.6,
      handed_more _ _ _ _ _ _ _ _ _ _ _ _ _ i.7 few c.push_reserved.ensures.items (p.0, p.1) c.merge.ensures.parts p.3 c.merge.ensures.amount p.6 c.merge.ensures.apart,
    )

pub returns : goal.returns
returns g c =
    let p = c.pass.invariant in
    hub_of_more g.N.LinkName.whole _ _ _ _ _ _ _ _ c.self.view_is refl c.push_reserved.ensures.items p.6 p.3 c.pass.view_is
