use Rattle.std.proofs.Common.{ℤ, w64, refl, subst, ◌∙◌, rules, SFits}
use Rattle.std.proofs.lemmas.Int.{to_z-of_z}
use Rattle.lk_base.specs.Ranges.{IsMoment}
use Rattle.link_world.proofs.peer.Peer.can_take.Goals as goal

pub returns-then-is_moment : goal.returns-then-is_moment
returns-then-is_moment c =
    let fits : SFits w64 c.moment_of.result = search rules in
    let within =
    subst (λ (now : ℤ). IsMoment now) (to_z-of_z w64 c.moment_of.result fits ∙ c.moment_of.ensures) (c.if-is_moment.ensures.0 refl) in
    ((λ kind. (within, c.can_take_kind.ensures.0 kind)), (λ fits. c.can_take_kind.ensures.1 fits.1))
