use Rattle.std.proofs.Common.{rules, ap, sym, subst, ◌∙◌, ◌≡◌, ℤ, w64, to_z, of_z}
use Rattle.std.specs.Int.{int_max}
use Rattle.lk_base.specs.Ranges.{IsMoment}
use Rattle.link_node.proofs.NumberLemmas.{moment-back, greater-is, greater-moment}
use Rattle.link_node.proofs.node.Node.advance.Goals as goal

pub invariant_of-self-clause-in_time : goal.invariant_of-self-clause-in_time
invariant_of-self-clause-in_time c =
    let is = greater-is c.args.self.now.moment c.args.now c.max-self.result c.args.self.now.in_time c.requires c.max-self.ensures.value in
    let inside = greater-moment c.args.self.now.moment c.args.now c.max-self.result c.args.self.now.in_time c.requires is in
    subst (λ (z : ℤ). IsMoment z) (sym (moment-back c.max-self.result inside)) inside

pub returns-clause-stands : goal.returns-clause-stands
returns-clause-stands c m stands =
    let is = greater-is c.args.self.now.moment c.args.now c.max-self.result c.args.self.now.in_time c.requires c.max-self.ensures.value in
    let inside = greater-moment c.args.self.now.moment c.args.now c.max-self.result c.args.self.now.in_time c.requires is in
    let moment : to_z w64 (of_z w64 c.max-self.result) ≡ int_max m.moment c.args.now =
    moment-back c.max-self.result inside ∙ is ∙ ap (λ (z : ℤ). int_max z c.args.now) stands.moment in
    search rules
