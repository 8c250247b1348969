use Rattle.std.proofs.Common.{◌∙◌, refl, sym, subst, ℤ, Option, IfSome, arith}
use Rattle.lk_base.specs.Ranges.{IsMoment}
use Rattle.link_node.proofs.NumberLemmas.{moment-back, later-back}
use Rattle.link_node.proofs.node.Node.is_broadcast.Goals as goal

pub returns-then-self : goal.returns-then-self
returns-then-self c m stands =
    let inside = subst (λ (last : Option ℤ). IfSome last IsMoment) c.in-Some.is c.args.self.now.broadcast in
    let short = later-back c.in-Some.last 50_000 inside (omega arith) in
    let long = later-back c.in-Some.last 250_000 inside (omega arith) in
    let moment = moment-back c.args.self.now.moment c.args.self.now.in_time in
    let late = simp (long, moment) at c.if-last-self.false in
    rw (sym stands.last_broadcast ∙ c.in-Some.is, sym stands.changed ∙ c.if-self.true, sym stands.moment, short, moment, late) refl
