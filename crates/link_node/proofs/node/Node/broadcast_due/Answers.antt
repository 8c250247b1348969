use Rattle.std.proofs.Common.{◌∙◌, sym, subst, ℤ, Option, IfSome, arith}
use Rattle.lk_base.specs.Ranges.{IsMoment}
use Rattle.link_node.proofs.NumberLemmas.{moment-back, later-back}
use Rattle.link_node.proofs.node.Node.broadcast_due.Goals as goal

pub returns-then-self : goal.returns-then-self
returns-then-self c m stands =
    let inside = subst (λ (last : Option ℤ). IfSome last IsMoment) c.in-Some.is c.args.self.now.broadcast in
    rw (sym stands.last_broadcast ∙ c.in-Some.is, sym stands.changed ∙ c.if-self.true) (later-back c.in-Some.last 50_000 inside (omega arith))

pub returns-else-self : goal.returns-else-self
returns-else-self c m stands =
    let inside = subst (λ (last : Option ℤ). IfSome last IsMoment) c.in-Some.is c.args.self.now.broadcast in
    rw (sym stands.last_broadcast ∙ c.in-Some.is, sym stands.changed ∙ c.if-self.false) (later-back c.in-Some.last 250_000 inside (omega arith))

pub returns-in-None : goal.returns-in-None
returns-in-None c m stands =
    rw (sym stands.last_broadcast ∙ c.in-None.is) (moment-back c.args.self.now.moment c.args.self.now.in_time ∙ stands.moment)
