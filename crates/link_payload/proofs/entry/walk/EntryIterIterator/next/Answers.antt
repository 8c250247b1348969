use Rattle.std.proofs.Common.{ap, arith, length, sym, ◌∙◌}
use Rattle.link_payload.specs.Items.{entry_value}
use Rattle.link_payload.proofs.EntryLemmas.{front-length}
use Rattle.link_payload.proofs.WalkLemmas.{empty_items, cut_item, entry_item}
use Rattle.link_payload.proofs.entry.walk.EntryIterIterator.next.Goals as goal

pub returns-then-is_empty-clause-steps : goal.returns-then-is_empty-clause-steps
returns-then-is_empty-clause-steps c =
    let e = empty_items c.args.self.now.at c.args.self.now.rest.now (sym c.is_empty.ensures ∙ c.if-is_empty.true) in (e, e)

pub returns-in_default-clause-steps : goal.returns-in_default-clause-steps
returns-in_default-clause-steps c =
    cut_item c.args.self.now.at c.args.self.now.rest.now (sym c.is_empty.ensures ∙ c.if-is_empty.false) (sym (c.in_default.ensures {u = tt}))

pub returns-in_default-clause-goes : goal.returns-in_default-clause-goes
returns-in_default-clause-goes c =
    let e = cut_item c.args.self.now.at c.args.self.now.rest.now (sym c.is_empty.ensures ∙ c.if-is_empty.false) (sym (c.in_default.ensures {u = tt})) in
    record { on = λ f. (tt, f, omega (arith, ap length e)); keeps = tt; rests = λ f. tt }

pub overflow_cast-self : goal.overflow_cast-self
overflow_cast-self c =
    let n = front-length c.args.self.now.rest.now _ (sym c.in-Some.ensures) in omega (arith, n, c.args.self.now.in_range)

pub overflow_add-self : goal.overflow_add-self
overflow_add-self c =
    let n = front-length c.args.self.now.rest.now _ (sym c.in-Some.ensures) in omega (arith, n, c.args.self.now.in_range)

pub overflow_add-self-2 : goal.overflow_add-self-2
overflow_add-self-2 c =
    let n = front-length c.args.self.now.rest.now _ (sym c.in-Some.ensures) in omega (arith, n, c.args.self.now.in_range)

pub invariant_of-self-2 : goal.invariant_of-self-2
invariant_of-self-2 c =
    let n = front-length c.args.self.now.rest.now _ (sym c.in-Some.ensures) in
    record { in_range = omega (arith, n, c.args.self.now.in_range) }

pub returns-clause-steps : goal.returns-clause-steps
returns-clause-steps c = entry_item c.args.self.now.at c.args.self.now.rest.now _ (sym c.in-Some.ensures)

pub returns-clause-goes : goal.returns-clause-goes
returns-clause-goes c =
    let e = entry_item c.args.self.now.at c.args.self.now.rest.now (entry_value c.in-Some.entry, c.in-Some.rest.now) (sym c.in-Some.ensures) in
    record { on = λ f. (tt, f, omega (arith, ap length e)); keeps = tt; rests = λ f. tt }
