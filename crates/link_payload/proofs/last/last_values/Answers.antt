use Rattle.std.proofs.Common.{◌≡◌, rules, Result, Err, sym, ap, subst, ◌∙◌, arith}
use Rattle.link_payload.specs.declared.fault.PayloadFault.{PayloadFault}
use Rattle.link_payload.specs.Items.{entry_value, items_at}
use Rattle.link_payload.specs.Last.{LastBytes, HaveSizes, last_bytes_of, walk_of}
use Rattle.link_payload.proofs.WalkLemmas.{item_length}
use Rattle.link_payload.proofs.LastLemmas.{walked, walked-fault, walked-wrong, walked-on, walked-end, walked_answer, sizes_after, chosen_fault, no_fault_chosen, gave}
use Rattle.link_payload.proofs.last.last_values.Goals as goal

pub returns-in_err-entry-clause-answer : goal.returns-in_err-entry-clause-answer
returns-in_err-entry-clause-answer c = λ es cut entries.
    let total = walked_answer c.args.keys.now c.args.payload.now es cut (λ i. omega (arith, c.type_inv.payload i)) entries in
    let gives = gave _ _ _ _ (c.in-Some.ensures {u = tt}).steps (c.in_err-entry.was {u = tt}) in
    let passed : c.from_residual.result ≡ Err c.in_err-entry.field-0.0 = search rules in
    ap walk_of passed ∙ sym (walked-fault c.args.keys.now (last_bytes_of c.loop-item.last) c.in_err-entry.field-0.0 (items_at c.next.new.self.at c.next.new.self.rest.now))
    ∙ ap (walked c.args.keys.now (last_bytes_of c.loop-item.last)) (sym gives) ∙ c.loop-item.invariant.answer ∙ total

pub size_fault-requires : goal.size_fault-requires
size_fault-requires c =
    let gives = gave _ _ _ _ (c.in-Some.ensures {u = tt}).steps (c.in_ok-entry.was {u = tt}) in
    omega (arith, item_length _ _ (entry_value c.in_ok-entry.entry) _ gives, c.loop-item.item-iterator.in_range)

pub returns-in-Some-size_fault-clause-answer : goal.returns-in-Some-size_fault-clause-answer
returns-in-Some-size_fault-clause-answer c = λ es cut entries.
    let total = walked_answer c.args.keys.now c.args.payload.now es cut (λ i. omega (arith, c.type_inv.payload i)) entries in
    let gives = gave _ _ _ _ (c.in-Some.ensures {u = tt}).steps (c.in_ok-entry.was {u = tt}) in
    let err : PayloadFault → Result LastBytes PayloadFault = λ fault. Err fault in
    let wrong = chosen_fault _ _ _ (c.in-Some-size_fault.ensures {u = tt}) in
    ap err wrong.1
    ∙ sym (walked-wrong c.args.keys.now (last_bytes_of c.loop-item.last) (entry_value c.in_ok-entry.entry) (items_at c.next.new.self.at c.next.new.self.rest.now) wrong.0)
    ∙ ap (walked c.args.keys.now (last_bytes_of c.loop-item.last)) (sym gives) ∙ c.loop-item.invariant.answer ∙ total

pub loop-item-preserved : goal.loop-item-preserved
loop-item-preserved c =
    let gives = gave _ _ _ _ (c.in-Some.ensures {u = tt}).steps (c.in_ok-entry.was {u = tt}) in
    let right = no_fault_chosen _ _ (c.in_default.ensures {u = tt}) in
    let after = c.with_entry-last.ensures in
    record {
      sizes = subst (HaveSizes c.args.keys.now) (sym after) (sizes_after c.args.keys.now (last_bytes_of c.loop-item.last) (entry_value c.in_ok-entry.entry) right c.loop-item.invariant.sizes);
      answer = ap (λ (values : LastBytes). walked c.args.keys.now values (items_at c.next.new.self.at c.next.new.self.rest.now)) after
          ∙ sym (walked-on c.args.keys.now (last_bytes_of c.loop-item.last) (entry_value c.in_ok-entry.entry) (items_at c.next.new.self.at c.next.new.self.rest.now) right)
          ∙ ap (walked c.args.keys.now (last_bytes_of c.loop-item.last)) (sym gives) ∙ c.loop-item.invariant.answer;
    }

pub returns-clause-answer : goal.returns-clause-answer
returns-clause-answer c = λ es cut entries.
    let total = walked_answer c.args.keys.now c.args.payload.now es cut (λ i. omega (arith, c.type_inv.payload i)) entries in
    sym (walked-end c.args.keys.now (last_bytes_of c.loop-item.last))
    ∙ ap (walked c.args.keys.now (last_bytes_of c.loop-item.last)) (sym c.in-None.ensures.steps.0) ∙ c.loop-item.invariant.answer ∙ total
