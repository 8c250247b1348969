use Rattle.std.proofs.Common.{◌≡◌, ◌∙◌, true, false, ◌≤◌, length, sym, ap, subst, arith}
use Rattle.std.specs.Prelude.{is_some}
use Rattle.session_choice.specs.Changes.{key_of}
use Rattle.session_choice.specs.History.{other_in, forgotten}
use Rattle.session_choice.specs.Keyed.{without_by}
use Rattle.session_choice.specs.Kept.{table_of}
use Rattle.session_choice.specs.Table.{Table}
use Rattle.session_choice.proofs.DistinctLemmas.{length-without, distinct-without}
use Rattle.session_choice.proofs.KeyedLemmas.{IsAt, is_at, not_found, all_there}
use Rattle.session_choice.proofs.TableLemmas.{answer_for, stands_for, forgot_in, forgotten_in, forgot_for, forgotten_for}
use Rattle.session_choice.proofs.sessions.Sessions.forget.Goals as goal

pub returns-in_default-clause-answer : goal.returns-in_default-clause-answer
returns-in_default-clause-answer c =
    answer_for (forgot_in c.args.session) (λ h. is_some (other_in c.args.session h)) (forgot_for c.args.session) c.args.self.now false
    (subst (λ (t : Table). false ≡ forgot_in c.args.session t) c.self.view_is
    (ap (λ found. is_some found) (sym (not_found key_of c.args.session c.self.inside.others.items cc))))

pub returns-in_default-clause-stands : goal.returns-in_default-clause-stands
returns-in_default-clause-stands c =
    stands_for (forgotten_in c.args.session) (λ h. forgotten c.args.session h) (forgotten_for c.args.session) c.args.self.now c.args.self.now
    (subst (λ (t : Table). t ≡ forgotten_in c.args.session t) c.self.view_is
    (ap (λ others. record (table_of c.self.inside) { others = others })
    (sym (all_there key_of c.args.session c.self.inside.others.items (not_found key_of c.args.session c.self.inside.others.items cc)))))

pub invariant_of-self : goal.invariant_of-self
invariant_of-self c =
    let at : IsAt key_of c.args.session c.self.inside.others.items c.in-Some.place = is_at key_of c.args.session c.self.inside.others.items c.in-Some.place cc in
    let moved : c.remove.new.self.items ≡ without_by key_of c.args.session c.self.inside.others.items = c.remove.ensures.items ∙ sym at.without in
    let shorter : length (without_by key_of c.args.session c.self.inside.others.items) ≤ length c.self.inside.others.items = length-without c.args.session c.self.inside.others.items in
    record {
      room = omega (arith, c.remove.ensures.capacity, c.self.invariant.room);
      few = rw moved (omega (arith, shorter, c.self.invariant.few));
      distinct = rw moved (distinct-without c.args.session c.self.inside.current c.self.inside.others.items c.self.invariant.distinct);
    }

pub returns-clause-answer : goal.returns-clause-answer
returns-clause-answer c =
    let at : IsAt key_of c.args.session c.self.inside.others.items c.in-Some.place = is_at key_of c.args.session c.self.inside.others.items c.in-Some.place cc in
    answer_for (forgot_in c.args.session) (λ h. is_some (other_in c.args.session h)) (forgot_for c.args.session) c.args.self.now true
    (subst (λ (t : Table). true ≡ forgot_in c.args.session t) c.self.view_is
    (ap (λ found. is_some found) (sym (at.found c.self.inside.current))))

pub returns-clause-stands : goal.returns-clause-stands
returns-clause-stands c =
    let at : IsAt key_of c.args.session c.self.inside.others.items c.in-Some.place = is_at key_of c.args.session c.self.inside.others.items c.in-Some.place cc in
    let new : Table = record (table_of c.self.inside) { others = c.remove.new.self.items } in
    stands_for (forgotten_in c.args.session) (λ h. forgotten c.args.session h) (forgotten_for c.args.session) c.args.self.now new
    (subst (λ (t : Table). new ≡ forgotten_in c.args.session t) c.self.view_is
    (ap (λ others. record new { others = others }) (c.remove.ensures.items ∙ sym at.without)))
