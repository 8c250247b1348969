use Rattle.std.proofs.Common.{◌≡◌, ◌∙◌, sym, ap, subst}
use Rattle.session_choice.specs.History.{saw_of, saw_after}
use Rattle.session_choice.specs.Kept.{table_of}
use Rattle.session_choice.specs.Table.{Table, HasTidyTimelines}
use Rattle.session_choice.proofs.OthersLemmas.{saw_in-current, saw_in-other, seen_in-current, seen_in-other, few_others, distinct_others, tidy_others, tidy_row, kept_others, full_others}
use Rattle.session_choice.proofs.TableLemmas.{answer_for, stands_for, saw_in, seen_in, saw_for, seen_for}
use Rattle.session_choice.proofs.sessions.Sessions.saw.Goals as goal

pub invariant_of-self-else-eq : goal.invariant_of-self-else-eq
invariant_of-self-else-eq c = record {
  room = c.see_other.ensures.room ∙ c.self.invariant.room;
  few = rw c.see_other.ensures.items (few_others c.args.session c.args.timeline c.self.inside.others.items c.self.invariant.few);
  distinct =
      rw c.see_other.ensures.items
      (distinct_others c.args.session c.args.timeline c.self.inside.current c.self.inside.others.items (sym c.eq.ensures ∙ c.if-eq.false) c.self.invariant.distinct);
}

pub returns-then-eq-clause-answer : goal.returns-then-eq-clause-answer
returns-then-eq-clause-answer c =
    answer_for (saw_in c.args.session c.args.timeline) (λ h. saw_of h c.args.session c.args.timeline) (saw_for c.args.session c.args.timeline) c.args.self.now c.see.result
    (subst (λ (t : Table). c.see.result ≡ saw_in c.args.session c.args.timeline t) c.self.view_is
    (c.see.ensures.answer ∙ saw_in-current c.args.session c.args.timeline (table_of c.self.inside) (sym c.eq.ensures ∙ c.if-eq.true)))

pub returns-then-eq-clause-stands : goal.returns-then-eq-clause-stands
returns-then-eq-clause-stands c =
    let old : Table = table_of c.self.inside in
    let new : Table = record old { current = c.see.new.self } in
    stands_for (seen_in c.args.session c.args.timeline) (λ h. saw_after h c.args.session c.args.timeline) (seen_for c.args.session c.args.timeline) c.args.self.now new
    (subst (λ (t : Table). new ≡ seen_in c.args.session c.args.timeline t) c.self.view_is
    (ap (λ current. record old { current = current }) c.see.ensures.held ∙ seen_in-current c.args.session c.args.timeline old (sym c.eq.ensures ∙ c.if-eq.true)))

pub returns-then-eq-clause-tidy : goal.returns-then-eq-clause-tidy
returns-then-eq-clause-tidy c tidy =
    let held : HasTidyTimelines (table_of c.self.inside) = subst HasTidyTimelines (sym c.self.view_is) tidy in
    record { current = rw c.see.ensures.held (tidy_row c.args.timeline c.self.inside.current c.requires held.current); others = held.others }

pub returns-else-eq-clause-answer : goal.returns-else-eq-clause-answer
returns-else-eq-clause-answer c =
    answer_for (saw_in c.args.session c.args.timeline) (λ h. saw_of h c.args.session c.args.timeline) (saw_for c.args.session c.args.timeline) c.args.self.now c.see_other.result
    (subst (λ (t : Table). c.see_other.result ≡ saw_in c.args.session c.args.timeline t) c.self.view_is
    (c.see_other.ensures.answer ∙ saw_in-other c.args.session c.args.timeline (table_of c.self.inside) (sym c.eq.ensures ∙ c.if-eq.false)))

pub returns-else-eq-clause-stands : goal.returns-else-eq-clause-stands
returns-else-eq-clause-stands c =
    let old : Table = table_of c.self.inside in
    let new : Table = record old { others = c.see_other.new.others.items } in
    stands_for (seen_in c.args.session c.args.timeline) (λ h. saw_after h c.args.session c.args.timeline) (seen_for c.args.session c.args.timeline) c.args.self.now new
    (subst (λ (t : Table). new ≡ seen_in c.args.session c.args.timeline t) c.self.view_is
    (ap (λ others. record old { others = others }) c.see_other.ensures.items ∙ seen_in-other c.args.session c.args.timeline old (sym c.eq.ensures ∙ c.if-eq.false)))

pub returns-else-eq-clause-kept : goal.returns-else-eq-clause-kept
returns-else-eq-clause-kept c is =
    ap (λ others. record (table_of c.self.inside) { others = others })
    (c.see_other.ensures.items ∙ kept_others c.args.session c.args.timeline c.self.inside.others.items (sym c.see_other.ensures.answer ∙ is))
    ∙ c.self.view_is

pub returns-else-eq-clause-full : goal.returns-else-eq-clause-full
returns-else-eq-clause-full c is =
    ap (λ others. record (table_of c.self.inside) { others = others })
    (c.see_other.ensures.items ∙ full_others c.args.session c.args.timeline c.self.inside.others.items (sym c.see_other.ensures.answer ∙ is))
    ∙ c.self.view_is

pub returns-else-eq-clause-tidy : goal.returns-else-eq-clause-tidy
returns-else-eq-clause-tidy c tidy =
    let held : HasTidyTimelines (table_of c.self.inside) = subst HasTidyTimelines (sym c.self.view_is) tidy in
    record {
      current = held.current;
      others = rw c.see_other.ensures.items (tidy_others c.args.session c.args.timeline c.self.inside.others.items c.requires held.others);
    }
