use Rattle.std.proofs.Common.{◌≡◌, ◌∙◌, true, false, sym, ap, subst, get_or, arith, w64}
use Rattle.std.proofs.lemmas.Int.{to_z-of_z}
use Rattle.session_choice.specs.Changes.{key_of}
use Rattle.session_choice.specs.History.{measured_of, measured_after}
use Rattle.session_choice.specs.Keyed.{updated_by}
use Rattle.session_choice.specs.Kept.{table_of}
use Rattle.session_choice.specs.Table.{Table, HasTidyTimelines}
use Rattle.session_choice.specs.Winning.{wins_over}
use Rattle.session_choice.specs.declared.known.Known.{Known}
use Rattle.session_choice.specs.declared.verdict.Verdict.TheVariants.{Joined, Stayed, Remeasured, Unknown}
use Rattle.session_choice.proofs.KeyedLemmas.{IsAt, is_at, not_found}
use Rattle.session_choice.proofs.MeasuredLemmas.{verdict-current, measured-current, verdict-unknown, measured-unknown, verdict-joined, verdict-stayed, measured-joined, measured-stayed, few-joined, ids-joined, tidy-joined, joined_with}
use Rattle.session_choice.proofs.TableLemmas.{answer_for, stands_for, verdict_in, measured_in, verdict_for, measured_for}
use Rattle.session_choice.proofs.sessions.Sessions.measured.Goals as goal

pub returns-then-eq-clause-answer : goal.returns-then-eq-clause-answer
returns-then-eq-clause-answer c =
    answer_for (verdict_in c.args.session c.args.xform.offset c.args.now) (λ h. measured_of h c.args.session c.args.xform.offset c.args.now) (verdict_for c.args.session c.args.xform.offset c.args.now) c.args.self.now Remeasured
    (subst (λ (t : Table). Remeasured ≡ verdict_in c.args.session c.args.xform.offset c.args.now t) c.self.view_is
    (verdict-current c.args.session c.args.xform.offset c.args.now (table_of c.self.inside) (sym c.eq.ensures ∙ c.if-eq.true)))

pub returns-then-eq-clause-stands : goal.returns-then-eq-clause-stands
returns-then-eq-clause-stands c =
    stands_for (measured_in c.args.session c.args.xform.offset c.args.now) (λ h. measured_after h c.args.session c.args.xform.offset c.args.now) (measured_for c.args.session c.args.xform.offset c.args.now) c.args.self.now (record (table_of c.self.inside) { offset = c.args.xform.offset })
    (subst (λ (t : Table). (record (table_of c.self.inside) { offset = c.args.xform.offset }) ≡ measured_in c.args.session c.args.xform.offset c.args.now t) c.self.view_is
    (measured-current c.args.session c.args.xform.offset c.args.now (table_of c.self.inside) (sym c.eq.ensures ∙ c.if-eq.true)))

pub returns-in_default-clause-answer : goal.returns-in_default-clause-answer
returns-in_default-clause-answer c =
    answer_for (verdict_in c.args.session c.args.xform.offset c.args.now) (λ h. measured_of h c.args.session c.args.xform.offset c.args.now) (verdict_for c.args.session c.args.xform.offset c.args.now) c.args.self.now Unknown
    (subst (λ (t : Table). Unknown ≡ verdict_in c.args.session c.args.xform.offset c.args.now t) c.self.view_is
    (verdict-unknown c.args.session c.args.xform.offset c.args.now (table_of c.self.inside) (sym c.eq.ensures ∙ c.if-eq.false) (not_found key_of c.args.session c.self.inside.others.items cc)))

pub returns-in_default-clause-stands : goal.returns-in_default-clause-stands
returns-in_default-clause-stands c =
    stands_for (measured_in c.args.session c.args.xform.offset c.args.now) (λ h. measured_after h c.args.session c.args.xform.offset c.args.now) (measured_for c.args.session c.args.xform.offset c.args.now) c.args.self.now c.args.self.now
    (subst (λ (t : Table). t ≡ measured_in c.args.session c.args.xform.offset c.args.now t) c.self.view_is
    (measured-unknown c.args.session c.args.xform.offset c.args.now (table_of c.self.inside) (sym c.eq.ensures ∙ c.if-eq.false) (not_found key_of c.args.session c.self.inside.others.items cc)))

pub invariant_of-self-then-wins : goal.invariant_of-self-then-wins
invariant_of-self-then-wins c =
    let at : IsAt key_of c.args.session c.self.inside.others.items c.in-Some.place = is_at key_of c.args.session c.self.inside.others.items c.in-Some.place cc in
    let d : Known = c.self.inside.current in
    let known : Known = get_or c.self.inside.others.items c.in-Some.place d in
    let moved : c.exchange.new.others.items ≡ updated_by key_of c.args.session (λ _. d) c.self.inside.others.items =
    c.exchange.ensures.items ∙ sym (at.updated (λ _. d) d) in
    record {
      room = omega (arith, c.exchange.ensures.room, c.self.invariant.room);
      few = rw moved (few-joined c.args.session c.args.xform.offset c.args.now (table_of c.self.inside) known (sym c.eq.ensures ∙ c.if-eq.false) (at.found d) c.self.invariant.few);
      distinct = rw (moved, c.exchange.ensures.current) (ids-joined c.args.session c.args.xform.offset c.args.now (table_of c.self.inside) known (sym c.eq.ensures ∙ c.if-eq.false) (at.found d) c.self.invariant.distinct);
    }

pub returns-then-wins-clause-answer : goal.returns-then-wins-clause-answer
returns-then-wins-clause-answer c =
    let at : IsAt key_of c.args.session c.self.inside.others.items c.in-Some.place = is_at key_of c.args.session c.self.inside.others.items c.in-Some.place cc in
    let d : Known = c.self.inside.current in
    let known : Known = get_or c.self.inside.others.items c.in-Some.place d in
    let wins : wins_over c.args.session c.args.xform.offset c.self.inside.current.session c.self.inside.xform.offset c.args.now ≡ true =
    sym (c.wins.ensures ∙ ap (λ n. wins_over c.args.session c.args.xform.offset c.self.inside.current.session c.self.inside.xform.offset n) (to_z-of_z w64 c.args.now c.ranges.now)) ∙ c.if-wins.true in
    answer_for (verdict_in c.args.session c.args.xform.offset c.args.now) (λ h. measured_of h c.args.session c.args.xform.offset c.args.now) (verdict_for c.args.session c.args.xform.offset c.args.now) c.args.self.now Joined
    (subst (λ (t : Table). Joined ≡ verdict_in c.args.session c.args.xform.offset c.args.now t) c.self.view_is
    (verdict-joined c.args.session c.args.xform.offset c.args.now (table_of c.self.inside) known (sym c.eq.ensures ∙ c.if-eq.false) (at.found d) wins))

pub returns-then-wins-clause-stands : goal.returns-then-wins-clause-stands
returns-then-wins-clause-stands c =
    let at : IsAt key_of c.args.session c.self.inside.others.items c.in-Some.place = is_at key_of c.args.session c.self.inside.others.items c.in-Some.place cc in
    let d : Known = c.self.inside.current in
    let known : Known = get_or c.self.inside.others.items c.in-Some.place d in
    let wins : wins_over c.args.session c.args.xform.offset c.self.inside.current.session c.self.inside.xform.offset c.args.now ≡ true =
    sym (c.wins.ensures ∙ ap (λ n. wins_over c.args.session c.args.xform.offset c.self.inside.current.session c.self.inside.xform.offset n) (to_z-of_z w64 c.args.now c.ranges.now)) ∙ c.if-wins.true in
    let old : Table = table_of c.self.inside in
    let new : Table = record { current = c.exchange.new.current; offset = c.args.xform.offset; others = c.exchange.new.others.items } in
    let moved : c.exchange.new.others.items ≡ updated_by key_of c.args.session (λ _. d) c.self.inside.others.items =
    c.exchange.ensures.items ∙ sym (at.updated (λ _. d) d) in
    stands_for (measured_in c.args.session c.args.xform.offset c.args.now) (λ h. measured_after h c.args.session c.args.xform.offset c.args.now) (measured_for c.args.session c.args.xform.offset c.args.now) c.args.self.now new
    (subst (λ (t : Table). new ≡ measured_in c.args.session c.args.xform.offset c.args.now t) c.self.view_is
    (ap (λ known. record new { current = known }) c.exchange.ensures.current
    ∙ ap (λ others. record new { current = known; others = others }) moved
    ∙ measured-joined c.args.session c.args.xform.offset c.args.now (table_of c.self.inside) known (sym c.eq.ensures ∙ c.if-eq.false) (at.found d) wins))

pub returns-then-wins-clause-tidy : goal.returns-then-wins-clause-tidy
returns-then-wins-clause-tidy c tidy =
    let at : IsAt key_of c.args.session c.self.inside.others.items c.in-Some.place = is_at key_of c.args.session c.self.inside.others.items c.in-Some.place cc in
    let d : Known = c.self.inside.current in
    let known : Known = get_or c.self.inside.others.items c.in-Some.place d in
    let moved : c.exchange.new.others.items ≡ updated_by key_of c.args.session (λ _. d) c.self.inside.others.items =
    c.exchange.ensures.items ∙ sym (at.updated (λ _. d) d) in
    let held : HasTidyTimelines (table_of c.self.inside) = subst HasTidyTimelines (sym c.self.view_is) tidy in
    let all : HasTidyTimelines (joined_with c.args.session c.args.xform.offset c.args.now (table_of c.self.inside) known) = tidy-joined c.args.session c.args.xform.offset c.args.now (table_of c.self.inside) known (sym c.eq.ensures ∙ c.if-eq.false) (at.found d) held in
    record { current = rw c.exchange.ensures.current all.current; others = rw moved all.others }

pub returns-clause-answer : goal.returns-clause-answer
returns-clause-answer c =
    let at : IsAt key_of c.args.session c.self.inside.others.items c.in-Some.place = is_at key_of c.args.session c.self.inside.others.items c.in-Some.place cc in
    let d : Known = c.self.inside.current in
    let known : Known = get_or c.self.inside.others.items c.in-Some.place d in
    let wins : wins_over c.args.session c.args.xform.offset c.self.inside.current.session c.self.inside.xform.offset c.args.now ≡ false =
    sym (c.wins.ensures ∙ ap (λ n. wins_over c.args.session c.args.xform.offset c.self.inside.current.session c.self.inside.xform.offset n) (to_z-of_z w64 c.args.now c.ranges.now)) ∙ c.if-wins.false in
    answer_for (verdict_in c.args.session c.args.xform.offset c.args.now) (λ h. measured_of h c.args.session c.args.xform.offset c.args.now) (verdict_for c.args.session c.args.xform.offset c.args.now) c.args.self.now Stayed
    (subst (λ (t : Table). Stayed ≡ verdict_in c.args.session c.args.xform.offset c.args.now t) c.self.view_is
    (verdict-stayed c.args.session c.args.xform.offset c.args.now (table_of c.self.inside) known (sym c.eq.ensures ∙ c.if-eq.false) (at.found d) wins))

pub returns-clause-stands : goal.returns-clause-stands
returns-clause-stands c =
    let at : IsAt key_of c.args.session c.self.inside.others.items c.in-Some.place = is_at key_of c.args.session c.self.inside.others.items c.in-Some.place cc in
    let d : Known = c.self.inside.current in
    let known : Known = get_or c.self.inside.others.items c.in-Some.place d in
    let wins : wins_over c.args.session c.args.xform.offset c.self.inside.current.session c.self.inside.xform.offset c.args.now ≡ false =
    sym (c.wins.ensures ∙ ap (λ n. wins_over c.args.session c.args.xform.offset c.self.inside.current.session c.self.inside.xform.offset n) (to_z-of_z w64 c.args.now c.ranges.now)) ∙ c.if-wins.false in
    stands_for (measured_in c.args.session c.args.xform.offset c.args.now) (λ h. measured_after h c.args.session c.args.xform.offset c.args.now) (measured_for c.args.session c.args.xform.offset c.args.now) c.args.self.now c.args.self.now
    (subst (λ (t : Table). t ≡ measured_in c.args.session c.args.xform.offset c.args.now t) c.self.view_is
    (measured-stayed c.args.session c.args.xform.offset c.args.now (table_of c.self.inside) known (sym c.eq.ensures ∙ c.if-eq.false) (at.found d) wins))
