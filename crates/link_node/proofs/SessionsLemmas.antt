-- No session is known twice, and who waits or is measured is known.
use Rattle.std.proofs.Common.{◌≡◌, ◌≤◌, ◌<◌, ◌+◌, ◌||◌, ℕ, ℤ, pos, ◌+ℤ◌, Bool, true, false, List, [], ◌∷◌, nat_lt, nat_le, length, map, filter, Option, Some, None, refl, sym, ap, ◌∙◌, subst, inl, inr, arith}
use Rattle.std.proofs.lemmas.List.{length-map}
use Rattle.std.specs.Prelude.{if◌then◌else◌, is_some, IfSome, IsSome, IsTrue}
use Rattle.std.proofs.lemmas.Bool.{false≢true, or_right, or_left}
use Rattle.std.proofs.lemmas.Bool.Decides.{nat_tests}
use Rattle.lk_base.specs.IdOrder.{same_id}
use Rattle.lk_base.specs.declared.ids.NodeId.{NodeId}
use Rattle.lk_base.specs.declared.endpoint.Gate.{Gate}
use Rattle.asdp_messages.specs.declared.message.StateMsg.{StateMsg}
use Rattle.ping_measure.specs.Points.{silent}
use Rattle.ping_measure.specs.declared.outcome.MeasureFault.TheVariants.{Silence}
use Rattle.ping_measure.specs.Life.{Life, with, is_over, is_early, silences_of, tick_outcome, tick_after}
use Rattle.ping_measure.specs.declared.outcome.Outcome.{Outcome}
use Rattle.ping_measure.specs.declared.outcome.Outcome.TheVariants.{Idle, Again, Done, Failed}
use Rattle.ping_measure.proofs.LifeLemmas.{over-silent}
use Rattle.ping_measure.proofs.OutcomeLemmas.{tick-early, tick-late, silent_outcome}
use Rattle.peer_gateway.specs.Happenings.{Has}
use Rattle.peer_gateway.proofs.MemberLemmas.{Distinct, all_from_has, has_from_all, has_filter, filter_has, has_map, map_has, length_le}
use Rattle.session_choice.specs.History.{Taking, session_of, other_in, joined, forgotten, measured_of, measured_after, measured_by, verdict_by}
use Rattle.session_choice.specs.Winning.{wins_over}
use Rattle.session_choice.specs.declared.verdict.Verdict.TheVariants.{Joined, Stayed, Remeasured}
use Rattle.session_choice.specs.Keyed.{found_by, updated_by, without_by}
use Rattle.session_choice.proofs.KeyedLemmas.{map-updated, map-without}
use Rattle.session_choice.proofs.Lists.{by_test}
use Rattle.session_choice.proofs.DistinctLemmas.{same-equal}
use Rattle.link_node.specs.Machine.{Machine, session_in}
use Rattle.link_node.specs.Client.{renewed}
use Rattle.link_node.specs.Measuring.{chosen, judged, measured, measurement_ticked, remeasured_later, tick_by, unmeasured}
use Rattle.link_node.specs.Taking.{sighted}
use Rattle.link_node.specs.Tick.{cleared, idle_forgotten, is_measured, is_needed, is_waiting, pruned}
use Rattle.peer_gateway.specs.Answers.{has_peers}
use Rattle.peer_gateway.proofs.KeyLemmas.{test_from_id}
use Rattle.link_node.specs.WellFormed.{AreSessions, is_known}
use Rattle.link_node.proofs.IdLemmas.{differ-other, has-waits, none-waits, waits-none, distinct-from, distinct-to, found-has, has-found, found-key, itself, without-has, has-without, distinct-without, few-without, replaced, few-replaced, has-replaced, replaced-current, distinct-replaced}

-- ---- the same by ids alone

-- a session is known and doesn't wait, and where the current one is to be measured later it isn't that
pub record IsAlone (current : NodeId) (others waiting : List NodeId) (later : Option ℤ) (session : NodeId) : Type 0 where
  pub known : Has (current ∷ others) session
  pub alone : Has waiting session → ⊥
  pub other : IsSome later → session ≡ current → ⊥

pub record AreIds (current : NodeId) (others waiting : List NodeId) (later : Option ℤ) (measuring : Option Life) : Type 0 where
  pub distinct : Distinct (current ∷ others)
  pub few : length others ≤ 64
  pub known : (id : NodeId) → Has waiting id → Has (current ∷ others) id
  pub once : Distinct waiting
  pub current_waits : IsSome later → Has waiting current → ⊥
  pub measured : IfSome measuring (λ life. IsAlone current others waiting later life.session)
  pub going_on : IfSome measuring (λ life. is_over life ≡ false)

abbrev pub ids_in : Machine → List NodeId
ids_in m = map session_of m.sessions.others

abbrev pub HasIds : Machine → Type 0
HasIds m = AreIds (session_in m) (ids_in m) m.waiting m.remeasure_at m.measuring

-- ---- who is known

pub known-has : (m : Machine) (id : NodeId) → is_known m id ≡ true → Has (session_in m ∷ ids_in m) id
known-has m id t =
    by_test (λ b. same_id (session_in m) id ≡ b → is_some (if b then Some m.sessions.current else found_by session_of id m.sessions.others) ≡ true
    → Has (session_in m ∷ ids_in m) id) (same_id (session_in m) id)
    (λ _ same _. inl (same-equal (session_in m) id same)) (λ _ _ is. inr (found-has session_of id m.sessions.others is)) refl t

pub has-known : (m : Machine) (id : NodeId) → Has (session_in m ∷ ids_in m) id → is_known m id ≡ true
has-known m id h =
    by_test (λ b. same_id (session_in m) id ≡ b → is_some (if b then Some m.sessions.current else found_by session_of id m.sessions.others) ≡ true)
    (same_id (session_in m) id)
    (λ _ _. refl)
    (λ _ other. elim h as (λ _. is_some (found_by session_of id m.sessions.others) ≡ true)
    [ inl e ↦ absurd (false≢true (sym other ∙ test_from_id (session_in m) id e)) | inr k ↦ has-found session_of id m.sessions.others k ]) refl

-- ---- there and back

some-measured : (m : Machine) (o : Option Life) → IfSome o (λ life. IsTrue (is_known m life.session)) → IfSome o (λ life. is_waiting life.session m.waiting ≡ false)
    → (IsSome m.remeasure_at → IfSome o (λ life. same_id life.session (session_in m) ≡ false))
    → IfSome o (λ life. IsAlone (session_in m) (ids_in m) m.waiting m.remeasure_at life.session)
some-measured m None known alone other = tt
some-measured m (Some life) known alone other = record {
  known = known-has m life.session known;
  alone = waits-none life.session m.waiting alone;
  other = λ is e. false≢true (sym (other is) ∙ test_from_id life.session (session_in m) e);
}

pub to_parts : (m : Machine) → AreSessions m → HasIds m
to_parts m h = record {
  distinct = distinct-from (session_in m ∷ ids_in m) h.distinct;
  few = omega (arith, h.few, length-map m.sessions.others session_of);
  known = λ id w. known-has m id (has_from_all (λ session. IsTrue (is_known m session)) m.waiting id h.waiting_known w);
  once = distinct-from m.waiting h.waiting_distinct;
  current_waits = λ is. waits-none (session_in m) m.waiting (h.current_waits is);
  measured = some-measured m m.measuring h.measured_known h.measured_alone h.current_measured;
  going_on = h.going_on;
}

measured-known : (m : Machine) (o : Option Life) → IfSome o (λ life. IsAlone (session_in m) (ids_in m) m.waiting m.remeasure_at life.session)
    → IfSome o (λ life. IsTrue (is_known m life.session))
measured-known m None h = tt
measured-known m (Some life) h = has-known m life.session h.known

measured-alone : (m : Machine) (o : Option Life) → IfSome o (λ life. IsAlone (session_in m) (ids_in m) m.waiting m.remeasure_at life.session)
    → IfSome o (λ life. is_waiting life.session m.waiting ≡ false)
measured-alone m None h = tt
measured-alone m (Some life) h = none-waits life.session m.waiting h.alone

measured-other : (m : Machine) (o : Option Life) → IfSome o (λ life. IsAlone (session_in m) (ids_in m) m.waiting m.remeasure_at life.session)
    → IsSome m.remeasure_at → IfSome o (λ life. same_id life.session (session_in m) ≡ false)
measured-other m None h is = tt
measured-other m (Some life) h is = differ-other life.session (session_in m) (h.other is)

pub from_parts : (m : Machine) → HasIds m → AreSessions m
from_parts m h = record {
  distinct = distinct-to (session_in m ∷ ids_in m) h.distinct;
  few = omega (arith, h.few, length-map m.sessions.others session_of);
  waiting_known = all_from_has (λ session. IsTrue (is_known m session)) m.waiting (λ id w. has-known m id (h.known id w));
  waiting_distinct = distinct-to m.waiting h.once;
  measured_known = measured-known m m.measuring h.measured;
  measured_alone = measured-alone m m.measuring h.measured;
  going_on = h.going_on;
  current_waits = λ is. none-waits (session_in m) m.waiting (h.current_waits is);
  current_measured = measured-other m m.measuring h.measured;
}

-- ---- room for those that wait

few-wait : (current : NodeId) (others waiting : List NodeId) (later : Option ℤ) (measuring : Option Life) → AreIds current others waiting later measuring
    → length waiting ≤ length others + 1
few-wait current others waiting later measuring h = omega (arith, length_le waiting (current ∷ others) h.once h.known)

pub few_waiting : (m : Machine) → AreSessions m → length m.waiting ≤ 65
few_waiting m sessions =
    let h = to_parts m sessions in
    omega (arith, h.few, few-wait (session_in m) (ids_in m) m.waiting m.remeasure_at m.measuring h)

pub room_for_new : (m : Machine) (session : NodeId) → AreSessions m → is_known m session ≡ false → length m.sessions.others < 64 → length m.waiting < 65
room_for_new m session sessions new room =
    omega (arith, length-map m.sessions.others session_of, few-wait (session_in m) (ids_in m) m.waiting m.remeasure_at m.measuring (to_parts m sessions))

pub room_for_current : (m : Machine) → AreSessions m → is_waiting (session_in m) m.waiting ≡ false → length m.waiting < 65
room_for_current m sessions none =
    let h = to_parts m sessions in
    let others : (id : NodeId) → Has m.waiting id → Has (ids_in m) id = λ id w.
    elim (h.known id w) as (λ _. Has (ids_in m) id)
    [ inl e ↦ absurd (waits-none (session_in m) m.waiting none (subst (λ (z : NodeId). Has m.waiting z) (sym e) w)) | inr k ↦ k ] in
    omega (arith, h.few, length_le m.waiting (ids_in m) h.once others)

-- ---- rules that leave the sessions

pub sighted_sessions : (gate : Gate) (msg : StateMsg) (m : Machine) → AreSessions m → AreSessions (sighted gate msg m)
unfolding sighted
sighted_sessions gate msg m sessions = from_parts (sighted gate msg m) (to_parts m sessions)

-- ---- sessions that nobody is in

module _ (current : NodeId) (needed : Taking → Bool) where
  few-filtered : (rows : List Taking) → length (map session_of (filter needed rows)) ≤ length (map session_of rows)
  few-filtered [] = omega arith
  few-filtered (row ∷ rows) =
      by_test (λ b. length (map session_of (if b then row ∷ filter needed rows else filter needed rows)) ≤ length (map session_of (row ∷ rows))) (needed row)
      (λ _. omega (arith, few-filtered rows)) (λ _. omega (arith, few-filtered rows))

  filtered-has : (rows : List Taking) (id : NodeId) → Has (map session_of (filter needed rows)) id → Has (map session_of rows) id
  filtered-has rows id h =
      let t = map_has session_of (filter needed rows) id h in
      subst (λ (z : NodeId). Has (map session_of rows) z) t.2 (has_map session_of rows t.0 (filter_has needed rows t.0 t.1).0)

  distinct-filtered : (rows : List Taking) → Distinct (map session_of rows) → Distinct (map session_of (filter needed rows))
  distinct-filtered [] all = tt
  distinct-filtered (row ∷ rows) all =
      by_test (λ b. Distinct (map session_of (if b then row ∷ filter needed rows else filter needed rows))) (needed row)
      (λ _. (λ h. all.0 (filtered-has rows row.session h), distinct-filtered rows all.1)) (λ _. distinct-filtered rows all.1)

  has-filtered : (rows : List Taking) (id : NodeId) → ((row : Taking) → row.session ≡ id → needed row ≡ true) → Has (current ∷ map session_of rows) id
      → Has (current ∷ map session_of (filter needed rows)) id
  has-filtered rows id keeps (inl e) = inl e
  has-filtered rows id keeps (inr h) =
      let t = map_has session_of rows id h in
      inr (subst (λ (z : NodeId). Has (map session_of (filter needed rows)) z) t.2
      (has_map session_of (filter needed rows) t.0 (has_filter needed rows t.0 t.1 (keeps t.0 t.2))))

-- where what waits or is measured is kept
filtered-parts : (current : NodeId) (needed : Taking → Bool) (rows : List Taking) (waiting : List NodeId) (later : Option ℤ) (measuring : Option Life)
    → ((id : NodeId) (row : Taking) → Has waiting id → row.session ≡ id → needed row ≡ true)
    → IfSome measuring (λ life. (row : Taking) → row.session ≡ life.session → needed row ≡ true)
    → AreIds current (map session_of rows) waiting later measuring → AreIds current (map session_of (filter needed rows)) waiting later measuring
filtered-parts current needed rows waiting later measuring waits measured h = record {
  distinct = (λ k. h.distinct.0 (filtered-has current needed rows current k), distinct-filtered current needed rows h.distinct.1);
  few = omega (arith, h.few, few-filtered current needed rows);
  known = λ id w. has-filtered current needed rows id (λ row e. waits id row w e) (h.known id w);
  once = h.once;
  current_waits = h.current_waits;
  measured = alone-filtered measuring measured h.measured;
  going_on = h.going_on;
}
  where
    alone-filtered : (o : Option Life) → IfSome o (λ life. (row : Taking) → row.session ≡ life.session → needed row ≡ true)
        → IfSome o (λ life. IsAlone current (map session_of rows) waiting later life.session)
        → IfSome o (λ life. IsAlone current (map session_of (filter needed rows)) waiting later life.session)
    alone-filtered None keeps alone = tt
    alone-filtered (Some life) keeps alone = record {
      known = has-filtered current needed rows life.session keeps alone.known;
      alone = alone.alone;
      other = alone.other;
    }

measured-needed : (m : Machine) (o : Option Life)
    → ((row : Taking) → is_measured row.session o ≡ true → is_needed m row ≡ true)
    → IfSome o (λ life. (row : Taking) → row.session ≡ life.session → is_needed m row ≡ true)
measured-needed m None needs = tt
measured-needed m (Some life) needs = λ row e. needs row (test_from_id life.session row.session (sym e))

pub forgotten_parts : (m : Machine) → HasIds m → HasIds (idle_forgotten m)
unfolding idle_forgotten
forgotten_parts m h =
    filtered-parts (session_in m) (is_needed m) m.sessions.others m.waiting m.remeasure_at m.measuring
    (λ id row w e.
    or_right (has_peers row.session m.life) (is_measured row.session m.measuring || is_waiting row.session m.waiting)
    (or_right (is_measured row.session m.measuring) (is_waiting row.session m.waiting)
    (has-waits row.session m.waiting (subst (λ (z : NodeId). Has m.waiting z) (sym e) w))))
    (measured-needed m m.measuring (λ row t.
    or_right (has_peers row.session m.life) (is_measured row.session m.measuring || is_waiting row.session m.waiting)
    (or_left (is_measured row.session m.measuring) (is_waiting row.session m.waiting) t)))
    h

pub cleared_sessions : (m : Machine) → AreSessions m → AreSessions (cleared m)
unfolding cleared pruned
cleared_sessions m sessions = from_parts (cleared m) (forgotten_parts (pruned m) (to_parts m sessions))

-- ---- a session that isn't measured any more

-- what holds with no measurement, and of the session that was measured or taken from the list
pub record AreFree (current : NodeId) (others waiting : List NodeId) (later : Option ℤ) (session : NodeId) : Type 0 where
  pub parts : AreIds current others waiting later None
  pub alone : IsAlone current others waiting later session

abbrev pub IsFree : Machine → NodeId → Type 0
IsFree m session = AreFree (session_in m) (ids_in m) m.waiting m.remeasure_at session

ids-without : (session : NodeId) (rows : List Taking) → map session_of (without_by session_of session rows) ≡ without_by itself session (map session_of rows)
ids-without session rows = map-without session_of itself session session_of (λ row. refl) rows

ids-replaced : (current session : NodeId) (taking : Taking) (rows : List Taking) → taking.session ≡ current
    → map session_of (updated_by session_of session (λ _. taking) rows) ≡ replaced current session (map session_of rows)
ids-replaced current session taking rows e = map-updated session_of itself session session_of (λ row. refl) (λ _. taking) (λ _. current) (λ row. e) rows

-- the current one is to be measured later
later-parts : (current : NodeId) (others waiting : List NodeId) (later : Option ℤ) (at : ℤ) → (Has waiting current → ⊥) → AreIds current others waiting later None
    → AreIds current others waiting (Some at) None
later-parts current others waiting later at none h = record {
  distinct = h.distinct;
  few = h.few;
  known = h.known;
  once = h.once;
  current_waits = λ is. none;
  measured = tt;
  going_on = tt;
}

without-parts : (current session : NodeId) (others waiting : List NodeId) (later : Option ℤ) → (Has waiting session → ⊥) → AreIds current others waiting later None
    → AreIds current (without_by itself session others) waiting later None
without-parts current session others waiting later none h = record {
  distinct = (λ k. h.distinct.0 (without-has session others current k), distinct-without session others h.distinct.1);
  few = omega (arith, h.few, few-without session others);
  known = λ id w. elim (h.known id w) as (λ _. Has (current ∷ without_by itself session others) id)
      [ inl e ↦ inl e | inr k ↦ inr (has-without session others id k (λ e. none (subst (λ (z : NodeId). Has waiting z) e w))) ];
  once = h.once;
  current_waits = h.current_waits;
  measured = tt;
  going_on = tt;
}

replaced-parts : (current session : NodeId) (others waiting : List NodeId) (later : Option ℤ) (at : ℤ) → Has others session → (Has waiting session → ⊥)
    → AreIds current others waiting later None → AreIds session (replaced current session others) waiting (Some at) None
replaced-parts current session others waiting later at there none h = record {
  distinct = distinct-replaced current session others h.distinct there;
  few = omega (arith, h.few, few-replaced current session others);
  known = λ id w. elim (h.known id w) as (λ _. Has (session ∷ replaced current session others) id) [
    | inl e ↦ inr (subst (λ (z : NodeId). Has (replaced current session others) z) e (replaced-current current session others there))
    | inr k ↦ has-replaced current session others id k
  ];
  once = h.once;
  current_waits = λ is. none;
  measured = tt;
  going_on = tt;
}

pub unmeasured_parts : (session : NodeId) (m : Machine) → m.measuring ≡ None → IsFree m session → HasIds (unmeasured session m)
unfolding unmeasured
unmeasured_parts session m none free =
    by_test (λ b. same_id session (session_in m) ≡ b → HasIds (if b then remeasured_later m else record m { sessions = forgotten session m.sessions })) (same_id session (session_in m))
    (λ _ same.
    subst (λ (o : Option Life). AreIds (session_in m) (ids_in m) m.waiting (Some (m.moment +ℤ pos 30_000_000)) o) (sym none)
    (later-parts (session_in m) (ids_in m) m.waiting m.remeasure_at (m.moment +ℤ pos 30_000_000)
    (λ w. free.alone.alone (subst (λ (z : NodeId). Has m.waiting z) (sym (same-equal session (session_in m) same)) w)) free.parts))
    (λ _ _.
    subst (λ (o : Option Life). AreIds (session_in m) (map session_of (without_by session_of session m.sessions.others)) m.waiting m.remeasure_at o) (sym none)
    (subst (λ (ids : List NodeId). AreIds (session_in m) ids m.waiting m.remeasure_at None) (sym (ids-without session m.sessions.others))
    (without-parts (session_in m) session (ids_in m) m.waiting m.remeasure_at free.alone.alone free.parts)))
    refl

-- ---- a session was measured

-- another session that is known, or isn't
measured-other-parts : (session : NodeId) (offset : ℤ) (m : Machine) (o : Option Taking) → other_in session m.sessions ≡ o → IsFree m session
    → HasIds (chosen (verdict_by o m.sessions offset m.moment) (record m { sessions = measured_by o m.sessions offset m.moment; measuring = None }))
unfolding renewed
measured-other-parts session offset m None found free = free.parts
measured-other-parts session offset m (Some other) found free =
    by_test (λ b. HasIds (chosen (if b then Joined else Stayed) (record m { sessions = if b then joined other offset m.sessions else m.sessions; measuring = None })))
    (wins_over other.session offset (session_in m) m.sessions.offset m.moment)
    (λ _.
    let same : other.session ≡ session = found-key session_of session m.sessions.others other found in
    subst (λ (ids : List NodeId). AreIds other.session ids m.waiting (Some (m.moment +ℤ pos 30_000_000)) None)
    (sym (ids-replaced (session_in m) other.session m.sessions.current m.sessions.others refl))
    (replaced-parts (session_in m) other.session (ids_in m) m.waiting m.remeasure_at (m.moment +ℤ pos 30_000_000)
    (subst (λ (z : NodeId). Has (ids_in m) z) (sym same) (found-has session_of session m.sessions.others (ap is_some found)))
    (λ w. free.alone.alone (subst (λ (z : NodeId). Has m.waiting z) same w)) free.parts))
    (λ _. free.parts)

pub measured_parts : (session : NodeId) (offset : ℤ) (m : Machine) → IsFree m session → HasIds (measured session offset (record m { measuring = None }))
unfolding measured measured_of measured_after renewed
measured_parts session offset m free =
    by_test (λ b. same_id (session_in m) session ≡ b
    → HasIds (chosen (if b then Remeasured else verdict_by (other_in session m.sessions) m.sessions offset m.moment)
    (record m { sessions = if b then record m.sessions { offset = offset } else measured_by (other_in session m.sessions) m.sessions offset m.moment; measuring = None })))
    (same_id (session_in m) session)
    (λ _ same.
    later-parts (session_in m) (ids_in m) m.waiting m.remeasure_at (m.moment +ℤ pos 30_000_000)
    (λ w. free.alone.alone (subst (λ (z : NodeId). Has m.waiting z) (same-equal (session_in m) session same) w)) free.parts)
    (λ _ _. measured-other-parts session offset m (other_in session m.sessions) refl free)
    refl

-- ---- answers of the measurement that runs

-- a measurement that isn't ended goes on
abbrev pub GoesOn : Outcome → Life → Type 0
GoesOn Idle life = is_over life ≡ false
GoesOn (Again ping) life = is_over life ≡ false
GoesOn (Done xform) life = Unit {0}
GoesOn (Failed fault) life = Unit {0}

pub running-parts : (current : NodeId) (others waiting : List NodeId) (later : Option ℤ) (life : Life) → AreFree current others waiting later life.session → is_over life ≡ false
    → AreIds current others waiting later (Some life)
running-parts current others waiting later life free on = record {
  distinct = free.parts.distinct;
  few = free.parts.few;
  known = free.parts.known;
  once = free.parts.once;
  current_waits = free.parts.current_waits;
  measured = free.alone;
  going_on = on;
}

pub free-from : (current : NodeId) (others waiting : List NodeId) (later : Option ℤ) (life : Life) → AreIds current others waiting later (Some life)
    → AreFree current others waiting later life.session
free-from current others waiting later life h = record {
  parts = record {
    distinct = h.distinct;
    few = h.few;
    known = h.known;
    once = h.once;
    current_waits = h.current_waits;
    measured = tt;
    going_on = tt;
  };
  alone = h.measured;
}

pub judged_parts : (outcome : Outcome) (life : Life) (m : Machine) → IsFree m life.session → GoesOn outcome life
    → HasIds (judged outcome life.session (record m { measuring = Some life }))
judged_parts Idle life m free on = running-parts (session_in m) (ids_in m) m.waiting m.remeasure_at life free on
judged_parts (Again ping) life m free on = running-parts (session_in m) (ids_in m) m.waiting m.remeasure_at life free on
judged_parts (Done xform) life m free on = measured_parts life.session xform.offset m free
judged_parts (Failed fault) life m free on = unmeasured_parts life.session (record m { measuring = None }) refl free

-- ---- a tick of the measurement that runs

silent-goes : (life : Life) (now : ℤ) → is_over life ≡ false → GoesOn (silent_outcome life now) (with life (silent now))
silent-goes life now on =
    by_test (λ b. nat_lt (silences_of life + 1) 6 ≡ b → GoesOn (if b then Again (record { host = now; previous = None }) else Failed Silence) (with life (silent now))) (nat_lt (silences_of life + 1) 6)
    (λ _ less. over-silent life now on ∙ six (silences_of life + 1) less) (λ _ _. tt) refl
  where
    six : (n : ℕ) → nat_lt n 6 ≡ true → nat_le 6 n ≡ false
    six n less = grind (arith, nat_tests)

tick-session : (life : Life) (now : ℤ) → (tick_after life now).session ≡ life.session
unfolding tick_after
tick-session life now =
    by_test (λ b. (if b then life else with life (silent now)).session ≡ life.session) (is_early life now) (λ _. refl) (λ _. refl)

tick-goes : (life : Life) (now : ℤ) → is_over life ≡ false → GoesOn (tick_outcome life now) (tick_after life now)
tick-goes life now on =
    by_test (λ b. is_early life now ≡ b → GoesOn (tick_outcome life now) (tick_after life now)) (is_early life now)
    (λ _ early. let e = tick-early life now early in rw (e.0, e.1) on)
    (λ _ late. let e = tick-late life now late in rw (e.0, e.1) (silent-goes life now on)) refl

tick_by_parts : (o : Option Life) (m : Machine) → AreIds (session_in m) (ids_in m) m.waiting m.remeasure_at o → m.measuring ≡ o → HasIds (tick_by o m)
tick_by_parts None m h is = subst (λ (o : Option Life). AreIds (session_in m) (ids_in m) m.waiting m.remeasure_at o) (sym is) h
tick_by_parts (Some life) m h is =
    let next = tick_after life m.moment in
    let same = tick-session life m.moment in
    let free : IsFree m next.session =
    subst (λ (z : NodeId). IsFree m z) (sym same) (free-from (session_in m) (ids_in m) m.waiting m.remeasure_at life h) in
    subst (λ (z : NodeId). HasIds (judged (tick_outcome life m.moment) z (record m { measuring = Some next }))) same
    (judged_parts (tick_outcome life m.moment) next m free (tick-goes life m.moment h.going_on))

pub ticked_parts : (m : Machine) → HasIds m → HasIds (measurement_ticked m)
unfolding measurement_ticked
ticked_parts m h = tick_by_parts m.measuring m h refl

pub measured_sessions : (m : Machine) → AreSessions m → AreSessions (measurement_ticked m)
measured_sessions m sessions = from_parts (measurement_ticked m) (ticked_parts m (to_parts m sessions))
