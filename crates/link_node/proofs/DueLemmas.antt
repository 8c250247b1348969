-- When a tick has work: after a tick nothing is due, and commits put nothing off.
use Rattle.std.proofs.Common.{◌≡◌, ◌⊎◌, ◌+◌, ◌||◌, ◌&&◌, ◌==◌, ℕ, zero, suc, ℤ, pos, ◌+ℤ◌, ◌≤ℤ◌, ◌<ℤ◌, Bool, true, false, not, List, [], ◌∷◌, nat_lt, nat_le, int_lt, int_le, filter, map, Option, Some, None, refl, sym, ap, ◌∙◌, subst, inl, inr, arith}
use Rattle.std.proofs.lemmas.Bool.{and_parts, and_right, eqb-true, false≢true, or_parts}
use Rattle.std.proofs.lemmas.Bool.Decides.{Decides-int_eq, nat_tests}
use Rattle.std.proofs.lemmas.Int.{ints, clamps}
use Rattle.std.proofs.Math.Dec.{eqb-suc-zero}
use Rattle.std.proofs.lemmas.List.{append-nil}
use Rattle.std.specs.Prelude.{if◌then◌else◌, is_some, IfSome, IsSomeAnd, option_map}
use Rattle.std.specs.Int.{int_max, int_min}
use Rattle.std.specs.List.{AllByRecursion}
use Rattle.std.specs.Option.{option_map_or}
use Rattle.std.specs.Ordering.{int_eq}
use Rattle.lk_base.specs.IdOrder.{same_id}
use Rattle.lk_base.specs.declared.endpoint.Target.{Target}
use Rattle.lk_base.specs.declared.ids.NodeId.{NodeId}
use Rattle.lk_base.specs.declared.start.ClientStart.{ClientStart}
use Rattle.lk_base.specs.declared.timeline.Timeline.{Timeline}
use Rattle.peer_gateway.specs.Answers.{least_in, least_limit_of, peers_in, target_of}
use Rattle.peer_gateway.specs.Happenings.{Happening, lives, rows_of, was_pruned}
use Rattle.peer_gateway.specs.Happenings.Happening.{pruning}
use Rattle.peer_gateway.specs.declared.row.PeerRow.{PeerRow}
use Rattle.peer_gateway.proofs.LifeLemmas.{rows_more}
use Rattle.peer_gateway.proofs.MemberLemmas.{all_from_has, filter_has, map_has}
use Rattle.ping_measure.specs.Points.{silent}
use Rattle.ping_measure.specs.Life.{Life, deadline_of, is_early, is_over, opening, silences_of, tick_after, tick_outcome, with}
use Rattle.ping_measure.specs.declared.outcome.MeasureFault.TheVariants.{Silence}
use Rattle.ping_measure.specs.declared.outcome.Outcome.{Outcome}
use Rattle.ping_measure.specs.declared.outcome.Outcome.TheVariants.{Idle, Again, Done, Failed}
use Rattle.ping_measure.proofs.LifeLemmas.{deadline-going, deadline-silent, over-opening, over-silent}
use Rattle.ping_measure.proofs.OutcomeLemmas.{silent_outcome, tick-early, tick-late}
use Rattle.session_choice.specs.History.{forgotten, measured_after, measured_of}
use Rattle.session_choice.specs.declared.verdict.Verdict.{Verdict}
use Rattle.session_choice.specs.declared.verdict.Verdict.TheVariants.{Joined, Stayed, Remeasured, Unknown}
use Rattle.session_choice.proofs.Lists.{by_test}
use Rattle.client_state.specs.Commit.{same_bool, same_timeline}
use Rattle.client_state.specs.Timelines.{session_from_client_of}
use Rattle.client_state.specs.declared.commit.Commit.{Commit}
use Rattle.link_node.specs.Broadcast.{broadcast_after, is_broadcast, is_due_after}
use Rattle.link_node.specs.Client.{renewed}
use Rattle.link_node.specs.Commits.{app_taken, audio_taken, commit_taken, committed_by, rest_committed, start_committed, timeline_committed, with_client_start, with_client_timeline}
use Rattle.link_node.specs.Due.{broadcast_due, due_of, earlier_of, earliest_of, waiting_due}
use Rattle.link_node.specs.Event.{App, Audio, Tick}
use Rattle.link_node.specs.Machine.{Machine, offset_in, session_in, timeline_in}
use Rattle.link_node.specs.Measuring.{chosen, judged, measured, measurement_ticked, remeasured_later, tick_by, unmeasured}
use Rattle.link_node.specs.Publishing.{alike, same_client_start, shown, state_in}
use Rattle.link_node.specs.Settling.{counted, founded, held_in, is_left, noted, same_held, settled}
use Rattle.link_node.specs.Step.{at_moment, before_broadcast, before_shown, step_of}
use Rattle.link_node.specs.Tick.{begun, begun_at, begun_from, begun_one, cleared, idle_forgotten, is_remeasured, pruned, remeasure_queued, ticked, waiting_with}
use Rattle.link_node.specs.WellFormed.{IsMachine}
use Rattle.link_node.specs.declared.node.settling.Held.{Held}
use Rattle.peer_gateway.proofs.KeyLemmas.{id_from_test}
use Rattle.link_node.proofs.RuleLemmas.{begun_one-waiting}

-- ---- the earliest of several

abbrev pub IsAfter : ℤ → Option ℤ → Type 0
IsAfter now o = IfSome o (λ at. now <ℤ at)

pub earliest-after : (now at : ℤ) (others : List (Option ℤ)) → now <ℤ at → AllByRecursion (IsAfter now) others → now <ℤ earliest_of at others
earliest-after now at [] first all = first
earliest-after now at (None ∷ others) first all = earliest-after now at others first all.1
earliest-after now at (Some other ∷ others) first all =
    let second : now <ℤ other = all.0 in
    earliest-after now (int_min at other) others (omega (arith, ints, clamps)) all.1

-- ---- rows

least-after : (now : ℤ) (xs : List ℤ) → AllByRecursion (λ x. now <ℤ x) xs → IsAfter now (least_in xs)
least-after now [] all = tt
least-after now (x ∷ xs) all = with_least (least_in xs) (least-after now xs all.1)
  where
    with_least : (o : Option ℤ) → IsAfter now o → IsAfter now (Some (option_map_or (int_min x) o x))
    with_least None later = all.0
    with_least (Some y) later = let first : now <ℤ x = all.0 in omega (arith, ints, clamps)

pub pruned-after : (now : ℤ) (life : List Happening) → IsAfter now (least_limit_of (was_pruned now life))
unfolding least_limit_of
pruned-after now life =
    let rows : rows_of (was_pruned now life) ≡ filter (lives now) (rows_of life) =
    rows_more life (pruning now) ∙ append-nil (filter (lives now) (rows_of life)) in
    let limit : PeerRow → ℤ = λ row. row.limit in
    subst (λ (list : List PeerRow). IsAfter now (least_in (map limit list))) (sym rows)
    (least-after now (map limit (filter (lives now) (rows_of life)))
    (all_from_has (λ x. now <ℤ x) (map limit (filter (lives now) (rows_of life)))
    (λ x h.
    let row = map_has limit (filter (lives now) (rows_of life)) x h in
    subst (λ (z : ℤ). now <ℤ z) row.2 (later now row.0.limit (filter_has (lives now) (rows_of life) row.0 row.1).1))))
  where
    later : (a b : ℤ) → int_lt a b ≡ true → a <ℤ b
    later a b t = grind (arith, ints, nat_tests)

none-after : (now : ℤ) → IsAfter now (least_limit_of [])
unfolding least_limit_of rows_of
none-after now = tt

-- ---- the measurement that runs

-- no row ends by now, and the measurement's deadline is later
pub record AreAhead (now : ℤ) (life : List Happening) (measuring : Option Life) : Type 0 where
  pub limits : IsAfter now (least_limit_of life)
  pub deadline : IfSome measuring (λ life. now <ℤ deadline_of life)

abbrev pub IsAhead : Machine → Type 0
IsAhead m = AreAhead m.moment m.life m.measuring

abbrev IsBeyond : ℤ → Outcome → Life → Type 0
IsBeyond now Idle life = now <ℤ deadline_of life
IsBeyond now (Again ping) life = now <ℤ deadline_of life
IsBeyond now (Done xform) life = Unit {0}
IsBeyond now (Failed fault) life = Unit {0}

chosen_ahead : (verdict : Verdict) (m : Machine) → IsAhead m → IsAhead (chosen verdict m)
unfolding renewed
chosen_ahead Joined m h = h
chosen_ahead Remeasured m h = h
chosen_ahead Stayed m h = h
chosen_ahead Unknown m h = h

measured_ahead : (session : NodeId) (offset : ℤ) (m : Machine) → IsAhead m → IsAhead (measured session offset m)
unfolding measured
measured_ahead session offset m h =
    chosen_ahead (measured_of m.sessions session offset m.moment) (record m { sessions = measured_after m.sessions session offset m.moment }) h

unmeasured_ahead : (session : NodeId) (m : Machine) → IsAhead m → IsAhead (unmeasured session m)
unfolding unmeasured
unmeasured_ahead session m h =
    by_test (λ b. IsAhead (if b then remeasured_later m else record m { sessions = forgotten session m.sessions })) (same_id session (session_in m)) (λ _. h) (λ _. h)

judged_ahead : (outcome : Outcome) (session : NodeId) (life : Life) (m : Machine) → IsAfter m.moment (least_limit_of m.life) → IsBeyond m.moment outcome life
    → IsAhead (judged outcome session (record m { measuring = Some life }))
judged_ahead Idle session life m limits on = record { limits = limits; deadline = on }
judged_ahead (Again ping) session life m limits on = record { limits = limits; deadline = on }
judged_ahead (Done xform) session life m limits on = measured_ahead session xform.offset (record m { measuring = None }) (record { limits = limits; deadline = tt })
judged_ahead (Failed fault) session life m limits on = unmeasured_ahead session (record m { measuring = None }) (record { limits = limits; deadline = tt })

fifty-later : (now : ℤ) → now <ℤ (now +ℤ pos 50_000)
fifty-later now = omega (arith, ints)

thirty-later : (now : ℤ) → now <ℤ (now +ℤ pos 30_000_000)
thirty-later now = omega (arith, ints)

silent-beyond : (life : Life) (now : ℤ) → is_over life ≡ false → IsBeyond now (silent_outcome life now) (with life (silent now))
silent-beyond life now on =
    by_test (λ b. nat_lt (silences_of life + 1) 6 ≡ b → IsBeyond now (if b then Again (record { host = now; previous = None }) else Failed Silence) (with life (silent now))) (nat_lt (silences_of life + 1) 6)
    (λ _ less.
    let going : is_over (with life (silent now)) ≡ false = over-silent life now on ∙ six (silences_of life + 1) less in
    subst (λ (z : ℤ). now <ℤ z) (sym (deadline-silent life now going)) (fifty-later now))
    (λ _ _. tt) refl
  where
    six : (n : ℕ) → nat_lt n 6 ≡ true → nat_le 6 n ≡ false
    six n less = grind (arith, nat_tests)

early-beyond : (life : Life) (now : ℤ) → is_over life ≡ false → is_early life now ≡ true → now <ℤ deadline_of life
early-beyond life now on early =
    let before : int_lt now (deadline_of life) ≡ true = ap (λ b. b || int_lt now (deadline_of life)) (sym on) ∙ early in
    less now (deadline_of life) before
  where
    less : (a b : ℤ) → int_lt a b ≡ true → a <ℤ b
    less a b t = grind (arith, ints, nat_tests)

tick-beyond : (life : Life) (now : ℤ) → is_over life ≡ false → IsBeyond now (tick_outcome life now) (tick_after life now)
tick-beyond life now on =
    by_test (λ b. is_early life now ≡ b → IsBeyond now (tick_outcome life now) (tick_after life now)) (is_early life now)
    (λ _ early. let e = tick-early life now early in rw (e.0, e.1) (early-beyond life now on early))
    (λ _ late. let e = tick-late life now late in rw (e.0, e.1) (silent-beyond life now on)) refl

tick_by_ahead : (o : Option Life) (m : Machine) → m.measuring ≡ o → IfSome o (λ life. is_over life ≡ false) → IsAfter m.moment (least_limit_of m.life) → IsAhead (tick_by o m)
tick_by_ahead None m is on limits =
    subst (λ (o : Option Life). AreAhead m.moment m.life o) (sym is) (record { limits = limits; deadline = tt })
tick_by_ahead (Some life) m is on limits =
    judged_ahead (tick_outcome life m.moment) life.session (tick_after life m.moment) m limits (tick-beyond life m.moment on)

ticked-ahead : (m : Machine) → IfSome m.measuring (λ life. is_over life ≡ false) → IsAfter m.moment (least_limit_of m.life) → IsAhead (measurement_ticked m)
unfolding measurement_ticked
ticked-ahead m on limits = tick_by_ahead m.measuring m refl on limits

cleared-ahead : (m : Machine) → IfSome m.measuring (λ life. is_over life ≡ false) → IsAhead (measurement_ticked (cleared m))
unfolding cleared idle_forgotten pruned
cleared-ahead m on = ticked-ahead (cleared m) on (pruned-after m.moment m.life)

-- ---- what is measured anew, and what begins

-- and the current session is measured anew later
pub record IsLater (m : Machine) : Type 0 where
  pub ahead : IsAhead m
  pub anew : IsAfter m.moment m.remeasure_at

not-due : (o : Option ℤ) (now : ℤ) → is_remeasured o now ≡ false → IsAfter now o
not-due None now f = tt
not-due (Some at) now f = greater at now f
  where
    greater : (a b : ℤ) → int_le a b ≡ false → b <ℤ a
    greater a b t = grind (arith, ints, nat_tests)

queued-later : (m : Machine) → IsAhead m → IsLater (remeasure_queued m)
unfolding remeasure_queued
queued-later m h =
    by_test (λ b. is_remeasured m.remeasure_at m.moment ≡ b → IsLater (if b then record m { remeasure_at = None; waiting = waiting_with (session_in m) m.waiting } else m))
    (is_remeasured m.remeasure_at m.moment)
    (λ _ _. record { ahead = h; anew = tt }) (λ _ none. record { ahead = h; anew = not-due m.remeasure_at m.moment none }) refl

unmeasured-later : (session : NodeId) (m : Machine) → IsLater m → IsLater (unmeasured session m)
unfolding unmeasured
unmeasured-later session m h =
    by_test (λ b. IsLater (if b then remeasured_later m else record m { sessions = forgotten session m.sessions })) (same_id session (session_in m))
    (λ _. record { ahead = h.ahead; anew = thirty-later m.moment }) (λ _. record { ahead = h.ahead; anew = h.anew })

opening-beyond : (target : Target) (session : NodeId) (now : ℤ) → now <ℤ deadline_of (opening target session now)
opening-beyond target session now =
    subst (λ (z : ℤ). now <ℤ z) (sym (deadline-going (opening target session now) (over-opening (opening target session now) refl))) (fifty-later now)

begun_at-later : (target : Option Target) (session : NodeId) (m : Machine) → IsLater m → IsLater (begun_at target session m)
begun_at-later (Some target) session m h =
    record { ahead = record { limits = h.ahead.limits; deadline = opening-beyond target session m.moment }; anew = h.anew }
begun_at-later None session m h = unmeasured-later session m h

begun_one-later : (session : NodeId) (m : Machine) → IsLater m → IsLater (begun_one session m)
unfolding begun_one
begun_one-later session m h = begun_at-later (target_of session m.life) session m h

-- and nobody waits unless a measurement runs
pub record IsDone (m : Machine) : Type 0 where
  pub later : IsLater m
  pub none_wait : is_some m.measuring ≡ false → m.waiting ≡ []

begun_from-done : (waiting : List NodeId) (m : Machine) → m.waiting ≡ waiting → IsLater m → IsDone (begun_from waiting m)
unfolding begun_from
begun_from-done [] m is h = record { later = h; none_wait = λ _. is }
begun_from-done (session ∷ rest) m is h =
    by_test (λ b. is_some m.measuring ≡ b → IsDone (if b then m else begun_from rest (begun_one session (record m { waiting = rest })))) (is_some m.measuring)
    (λ _ some. record { later = h; none_wait = λ none. absurd (false≢true (sym none ∙ some)) })
    (λ _ _.
    let first = record m { waiting = rest } in
    begun_from-done rest (begun_one session first) (begun_one-waiting session first)
    (begun_one-later session first (record { ahead = h.ahead; anew = h.anew }))) refl

begun-done : (m : Machine) → IsLater m → IsDone (begun m)
unfolding begun
begun-done m h = begun_from-done m.waiting m refl h

ticked-done : (m : Machine) → IfSome m.measuring (λ life. is_over life ≡ false) → IsDone (ticked m)
unfolding ticked
ticked-done m on =
    begun-done (remeasure_queued (measurement_ticked (cleared m))) (queued-later (measurement_ticked (cleared m)) (cleared-ahead m on))

-- ---- settling and telling

settled-done : (m : Machine) → IsDone m → IsDone (settled m)
unfolding settled founded renewed
settled-done m h =
    by_test (λ b. IsDone (if b then founded (counted m) else counted m)) (is_left m)
    (λ _. record {
      later = record { ahead = record { limits = none-after m.moment; deadline = tt }; anew = tt };
      none_wait = λ _. refl;
    })
    (λ _. record { later = record { ahead = h.later.ahead; anew = h.later.anew }; none_wait = h.none_wait })

noted-done : (before : Held) (m : Machine) → IsDone m → IsDone (noted before m)
unfolding noted
noted-done before m h = record { later = record { ahead = h.later.ahead; anew = h.later.anew }; none_wait = h.none_wait }

-- and the next broadcast comes later
pub record IsTold (m : Machine) : Type 0 where
  pub done : IsDone m
  pub broadcast : m.moment <ℤ broadcast_due m.last_broadcast m.changed m.moment

not-broadcast : (last : Option ℤ) (changed : Bool) (now : ℤ) → is_due_after last changed now ≡ false → now <ℤ broadcast_due last changed now
not-broadcast None changed now f = absurd (false≢true (sym f))
not-broadcast (Some last) true now f = quick last now (or_parts (int_le (last +ℤ pos 250_000) now) (int_le (last +ℤ pos 50_000) now) f).1
  where
    quick : (a b : ℤ) → int_le (a +ℤ pos 50_000) b ≡ false → b <ℤ (a +ℤ pos 50_000)
    quick a b t = grind (arith, ints, nat_tests)
not-broadcast (Some last) false now f = slow last now (or_parts (int_le (last +ℤ pos 250_000) now) false f).0
  where
    slow : (a b : ℤ) → int_le (a +ℤ pos 250_000) b ≡ false → b <ℤ (a +ℤ pos 250_000)
    slow a b t = grind (arith, ints, nat_tests)

quarter-later : (now : ℤ) → now <ℤ (now +ℤ pos 250_000)
quarter-later now = omega (arith, ints)

broadcast-told : (m : Machine) → IsDone m → IsTold (broadcast_after m)
unfolding broadcast_after
broadcast-told m h =
    by_test (λ b. is_broadcast m ≡ b → IsTold (if b then record m { last_broadcast = Some m.moment; changed = false } else m)) (is_broadcast m)
    (λ _ _. record {
      done = record { later = record { ahead = h.later.ahead; anew = h.later.anew }; none_wait = h.none_wait };
      broadcast = quarter-later m.moment;
    })
    (λ _ none. record { done = h; broadcast = not-broadcast m.last_broadcast m.changed m.moment none }) refl

shown-told : (m : Machine) → IsTold m → IsTold (shown m)
unfolding shown
shown-told m h =
    by_test (λ b. IsTold (if b then m else record m { published = state_in m })) (alike (state_in m) m.published)
    (λ _. h)
    (λ _. record {
      done = record { later = record { ahead = h.done.later.ahead; anew = h.done.later.anew }; none_wait = h.done.none_wait };
      broadcast = h.broadcast;
    })

-- ---- after a tick

measuring-after : (now : ℤ) (o : Option Life) → IfSome o (λ life. now <ℤ deadline_of life) → IsAfter now (option_map deadline_of o)
measuring-after now None h = tt
measuring-after now (Some life) h = h

waiting-after : (now : ℤ) (o : Option Life) (waiting : List NodeId) → (is_some o ≡ false → waiting ≡ []) → IsAfter now (waiting_due o waiting now)
waiting-after now (Some life) waiting none = tt
waiting-after now None [] none = tt
waiting-after now None (session ∷ rest) none = let e = none refl in absurd (cc)

told-due : (m : Machine) → IsTold m → m.moment <ℤ due_of m
unfolding due_of
told-due m h =
    let later = h.done.later in
    earliest-after m.moment (broadcast_due m.last_broadcast m.changed m.moment)
    (least_limit_of m.life ∷ option_map deadline_of m.measuring ∷ m.remeasure_at ∷ waiting_due m.measuring m.waiting m.moment ∷ [])
    h.broadcast
    (later.ahead.limits, (measuring-after m.moment m.measuring later.ahead.deadline, (later.anew, (waiting-after m.moment m.measuring m.waiting h.done.none_wait, tt))))

pub tick_leaves_nothing_due : (m : Machine) (now : ℤ) → IsMachine m → (step_of m (Tick now)).moment <ℤ due_of (step_of m (Tick now))
unfolding step_of before_shown before_broadcast
tick_leaves_nothing_due m now h =
    let at = at_moment now m in
    told-due (step_of m (Tick now))
    (shown-told (before_shown (Tick now) m)
    (broadcast-told (before_broadcast (Tick now) m)
    (noted-done (held_in m) (settled (ticked at)) (settled-done (ticked at) (ticked-done at h.sessions.going_on)))))

-- ---- what is due

abbrev IsDueBy : ℤ → Option ℤ → Type 0
IsDueBy now o = IsSomeAnd o (λ at. at ≤ℤ now)

earlier-parts : (now at : ℤ) (o : Option ℤ) → earlier_of at o ≤ℤ now → (at ≤ℤ now) ⊎ IsDueBy now o
earlier-parts now at None h = inl h
earlier-parts now at (Some other) h =
    by_test (λ b. int_le at now ≡ b → (at ≤ℤ now) ⊎ (other ≤ℤ now)) (int_le at now)
    (λ _ t. inl (is_le at now t)) (λ _ f. inr (is_other at other now f h)) refl
  where
    is_le : (a b : ℤ) → int_le a b ≡ true → a ≤ℤ b
    is_le a b t = grind (arith, ints, nat_tests)

    is_gt : (a b : ℤ) → int_le a b ≡ false → b <ℤ a
    is_gt a b t = grind (arith, ints, nat_tests)

    is_other : (a b c : ℤ) → int_le a c ≡ false → int_min a b ≤ℤ c → b ≤ℤ c
    is_other a b c f le = let gt : c <ℤ a = is_gt a c f in omega (arith, ints, clamps)

earlier-first : (now at : ℤ) (o : Option ℤ) → at ≤ℤ now → earlier_of at o ≤ℤ now
earlier-first now at None h = h
earlier-first now at (Some other) h = omega (arith, ints, clamps)

earlier-second : (now at : ℤ) (o : Option ℤ) → IsDueBy now o → earlier_of at o ≤ℤ now
earlier-second now at None h = absurd h
earlier-second now at (Some other) h = let le : other ≤ℤ now = h in omega (arith, ints, clamps)

-- where each that was due is due, the earliest is
AreKept : ℤ → List (Option ℤ) → List (Option ℤ) → Type 0
AreKept now [] [] = Unit {0}
AreKept now [] (b ∷ news) = ⊥
AreKept now (a ∷ olds) [] = ⊥
AreKept now (a ∷ olds) (b ∷ news) = (IsDueBy now a → IsDueBy now b) × AreKept now olds news

earliest-kept : (now a b : ℤ) (olds news : List (Option ℤ)) → (a ≤ℤ now → b ≤ℤ now) → AreKept now olds news → earliest_of a olds ≤ℤ now → earliest_of b news ≤ℤ now
unfolding AreKept
earliest-kept now a b [] [] first all h = first h
earliest-kept now a b [] (y ∷ ys) first all h = absurd all
earliest-kept now a b (x ∷ xs) [] first all h = absurd all
earliest-kept now a b (x ∷ xs) (y ∷ ys) first all h =
    earliest-kept now (earlier_of a x) (earlier_of b y) xs ys
    (λ le. elim (earlier-parts now a x le) as (λ _. earlier_of b y ≤ℤ now)
    [ inl p ↦ earlier-first now b y (first p) | inr q ↦ earlier-second now b y (all.0 q) ])
    all.1 h

broadcast-kept : (last : Option ℤ) (changed more : Bool) (moment now : ℤ) → broadcast_due last changed moment ≤ℤ now → broadcast_due last (changed || more) (int_max moment now) ≤ℤ now
broadcast-kept None changed more moment now h = omega (arith, ints, clamps)
broadcast-kept (Some last) true more moment now h = h
broadcast-kept (Some last) false true moment now h = omega (arith, ints)
broadcast-kept (Some last) false false moment now h = h

waiting-kept : (o : Option Life) (waiting : List NodeId) (moment now : ℤ) → IsDueBy now (waiting_due o waiting moment) → IsDueBy now (waiting_due o waiting (int_max moment now))
waiting-kept (Some life) waiting moment now h = h
waiting-kept None [] moment now h = h
waiting-kept None (session ∷ rest) moment now h = let le : moment ≤ℤ now = h in omega (arith, ints, clamps)

-- the same as due_of, by what it depends on
due_by : Option ℤ → Bool → ℤ → List Happening → Option Life → Option ℤ → List NodeId → ℤ
due_by last changed moment life measuring later waiting =
    earliest_of (broadcast_due last changed moment) (least_limit_of life ∷ option_map deadline_of measuring ∷ later ∷ waiting_due measuring waiting moment ∷ [])

due-kept : (last : Option ℤ) (changed more : Bool) (moment now : ℤ) (life : List Happening) (measuring : Option Life) (later : Option ℤ) (waiting : List NodeId)
    → due_by last changed moment life measuring later waiting ≤ℤ now → due_by last (changed || more) (int_max moment now) life measuring later waiting ≤ℤ now
unfolding due_by AreKept
due-kept last changed more moment now life measuring later waiting h =
    earliest-kept now (broadcast_due last changed moment) (broadcast_due last (changed || more) (int_max moment now))
    (least_limit_of life ∷ option_map deadline_of measuring ∷ later ∷ waiting_due measuring waiting moment ∷ [])
    (least_limit_of life ∷ option_map deadline_of measuring ∷ later ∷ waiting_due measuring waiting (int_max moment now) ∷ [])
    (broadcast-kept last changed more moment now)
    ((λ p. p), ((λ p. p), ((λ p. p), (waiting-kept measuring waiting moment now, tt))))
    h

-- ---- a commit

-- what a commit leaves as it was
pub record LeavesDue (m n : Machine) : Type 0 where
  pub session : session_in n ≡ session_in m
  pub moment : n.moment ≡ m.moment
  pub life : n.life ≡ m.life
  pub peers : n.peers ≡ m.peers
  pub waiting : n.waiting ≡ m.waiting
  pub later : n.remeasure_at ≡ m.remeasure_at
  pub measuring : n.measuring ≡ m.measuring
  pub last : n.last_broadcast ≡ m.last_broadcast
  pub changed : n.changed ≡ m.changed

left-same : (m : Machine) → LeavesDue m m
left-same m = record { session = refl; moment = refl; life = refl; peers = refl; waiting = refl; later = refl; measuring = refl; last = refl; changed = refl }

start-left : (start : Option ClientStart) (m : Machine) → LeavesDue m (start_committed start m)
unfolding start_committed
start-left None m = left-same m
start-left (Some start) m =
    by_test (λ b. LeavesDue m (if b then with_client_start start m else m)) (int_lt m.client_start.stamp start.stamp)
    (λ _. record { session = refl; moment = refl; life = refl; peers = refl; waiting = refl; later = refl; measuring = refl; last = refl; changed = refl })
    (λ _. left-same m)

rest-left : (commit : Commit) (m : Machine) → LeavesDue m (rest_committed commit m)
rest-left commit m =
    let left = start-left commit.start m in
    record {
      session = left.session;
      moment = left.moment;
      life = left.life;
      peers = left.peers;
      waiting = left.waiting;
      later = left.later;
      measuring = left.measuring;
      last = left.last;
      changed = left.changed;
    }

committed-left : (session : Option Timeline) (client : Timeline) (commit : Commit) (m : Machine) → LeavesDue m (committed_by session client commit m)
unfolding renewed
committed-left None client commit m = left-same m
committed-left (Some session) client commit m =
    let n = with_client_timeline client session m in
    let left = start-left commit.start n in
    record {
      session = left.session;
      moment = left.moment;
      life = left.life;
      peers = left.peers;
      waiting = left.waiting;
      later = left.later;
      measuring = left.measuring;
      last = left.last;
      changed = left.changed;
    }

timeline-left : (timeline : Option Timeline) (commit : Commit) (m : Machine) → LeavesDue m (timeline_committed timeline commit m)
timeline-left None commit m = rest-left commit m
timeline-left (Some client) commit m = committed-left (session_from_client_of (timeline_in m) client commit.at (offset_in m)) client commit m

commit-left : (commit : Commit) (m : Machine) → LeavesDue m (commit_taken commit m)
unfolding commit_taken
commit-left commit m = timeline-left commit.timeline commit m

never-both : (n : ℕ) → (nat_lt 0 n && (n == 0)) ≡ false
never-both zero = refl
never-both (suc n) = and_right (nat_lt 0 (suc n)) (suc n == 0) (eqb-suc-zero n)

-- nobody founds a session where the peers are as they were counted
pub settled-counted : (m : Machine) → m.peers ≡ peers_in (session_in m) m.life → settled m ≡ counted m
unfolding settled
settled-counted m is =
    let stays : is_left m ≡ false = ap (λ n. nat_lt 0 n && (peers_in (session_in m) m.life == 0)) is ∙ never-both (peers_in (session_in m) m.life) in
    rw stays refl

shown-due : (m : Machine) → due_of (shown m) ≡ due_of m
unfolding shown due_of
shown-due m = by_test (λ b. due_of (if b then m else record m { published = state_in m }) ≡ due_of m) (alike (state_in m) m.published) (λ _. refl) (λ _. refl)

due-left : (m n : Machine) (now : ℤ) (more : Bool) → LeavesDue (at_moment now m) n
    → due_by m.last_broadcast m.changed m.moment m.life m.measuring m.remeasure_at m.waiting ≤ℤ now
    → due_by n.last_broadcast (n.changed || more) n.moment n.life n.measuring n.remeasure_at n.waiting ≤ℤ now
due-left m n now more left due =
    rw (left.last, left.changed, left.moment, left.life, left.measuring, left.later, left.waiting)
    (due-kept m.last_broadcast m.changed more m.moment now m.life m.measuring m.remeasure_at m.waiting due)

counted-due : (m n : Machine) (now : ℤ) → LeavesDue (at_moment now m) n → due_of m ≤ℤ now → due_of (noted (held_in m) (counted n)) ≤ℤ now
unfolding noted due_of due_by
counted-due m n now left due = due-left m n now (not (same_held (held_in m) (held_in (counted n)))) left due

-- after the rules of a commit and those of each event
committed-due : (m n : Machine) (now : ℤ) → IsMachine m → LeavesDue (at_moment now m) n → due_of m ≤ℤ now → due_of (shown (noted (held_in m) (settled n))) ≤ℤ now
committed-due m n now h left due =
    let is : n.peers ≡ peers_in (session_in n) n.life =
    left.peers ∙ h.peers ∙ ap (λ life. peers_in (session_in m) life) (sym left.life) ∙ ap (λ session. peers_in session n.life) (sym left.session) in
    subst (λ (at : ℤ). at ≤ℤ now) (sym (shown-due (noted (held_in m) (settled n))))
    (subst (λ (s : Machine). due_of (noted (held_in m) s) ≤ℤ now) (sym (settled-counted n is)) (counted-due m n now left due))

pub app-left : (commit : Commit) (m : Machine) → LeavesDue m (app_taken commit m)
unfolding app_taken
app-left commit m =
    let left = commit-left commit (record m { app = m.app + 1 }) in
    record {
      session = left.session;
      moment = left.moment;
      life = left.life;
      peers = left.peers;
      waiting = left.waiting;
      later = left.later;
      measuring = left.measuring;
      last = left.last;
      changed = left.changed;
    }

pub audio-left : (number : ℕ) (commit : Commit) (m : Machine) → LeavesDue m (audio_taken number commit m)
unfolding audio_taken
audio-left number commit m =
    let left = commit-left commit (record m { audio = number }) in
    record {
      session = left.session;
      moment = left.moment;
      life = left.life;
      peers = left.peers;
      waiting = left.waiting;
      later = left.later;
      measuring = left.measuring;
      last = left.last;
      changed = left.changed;
    }

pub app_puts_off_nothing : (m : Machine) (commit : Commit) (now : ℤ) → IsMachine m → due_of m ≤ℤ now → due_of (step_of m (App commit now)) ≤ℤ now
unfolding step_of before_shown before_broadcast
app_puts_off_nothing m commit now h due =
    committed-due m (app_taken commit (at_moment now m)) now h (app-left commit (at_moment now m)) due

pub audio_puts_off_nothing : (m : Machine) (number : ℕ) (commit : Commit) (now : ℤ) → IsMachine m → due_of m ≤ℤ now
    → due_of (step_of m (Audio number commit now)) ≤ℤ now
unfolding step_of before_shown before_broadcast
audio_puts_off_nothing m number commit now h due =
    committed-due m (audio_taken number commit (at_moment now m)) now h (audio-left number commit (at_moment now m)) due

-- ---- what the state published last tells

pub record Tells (m : Machine) : Type 0 where
  pub peers : m.published.peers ≡ m.peers
  pub app : m.published.app ≡ m.app
  pub audio : m.published.audio ≡ m.audio
  pub session : m.published.session ≡ session_in m
  pub quantum : m.published.quantum ≡ m.quantum

pub states_tell : (m : Machine) → IsMachine m → Tells m
unfolding alike
states_tell m h =
    let a = state_in m in
    let b = m.published in
    let of_session = same_id a.session b.session && int_eq a.quantum b.quantum in
    let of_audio = (a.audio == b.audio) && of_session in
    let of_app = (a.app == b.app) && of_audio in
    let counts = (a.peers == b.peers) && of_app in
    let of_sync = same_bool a.sync b.sync && counts in
    let of_start = same_client_start a.start b.start && of_sync in
    let rest = (and_parts (same_timeline a.timeline b.timeline) of_start h.shown).1 in
    let after_start = (and_parts (same_client_start a.start b.start) of_sync rest).1 in
    let after_sync = (and_parts (same_bool a.sync b.sync) counts after_start).1 in
    let peers = and_parts (a.peers == b.peers) of_app after_sync in
    let app = and_parts (a.app == b.app) of_audio peers.1 in
    let audio = and_parts (a.audio == b.audio) of_session app.1 in
    let session = and_parts (same_id a.session b.session) (int_eq a.quantum b.quantum) audio.1 in
    record {
      peers = sym (eqb-true a.peers b.peers peers.0);
      app = sym (eqb-true a.app b.app app.0);
      audio = sym (eqb-true a.audio b.audio audio.0);
      session = sym (id_from_test a.session b.session session.0);
      quantum = sym ((Decides-int_eq a.quantum b.quantum).0 session.1);
    }
