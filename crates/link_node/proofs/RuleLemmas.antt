-- What holds of sessions is kept by each rule of an event.
use Rattle.std.proofs.Common.{◌≡◌, ◌<◌, ◌+◌, ◌||◌, ◌==◌, ℕ, ℤ, Bool, true, false, not, List, [], ◌∷◌, ◌++◌, nat_lt, int_lt, length, Option, Some, None, refl, sym, ap, ◌∙◌, subst, inl, inr, arith}
use Rattle.std.proofs.lemmas.Bool.{false≢true}
use Rattle.std.proofs.lemmas.Bool.Decides.{nat_tests}
use Rattle.std.proofs.lemmas.List.{length-append, length-map, map-append}
use Rattle.std.specs.Prelude.{if◌then◌else◌, is_some, IfSome, IsSome}
use Rattle.lk_base.specs.IdOrder.{same_id}
use Rattle.lk_base.specs.declared.endpoint.Endpoint.{Endpoint}
use Rattle.lk_base.specs.declared.endpoint.Gate.{Gate}
use Rattle.lk_base.specs.declared.endpoint.Target.{Target}
use Rattle.lk_base.specs.declared.ids.NodeId.{NodeId}
use Rattle.lk_base.specs.declared.start.ClientStart.{ClientStart}
use Rattle.lk_base.specs.declared.timeline.Timeline.{Timeline}
use Rattle.link_payload.specs.declared.fields.PeerFields.{PeerFields}
use Rattle.link_payload.specs.declared.fields.PongFields.{PongFields}
use Rattle.asdp_messages.specs.Datagram.{MessageValue}
use Rattle.asdp_messages.specs.Datagram as message
use Rattle.asdp_messages.specs.Reading.{reading_of}
use Rattle.asdp_messages.specs.declared.fault.WireFault.{WireFault}
use Rattle.asdp_messages.specs.declared.message.StateMsg.{StateMsg}
use Rattle.std.proofs.Common.{Result, Ok, Err}
use Rattle.ghost_xform.specs.Rank.{offset_of}
use Rattle.ping_measure.specs.Points.{counted, strayed, points_in, points_of}
use Rattle.ping_measure.specs.Life.{Life, with, is_over, is_from, counted_outcome, opening, pong_outcome, pong_after}
use Rattle.ping_measure.specs.declared.outcome.MeasureFault.TheVariants.{OtherSession}
use Rattle.ping_measure.specs.declared.outcome.Outcome.TheVariants.{Idle, Again, Done, Failed}
use Rattle.ping_measure.proofs.LifeLemmas.{over-counted, over-opening}
use Rattle.peer_gateway.specs.Answers.{seen_of, target_of}
use Rattle.peer_gateway.specs.Happenings.{Has, said_goodbye}
use Rattle.peer_gateway.specs.declared.row.Seen.{Seen}
use Rattle.peer_gateway.specs.declared.row.Seen.TheVariants as seen
use Rattle.peer_gateway.proofs.MemberLemmas.{has_left, has_right, has_parts}
use Rattle.peer_gateway.proofs.KeyLemmas.{test_from_id}
use Rattle.session_choice.specs.History.{Taking, session_of, begun as begun_with, best_in, forgotten, other_in, saw_by, saw_known, saw_of, saw_after, taken_by, with_taken}
use Rattle.session_choice.specs.Keyed.{updated_by}
use Rattle.session_choice.specs.declared.verdict.Saw.TheVariants.{Taken, Kept, New, Full}
use Rattle.session_choice.proofs.Lists.{by_test}
use Rattle.client_state.specs.Timelines.{session_from_client_of}
use Rattle.client_state.specs.declared.commit.Commit.{Commit}
use Rattle.timeline_math.specs.Tidying.{tidy_of}
use Rattle.link_node.specs.Arrival.{arrived, is_heard}
use Rattle.link_node.specs.Client.{renewed}
use Rattle.link_node.specs.Commits.{app_taken, audio_taken, commit_taken, committed_by, start_committed, timeline_committed, with_client_start, with_client_timeline}
use Rattle.link_node.specs.Event.{EventValue, Rx, Tick, App, Audio, End}
use Rattle.link_node.specs.Machine.{Machine, session_in, timeline_in, offset_in}
use Rattle.link_node.specs.Measuring.{judged, measurement_ticked, pong_by, pong_heard, remeasured_later, unmeasured}
use Rattle.link_node.specs.Settling.{counted as recounted, id_drawn, founded, is_left, settled}
use Rattle.link_node.specs.Step.{taken}
use Rattle.link_node.specs.Taking.{followed, is_current, listened, sighted, start_taken, state_taken, timeline_taken, with_start}
use Rattle.link_node.specs.Tick.{begun, begun_at, begun_from, begun_one, cleared, is_remeasured, is_waiting, pruned, remeasure_queued, ticked, waiting_with}
use Rattle.link_node.proofs.IdLemmas.{distinct-last, has-found, ids-updated, waits-has}
use Rattle.link_node.proofs.SessionsLemmas.{AreFree, AreIds, GoesOn, HasIds, IsAlone, IsFree, forgotten_parts, free-from, ids_in, judged_parts, running-parts, ticked_parts, unmeasured_parts}

-- ---- a timeline that was told

-- a new session is known last and waits last
pushed-parts : (current new : NodeId) (others waiting : List NodeId) (later : Option ℤ) (measuring : Option Life) → (Has (current ∷ others) new → ⊥) → length others < 64
    → AreIds current others waiting later measuring → AreIds current (others ++ new ∷ []) (waiting ++ new ∷ []) later measuring
pushed-parts current new others waiting later measuring unknown room h = record {
  distinct = distinct-last (current ∷ others) new h.distinct unknown;
  few = omega (arith, length-append others (new ∷ []));
  known = λ id w. elim (has_parts waiting (new ∷ []) id w) as (λ _. Has (current ∷ others ++ new ∷ []) id) [
    | inl k ↦ has_left (current ∷ others) (new ∷ []) id (h.known id k)
    | inr k ↦ has_right (current ∷ others) (new ∷ []) id k
  ];
  once = distinct-last waiting new h.once (λ w. unknown (h.known new w));
  current_waits = λ is w. elim (has_parts waiting (new ∷ []) current w) as (λ _. ⊥) [
    | inl k ↦ h.current_waits is k
    | inr k ↦ elim k as (λ _. ⊥) [ inl e ↦ unknown (inl (sym e)) | inr none ↦ none ]
  ];
  measured = alone-pushed measuring h.measured;
  going_on = h.going_on;
}
  where
    alone-pushed : (o : Option Life) → IfSome o (λ life. IsAlone current others waiting later life.session)
        → IfSome o (λ life. IsAlone current (others ++ new ∷ []) (waiting ++ new ∷ []) later life.session)
    alone-pushed None alone = tt
    alone-pushed (Some life) alone = record {
      known = has_left (current ∷ others) (new ∷ []) life.session alone.known;
      alone = λ w. elim (has_parts waiting (new ∷ []) life.session w) as (λ _. ⊥) [
        | inl k ↦ alone.alone k
        | inr k ↦ elim k as (λ _. ⊥) [ inl e ↦ unknown (subst (λ (z : NodeId). Has (current ∷ others) z) (sym e) alone.known) | inr none ↦ none ]
      ];
      other = alone.other;
    }

-- the answer to a known session isn't that it is new
followed-known : (taking : Taking) (timeline : Timeline) (session : NodeId) (m : Machine) → HasIds m → HasIds (followed (saw_known taking timeline) session m)
unfolding renewed
followed-known taking timeline session m h =
    by_test (λ b. HasIds (followed (if b then Taken else Kept) session m)) (int_lt (best_in taking).beat timeline.beat)
    (λ _. by_test (λ b. HasIds (if b then renewed m else m)) (is_current session m) (λ _. h) (λ _. h)) (λ _. h)

seen-other-parts : (session : NodeId) (timeline : Timeline) (m : Machine) (o : Option Taking) → other_in session m.sessions ≡ o → same_id (session_in m) session ≡ false → HasIds m
    → HasIds (followed (saw_by o m.sessions timeline) session (record m { sessions = taken_by o m.sessions session timeline }))
seen-other-parts session timeline m None found other h =
    by_test (λ b. nat_lt (length m.sessions.others) 64 ≡ b
    → HasIds (followed (if b then New else Full) session (record m { sessions = if b then record m.sessions { others = m.sessions.others ++ begun_with session timeline ∷ [] } else m.sessions })))
    (nat_lt (length m.sessions.others) 64)
    (λ _ room.
    subst (λ (ids : List NodeId). AreIds (session_in m) ids (m.waiting ++ session ∷ []) m.remeasure_at m.measuring)
    (sym (map-append session_of m.sessions.others (begun_with session timeline ∷ [])))
    (pushed-parts (session_in m) session (ids_in m) m.waiting m.remeasure_at m.measuring
    (λ k. elim k as (λ _. ⊥) [
      | inl e ↦ false≢true (sym other ∙ test_from_id (session_in m) session e)
      | inr q ↦ false≢true (sym (ap is_some found) ∙ has-found session_of session m.sessions.others q)
    ])
    (less (length m.sessions.others) (length (ids_in m)) room (length-map m.sessions.others session_of)) h))
    (λ _ _. h)
    refl
  where
    less : (n k : ℕ) → nat_lt n 64 ≡ true → k ≡ n → k < 64
    less n k room e = grind (arith, nat_tests)
seen-other-parts session timeline m (Some taking) found other h =
    followed-known taking timeline session (record m { sessions = record m.sessions { others = updated_by session_of session (with_taken timeline) m.sessions.others } })
    (subst (λ (ids : List NodeId). AreIds (session_in m) ids m.waiting m.remeasure_at m.measuring)
    (sym (ids-updated session_of session (with_taken timeline) (λ row. refl) m.sessions.others)) h)

pub timeline_parts : (fields : PeerFields) (m : Machine) → HasIds m → HasIds (timeline_taken fields m)
unfolding timeline_taken saw_of saw_after
timeline_parts fields m h =
    let session = fields.session in
    let timeline = tidy_of fields.timeline in
    by_test (λ b. same_id (session_in m) session ≡ b
    → HasIds (followed (saw_by (if b then Some m.sessions.current else other_in session m.sessions) m.sessions timeline) session
    (record m { sessions = if b then record m.sessions { current = with_taken timeline m.sessions.current } else taken_by (other_in session m.sessions) m.sessions session timeline })))
    (same_id (session_in m) session)
    (λ _ _. followed-known m.sessions.current timeline session (record m { sessions = record m.sessions { current = with_taken timeline m.sessions.current } }) h)
    (λ _ other. seen-other-parts session timeline m (other_in session m.sessions) refl other h)
    refl

-- ---- a state that was told

start_parts : (fields : PeerFields) (m : Machine) → HasIds m → HasIds (start_taken fields m)
unfolding start_taken
start_parts fields m h = by_test (λ b. HasIds (if b then with_start fields.start m else m)) (is_current fields.session m) (λ _. h) (λ _. h)

listened-parts : (answer : Seen) (fields : PeerFields) (m : Machine) → HasIds m → HasIds (listened answer fields m)
listened-parts seen.TableFull fields m h = h
listened-parts seen.New fields m h = start_parts fields (timeline_taken fields m) (timeline_parts fields m h)
listened-parts seen.Known fields m h = start_parts fields (timeline_taken fields m) (timeline_parts fields m h)

pub state_parts : (gate : Gate) (msg : StateMsg) (m : Machine) → HasIds m → HasIds (state_taken gate msg m)
unfolding state_taken sighted
state_parts gate msg m h = listened-parts (seen_of gate msg.from m.life) msg.fields (sighted gate msg m) h

-- ---- a pong

counted-goes : (life : Life) (pong : PongFields) (now : ℤ) → is_over life ≡ false → GoesOn (counted_outcome life pong now) (with life (counted pong now))
counted-goes life pong now on =
    let points = points_of life.happened ++ points_in pong now in
    by_test (λ b. nat_lt 100 (length points) ≡ b
    → GoesOn (if b then Done (record { offset = offset_of points }) else Again (record { host = now; previous = Some pong.ghost_time })) (with life (counted pong now)))
    (nat_lt 100 (length points))
    (λ _ _. tt) (λ _ few. over-counted life pong now on ∙ few) refl

pong-goes : (life : Life) (gate : Gate) (from : Endpoint) (pong : PongFields) (now : ℤ) → is_over life ≡ false
    → GoesOn (pong_outcome life gate from pong now) (pong_after life gate from pong now)
unfolding pong_outcome pong_after
pong-goes life gate from pong now on =
    let stray = not (same_id pong.session life.session) in
    let none = length (points_in pong now) == 0 in
    let counts = counted_outcome life pong now in
    let more = with life (counted pong now) in
    by_test (λ b. GoesOn (if b then Idle else if stray then Failed (OtherSession pong.session) else if none then Idle else counts)
    (if b then life else if stray then with life (strayed pong.session) else if none then life else more))
    (is_over life || not (is_from life.target gate from))
    (λ _. on)
    (λ _. by_test (λ b. GoesOn (if b then Failed (OtherSession pong.session) else if none then Idle else counts)
    (if b then with life (strayed pong.session) else if none then life else more)) stray
    (λ _. tt)
    (λ _. by_test (λ b. GoesOn (if b then Idle else counts) (if b then life else more)) none (λ _. on) (λ _. counted-goes life pong now on)))

pong-session : (life : Life) (gate : Gate) (from : Endpoint) (pong : PongFields) (now : ℤ) → (pong_after life gate from pong now).session ≡ life.session
unfolding pong_after
pong-session life gate from pong now =
    let stray = not (same_id pong.session life.session) in
    let none = length (points_in pong now) == 0 in
    by_test (λ b. (if b then life else if stray then with life (strayed pong.session) else if none then life else with life (counted pong now)).session ≡ life.session)
    (is_over life || not (is_from life.target gate from))
    (λ _. refl)
    (λ _. by_test (λ b. (if b then with life (strayed pong.session) else if none then life else with life (counted pong now)).session ≡ life.session) stray
    (λ _. refl)
    (λ _. by_test (λ b. (if b then life else with life (counted pong now)).session ≡ life.session) none (λ _. refl) (λ _. refl)))

pong_by_parts : (o : Option Life) (gate : Gate) (from : Endpoint) (pong : PongFields) (m : Machine) → AreIds (session_in m) (ids_in m) m.waiting m.remeasure_at o
    → m.measuring ≡ o → HasIds (pong_by o gate from pong m)
pong_by_parts None gate from pong m h is = subst (λ (o : Option Life). AreIds (session_in m) (ids_in m) m.waiting m.remeasure_at o) (sym is) h
pong_by_parts (Some life) gate from pong m h is =
    let next = pong_after life gate from pong m.moment in
    let same = pong-session life gate from pong m.moment in
    let free : IsFree m next.session =
    subst (λ (z : NodeId). IsFree m z) (sym same) (free-from (session_in m) (ids_in m) m.waiting m.remeasure_at life h) in
    subst (λ (z : NodeId). HasIds (judged (pong_outcome life gate from pong m.moment) z (record m { measuring = Some next }))) same
    (judged_parts (pong_outcome life gate from pong m.moment) next m free (pong-goes life gate from pong m.moment h.going_on))

pub pong_parts : (gate : Gate) (from : Endpoint) (pong : PongFields) (m : Machine) → HasIds m → HasIds (pong_heard gate from pong m)
unfolding pong_heard
pong_parts gate from pong m h = pong_by_parts m.measuring gate from pong m h refl

-- ---- a datagram

heard-parts : (b : Bool) (m n : Machine) → HasIds n → HasIds m → HasIds (if b then n else m)
heard-parts true m n heard not_heard = heard
heard-parts false m n heard not_heard = not_heard

arrived_parts : (gate : Gate) (from : Endpoint) (read : Result MessageValue WireFault) (m : Machine) → HasIds m → HasIds (arrived gate from read m)
arrived_parts gate from (Ok (message.Alive msg)) m h = heard-parts (is_heard msg.from msg.group m) m (state_taken gate msg m) (state_parts gate msg m h) h
arrived_parts gate from (Ok (message.Response msg)) m h = heard-parts (is_heard msg.from msg.group m) m (state_taken gate msg m) (state_parts gate msg m h) h
arrived_parts gate from (Ok (message.Bye id ttl group)) m h = by_test (λ b. HasIds (if b then record m { life = said_goodbye gate id m.life } else m)) (is_heard id group m) (λ _. h) (λ _. h)
arrived_parts gate from (Ok (message.Ping payload)) m h = h
arrived_parts gate from (Ok (message.Pong pong)) m h = pong_parts gate from pong m h
arrived_parts gate from (Ok (message.OtherDiscovery kind)) m h = h
arrived_parts gate from (Ok (message.OtherLink kind)) m h = h
arrived_parts gate from (Err fault) m h = h

-- ---- a tick

-- the current session, where it was to be measured later, waits now
queued-parts : (current : NodeId) (others waiting : List NodeId) (later : Option ℤ) (measuring : Option Life) → IsSome later → AreIds current others waiting later measuring
    → AreIds current others (waiting_with current waiting) None measuring
queued-parts current others waiting later measuring is h =
    by_test (λ b. is_waiting current waiting ≡ b → AreIds current others (if b then waiting else waiting ++ current ∷ []) None measuring) (is_waiting current waiting)
    (λ _ waits. absurd (h.current_waits is (waits-has current waiting waits)))
    (λ _ free. record {
      distinct = h.distinct;
      few = h.few;
      known = λ id w. elim (has_parts waiting (current ∷ []) id w) as (λ _. Has (current ∷ others) id)
          [ inl k ↦ h.known id k | inr k ↦ elim k as (λ _. Has (current ∷ others) id) [ inl e ↦ inl e | inr none ↦ absurd none ] ];
      once = distinct-last waiting current h.once (h.current_waits is);
      current_waits = λ never. absurd (false≢true never);
      measured = alone-queued measuring h.measured;
      going_on = h.going_on;
    })
    refl
  where
    alone-queued : (o : Option Life) → IfSome o (λ life. IsAlone current others waiting later life.session)
        → IfSome o (λ life. IsAlone current others (waiting ++ current ∷ []) None life.session)
    alone-queued None alone = tt
    alone-queued (Some life) alone = record {
      known = alone.known;
      alone = λ w. elim (has_parts waiting (current ∷ []) life.session w) as (λ _. ⊥)
          [ inl k ↦ alone.alone k | inr k ↦ elim k as (λ _. ⊥) [ inl e ↦ alone.other is (sym e) | inr none ↦ none ] ];
      other = λ never. absurd (false≢true never);
    }

is-some : (o : Option ℤ) (now : ℤ) → is_remeasured o now ≡ true → IsSome o
is-some None now t = t
is-some (Some at) now t = refl

queue_parts : (m : Machine) → HasIds m → HasIds (remeasure_queued m)
unfolding remeasure_queued
queue_parts m h =
    by_test (λ b. is_remeasured m.remeasure_at m.moment ≡ b → HasIds (if b then record m { remeasure_at = None; waiting = waiting_with (session_in m) m.waiting } else m))
    (is_remeasured m.remeasure_at m.moment)
    (λ _ due. queued-parts (session_in m) (ids_in m) m.waiting m.remeasure_at m.measuring (is-some m.remeasure_at m.moment due) h) (λ _ _. h) refl

-- the first of those that wait is taken from the list
first-free : (current session : NodeId) (others rest : List NodeId) (later : Option ℤ) → AreIds current others (session ∷ rest) later None → AreFree current others rest later session
first-free current session others rest later h = record {
  parts = record {
    distinct = h.distinct;
    few = h.few;
    known = λ id w. h.known id (inr w);
    once = h.once.1;
    current_waits = λ is w. h.current_waits is (inr w);
    measured = tt;
    going_on = tt;
  };
  alone = record { known = h.known session (inl refl); alone = h.once.0; other = λ is e. h.current_waits is (inl e) };
}

begun_at_parts : (target : Option Target) (session : NodeId) (m : Machine) → m.measuring ≡ None → IsFree m session → HasIds (begun_at target session m)
begun_at_parts (Some target) session m none free =
    running-parts (session_in m) (ids_in m) m.waiting m.remeasure_at (opening target session m.moment) free (over-opening (opening target session m.moment) refl)
begun_at_parts None session m none free = unmeasured_parts session m none free

pub unmeasured-waiting : (session : NodeId) (m : Machine) → (unmeasured session m).waiting ≡ m.waiting
unfolding unmeasured
unmeasured-waiting session m =
    by_test (λ b. (if b then remeasured_later m else record m { sessions = forgotten session m.sessions }).waiting ≡ m.waiting) (same_id session (session_in m)) (λ _. refl) (λ _. refl)

begun_at-waiting : (target : Option Target) (session : NodeId) (m : Machine) → (begun_at target session m).waiting ≡ m.waiting
begun_at-waiting (Some target) session m = refl
begun_at-waiting None session m = unmeasured-waiting session m

pub begun_one-waiting : (session : NodeId) (m : Machine) → (begun_one session m).waiting ≡ m.waiting
unfolding begun_one
begun_one-waiting session m = begun_at-waiting (target_of session m.life) session m

pub none-there : {A : Type 0} (o : Option A) → is_some o ≡ false → o ≡ None
none-there None f = refl
none-there (Some x) f = absurd (false≢true (sym f))

one_parts : (session : NodeId) (m : Machine) → m.measuring ≡ None → IsFree m session → HasIds (begun_one session m)
unfolding begun_one
one_parts session m none free = begun_at_parts (target_of session m.life) session m none free

begun_from_parts : (waiting : List NodeId) (m : Machine) → m.waiting ≡ waiting → HasIds m → HasIds (begun_from waiting m)
unfolding begun_from
begun_from_parts [] m is h = h
begun_from_parts (session ∷ rest) m is h =
    by_test (λ b. is_some m.measuring ≡ b → HasIds (if b then m else begun_from rest (begun_one session (record m { waiting = rest })))) (is_some m.measuring)
    (λ _ _. h)
    (λ _ free.
    let none = none-there m.measuring free in
    let first = record m { waiting = rest } in
    begun_from_parts rest (begun_one session first) (begun_one-waiting session first)
    (one_parts session first none
    (first-free (session_in m) session (ids_in m) rest m.remeasure_at
    (subst (λ (o : Option Life). AreIds (session_in m) (ids_in m) (session ∷ rest) m.remeasure_at o) none
    (subst (λ (ids : List NodeId). AreIds (session_in m) (ids_in m) ids m.remeasure_at m.measuring) is h)))))
    refl

begun_parts : (m : Machine) → HasIds m → HasIds (begun m)
unfolding begun
begun_parts m h = begun_from_parts m.waiting m refl h

cleared_parts : (m : Machine) → HasIds m → HasIds (cleared m)
unfolding cleared pruned
cleared_parts m h = forgotten_parts (pruned m) h

tick_parts : (m : Machine) → HasIds m → HasIds (ticked m)
unfolding ticked
tick_parts m h =
    begun_parts (remeasure_queued (measurement_ticked (cleared m)))
    (queue_parts (measurement_ticked (cleared m)) (ticked_parts (cleared m) (cleared_parts m h)))

-- ---- a commit

start_committed_parts : (start : Option ClientStart) (m : Machine) → HasIds m → HasIds (start_committed start m)
unfolding start_committed
start_committed_parts None m h = h
start_committed_parts (Some start) m h = by_test (λ b. HasIds (if b then with_client_start start m else m)) (int_lt m.client_start.stamp start.stamp) (λ _. h) (λ _. h)

committed_parts : (session : Option Timeline) (client : Timeline) (commit : Commit) (m : Machine) → HasIds m → HasIds (committed_by session client commit m)
unfolding renewed
committed_parts None client commit m h = h
committed_parts (Some session) client commit m h = start_committed_parts commit.start (with_client_timeline client session m) h

timeline_committed_parts : (timeline : Option Timeline) (commit : Commit) (m : Machine) → HasIds m → HasIds (timeline_committed timeline commit m)
timeline_committed_parts None commit m h = start_committed_parts commit.start m h
timeline_committed_parts (Some client) commit m h =
    committed_parts (session_from_client_of (timeline_in m) client commit.at (offset_in m)) client commit m h

commit_parts : (commit : Commit) (m : Machine) → HasIds m → HasIds (commit_taken commit m)
unfolding commit_taken
commit_parts commit m h = timeline_committed_parts commit.timeline commit m h

-- ---- an event

pub taken_parts : (e : EventValue) (m : Machine) → HasIds m → HasIds (taken e m)
unfolding app_taken audio_taken
taken_parts (Rx gate from bytes now) m h = arrived_parts gate from (reading_of bytes) m h
taken_parts (Tick now) m h = tick_parts m h
taken_parts (App commit now) m h = commit_parts commit (record m { app = m.app + 1 }) h
taken_parts (Audio number commit now) m h = commit_parts commit (record m { audio = number }) h
taken_parts (End now) m h = h

pub alone-parts : (current : NodeId) → AreIds current [] [] None None
alone-parts current = record {
  distinct = (λ h. h, tt);
  few = omega arith;
  known = λ id w. absurd w;
  once = tt;
  current_waits = λ is w. w;
  measured = tt;
  going_on = tt;
}

pub settled_parts : (m : Machine) → HasIds m → HasIds (settled m)
unfolding settled founded renewed
settled_parts m h = by_test (λ b. HasIds (if b then founded (recounted m) else recounted m)) (is_left m) (λ _. alone-parts (id_drawn m.config.seed m.drawn)) (λ _. h)
