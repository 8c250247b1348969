-- Where the timelines that a node's sessions have taken come from, rule by rule.
use Rattle.std.proofs.Common.{◌≡◌, ◌⊎◌, inl, inr, ℕ, ℤ, ◌+◌, Bool, true, false, List, [], ◌∷◌, ◌++◌, Option, Some, None, Result, Ok, Err, refl, sym, ap, subst, ◌∙◌}
use Rattle.std.specs.Prelude.{int_lt, is_some, if◌then◌else◌}
use Rattle.lk_base.specs.IdOrder.{same_id}
use Rattle.lk_base.specs.declared.endpoint.Endpoint.{Endpoint}
use Rattle.lk_base.specs.declared.endpoint.Gate.{Gate}
use Rattle.lk_base.specs.declared.endpoint.Target.{Target}
use Rattle.lk_base.specs.declared.ids.NodeId.{NodeId}
use Rattle.lk_base.specs.declared.start.ClientStart.{ClientStart}
use Rattle.lk_base.specs.declared.timeline.Timeline.{Timeline}
use Rattle.link_payload.specs.declared.fields.PeerFields.{PeerFields}
use Rattle.link_payload.specs.declared.fields.PongFields.{PongFields}
use Rattle.asdp_messages.specs.Datagram.{MessageValue}
use Rattle.asdp_messages.specs.Datagram as message
use Rattle.asdp_messages.specs.Reading.{reading_of}
use Rattle.asdp_messages.specs.declared.fault.WireFault.{WireFault}
use Rattle.asdp_messages.specs.declared.message.StateMsg.{StateMsg}
use Rattle.peer_gateway.specs.Answers.{target_of, seen_of}
use Rattle.peer_gateway.specs.Happenings.{Has, said_goodbye}
use Rattle.peer_gateway.specs.declared.row.Seen.{Seen}
use Rattle.peer_gateway.specs.declared.row.Seen.TheVariants as seen
use Rattle.ping_measure.specs.Life.{Life, pong_outcome, pong_after, tick_outcome, tick_after}
use Rattle.ping_measure.specs.declared.outcome.Outcome.{Outcome}
use Rattle.ping_measure.specs.declared.outcome.Outcome.TheVariants.{Idle, Again, Done, Failed}
use Rattle.session_choice.specs.History.{Taking, measured_of, measured_after, forgotten, committed, saw_of, saw_after}
use Rattle.session_choice.specs.declared.verdict.Saw.{Saw}
use Rattle.session_choice.specs.declared.verdict.Saw.TheVariants as saw
use Rattle.session_choice.specs.declared.verdict.Verdict.{Verdict}
use Rattle.session_choice.specs.declared.verdict.Verdict.TheVariants.{Joined, Stayed, Remeasured, Unknown}
use Rattle.timeline_math.specs.Tidying.{tidy_of}
use Rattle.client_state.specs.Timelines.{session_from_client_of}
use Rattle.client_state.specs.declared.commit.Commit.{Commit}
use Rattle.link_node.specs.Arrival.{arrived, is_heard}
use Rattle.link_node.specs.Broadcast.{broadcast_after, is_broadcast}
use Rattle.link_node.specs.Brought.{IsTakenIn, given_of, given_by, founded_by, made_by, TellsTimeline, Brings}
use Rattle.link_node.specs.Brought as brought
use Rattle.link_node.specs.Client.{renewed}
use Rattle.link_node.specs.Commits.{start_committed, with_client_start, client_taken, committed_by, timeline_committed, commit_taken, app_taken, audio_taken}
use Rattle.link_node.specs.Event.{EventValue, Rx, Tick, App, Audio, End, moment_of}
use Rattle.link_node.specs.Machine.{Machine, session_in, timeline_in, offset_in}
use Rattle.link_node.specs.Measuring.{remeasured_later, chosen, measured, unmeasured, judged, pong_by, pong_heard, tick_by, measurement_ticked}
use Rattle.link_node.specs.Publishing.{shown, alike, state_in}
use Rattle.link_node.specs.Settling.{id_drawn, founding_timeline_in, settled, founded, counted, is_left, noted}
use Rattle.link_node.specs.Step.{at_moment, taken, before_broadcast, broadcast_by, before_shown, step_of}
use Rattle.link_node.specs.Taking.{followed, timeline_taken, with_start, start_taken, sighted, listened, state_taken, is_current}
use Rattle.link_node.specs.Tick.{pruned, is_needed, idle_forgotten, waiting_with, remeasure_queued, is_remeasured, begun_at, begun_one, begun_from, begun, cleared, ticked}
use Rattle.peer_gateway.proofs.MemberLemmas.{has_left, has_right}
use Rattle.session_choice.proofs.Lists.{by_test}
use Rattle.link_node.proofs.TakenLemmas.{known, Within, took_within, forgotten_within, filtered_within, measured_within, IsGiven, committed_took, saw_took}

-- the second machine's sessions have taken nothing that the first's haven't
abbrev pub Adds : Machine → Machine → Type 0
Adds m n = Within (known m.sessions) (known n.sessions)

none : (m : Machine) → Adds m m
none m taking has = has

either : (m : Machine) (b : Bool) (n o : Machine) → Adds m n → Adds m o → Adds m (if b then n else o)
either m b n o first second = by_test (λ t. Adds m (if t then n else o)) b (λ _. first) (λ _. second)

onward : (m n o : Machine) → Adds m n → Adds n o → Adds m o
onward m n o first second taking has = first taking (second taking has)

-- ---- measurements

in_chosen : (verdict : Verdict) (m : Machine) → Adds m (chosen verdict m)
unfolding renewed
in_chosen Joined m taking has = has
in_chosen Remeasured m taking has = has
in_chosen Stayed m taking has = has
in_chosen Unknown m taking has = has

in_measured : (session : NodeId) (offset : ℤ) (m : Machine) → Adds m (measured session offset m)
unfolding measured
in_measured session offset m taking has =
    let next = record m { sessions = measured_after m.sessions session offset m.moment } in
    measured_within m.sessions session offset m.moment taking (in_chosen (measured_of m.sessions session offset m.moment) next taking has)

in_unmeasured : (session : NodeId) (m : Machine) → Adds m (unmeasured session m)
unfolding unmeasured
in_unmeasured session m =
    either m (same_id session (session_in m)) (remeasured_later m) (record m { sessions = forgotten session m.sessions })
    (λ taking has. has) (forgotten_within session m.sessions)

in_judged : (outcome : Outcome) (session : NodeId) (m : Machine) → Adds m (judged outcome session m)
in_judged Idle session m taking has = has
in_judged (Again ping) session m taking has = has
in_judged (Done xform) session m taking has = in_measured session xform.offset (record m { measuring = None }) taking has
in_judged (Failed fault) session m taking has = in_unmeasured session (record m { measuring = None }) taking has

in_pong_by : (running : Option Life) (gate : Gate) (from : Endpoint) (pong : PongFields) (m : Machine) → Adds m (pong_by running gate from pong m)
in_pong_by None gate from pong m taking has = has
in_pong_by (Some life) gate from pong m taking has =
    in_judged (pong_outcome life gate from pong m.moment) life.session (record m { measuring = Some (pong_after life gate from pong m.moment) }) taking has

pub in_pong : (gate : Gate) (from : Endpoint) (pong : PongFields) (m : Machine) → Adds m (pong_heard gate from pong m)
unfolding pong_heard
in_pong gate from pong m = in_pong_by m.measuring gate from pong m

in_tick_by : (running : Option Life) (m : Machine) → Adds m (tick_by running m)
in_tick_by None m taking has = has
in_tick_by (Some life) m taking has =
    in_judged (tick_outcome life m.moment) life.session (record m { measuring = Some (tick_after life m.moment) }) taking has

-- ---- a tick

in_cleared : (m : Machine) → Adds m (cleared m)
unfolding cleared idle_forgotten pruned
in_cleared m = filtered_within (is_needed (pruned m)) m.sessions

in_measurement : (m : Machine) → Adds m (measurement_ticked m)
unfolding measurement_ticked
in_measurement m = in_tick_by m.measuring m

in_queued : (m : Machine) → Adds m (remeasure_queued m)
unfolding remeasure_queued
in_queued m =
    either m (is_remeasured m.remeasure_at m.moment) (record m { remeasure_at = None; waiting = waiting_with (session_in m) m.waiting }) m
    (λ taking has. has) (none m)

in_begun_at : (target : Option Target) (session : NodeId) (m : Machine) → Adds m (begun_at target session m)
in_begun_at (Some target) session m = none m
in_begun_at None session m = in_unmeasured session m

in_begun_one : (session : NodeId) (m : Machine) → Adds m (begun_one session m)
unfolding begun_one
in_begun_one session m = in_begun_at (target_of session m.life) session m

in_begun_from : (waiting : List NodeId) (m : Machine) → Adds m (begun_from waiting m)
unfolding begun_from
in_begun_from [] m = none m
in_begun_from (session ∷ rest) m =
    let next = begun_one session (record m { waiting = rest }) in
    either m (is_some m.measuring) m (begun_from rest next) (none m)
    (onward m next (begun_from rest next) (in_begun_one session (record m { waiting = rest })) (in_begun_from rest next))

pub in_ticked : (m : Machine) → Adds m (ticked m)
unfolding ticked begun
in_ticked m =
    let a = cleared m in
    let b = measurement_ticked a in
    let c = remeasure_queued b in
    onward m a (ticked m) (in_cleared m) (onward a b (ticked m) (in_measurement a) (onward b c (ticked m) (in_queued b) (in_begun_from c.waiting c)))

-- ---- a message

in_followed : (answer : Saw) (session : NodeId) (m : Machine) → Adds m (followed answer session m)
unfolding renewed
in_followed saw.New session m = none m
in_followed saw.Taken session m = either m (is_current session m) (renewed m) m (λ taking has. has) (none m)
in_followed saw.Kept session m = none m
in_followed saw.Full session m = none m

in_start : (fields : PeerFields) (m : Machine) → Adds m (start_taken fields m)
unfolding start_taken
in_start fields m = either m (is_current fields.session m) (with_start fields.start m) m (λ taking has. has) (none m)

took_timeline : (fields : PeerFields) (m : Machine) (session : NodeId) (tl : Timeline) → IsTakenIn (timeline_taken fields m) session tl
    → IsTakenIn m session tl ⊎ IsGiven fields.session (tidy_of fields.timeline) session tl
unfolding timeline_taken
took_timeline fields m session tl took =
    let seen = tidy_of fields.timeline in
    let next = record m { sessions = saw_after m.sessions fields.session seen } in
    let after = followed (saw_of m.sessions fields.session seen) fields.session next in
    saw_took m.sessions fields.session seen session tl
    (took_within (known next.sessions) (known after.sessions) (in_followed (saw_of m.sessions fields.session seen) fields.session next) session tl took)

took_fields : (fields : PeerFields) (m : Machine) (session : NodeId) (tl : Timeline) → IsTakenIn (start_taken fields (timeline_taken fields m)) session tl
    → IsTakenIn m session tl ⊎ IsGiven fields.session (tidy_of fields.timeline) session tl
took_fields fields m session tl took =
    let next = timeline_taken fields m in
    took_timeline fields m session tl
    (took_within (known next.sessions) (known (start_taken fields next).sessions) (in_start fields next) session tl took)

took_listened : (answer : Seen) (fields : PeerFields) (m : Machine) (session : NodeId) (tl : Timeline) → IsTakenIn (listened answer fields m) session tl
    → IsTakenIn m session tl ⊎ IsGiven fields.session (tidy_of fields.timeline) session tl
took_listened seen.TableFull fields m session tl took = inl took
took_listened seen.New fields m session tl took = took_fields fields m session tl took
took_listened seen.Known fields m session tl took = took_fields fields m session tl took

took_state : (gate : Gate) (msg : StateMsg) (m : Machine) (session : NodeId) (tl : Timeline) → IsTakenIn (state_taken gate msg m) session tl
    → IsTakenIn m session tl ⊎ IsGiven msg.fields.session (tidy_of msg.fields.timeline) session tl
unfolding state_taken sighted
took_state gate msg m session tl took = took_listened (seen_of gate msg.from m.life) msg.fields (sighted gate msg m) session tl took

took_heard : (b : Bool) (gate : Gate) (msg : StateMsg) (m : Machine) (session : NodeId) (tl : Timeline) → IsTakenIn (if b then state_taken gate msg m else m) session tl
    → IsTakenIn m session tl ⊎ IsGiven msg.fields.session (tidy_of msg.fields.timeline) session tl
took_heard true gate msg m session tl took = took_state gate msg m session tl took
took_heard false gate msg m session tl took = inl took

took_arrived : (gate : Gate) (from : Endpoint) (reading : Result MessageValue WireFault) (m : Machine) (session : NodeId) (tl : Timeline)
    → IsTakenIn (arrived gate from reading m) session tl → IsTakenIn m session tl ⊎ TellsTimeline reading session tl
took_arrived gate from (Ok (message.Alive msg)) m session tl took = took_heard (is_heard msg.from msg.group m) gate msg m session tl took
took_arrived gate from (Ok (message.Response msg)) m session tl took = took_heard (is_heard msg.from msg.group m) gate msg m session tl took
took_arrived gate from (Ok (message.Bye id ttl group)) m session tl took =
    by_test (λ b. IsTakenIn (if b then record m { life = said_goodbye gate id m.life } else m) session tl → IsTakenIn m session tl ⊎ ⊥) (is_heard id group m)
    (λ _ old. inl old) (λ _ old. inl old) took
took_arrived gate from (Ok (message.Ping payload)) m session tl took = inl took
took_arrived gate from (Ok (message.Pong pong)) m session tl took =
    inl (took_within (known m.sessions) (known (pong_heard gate from pong m).sessions) (in_pong gate from pong m) session tl took)
took_arrived gate from (Ok (message.OtherDiscovery kind)) m session tl took = inl took
took_arrived gate from (Ok (message.OtherLink kind)) m session tl took = inl took
took_arrived gate from (Err fault) m session tl took = inl took

-- ---- a commit

in_start_committed : (start : Option ClientStart) (m : Machine) → Adds m (start_committed start m)
unfolding start_committed
in_start_committed None m = none m
in_start_committed (Some start) m =
    either m (int_lt m.client_start.stamp start.stamp) (with_client_start start m) m (λ taking has. has) (none m)

took_client : (given client : Timeline) (start : Option ClientStart) (m : Machine) (session : NodeId) (tl : Timeline)
    → IsTakenIn (start_committed start (client_taken (Some given) client m)) session tl → IsTakenIn m session tl ⊎ IsGiven (session_in m) given session tl
unfolding renewed
took_client given client start m session tl took =
    let next = client_taken (Some given) client m in
    committed_took m.sessions given session tl
    (took_within (known (committed given m.sessions)) (known (start_committed start next).sessions) (in_start_committed start next) session tl took)

paired : (a b : NodeId) (x y : Timeline) → a ≡ b → x ≡ y → ◌≡◌ {A = NodeId × Timeline} (a, x) (b, y)
paired a b x y e f = ap (λ (i : NodeId). (i, x)) e ∙ ap (λ (t : Timeline). (b, t)) f

took_committed_by : (given : Option Timeline) (client : Timeline) (commit : Commit) (m : Machine) (session : NodeId) (tl : Timeline)
    → IsTakenIn (committed_by given client commit m) session tl → IsTakenIn m session tl ⊎ Has (given_of given m) (session, tl)
took_committed_by None client commit m session tl took = inl took
took_committed_by (Some given) client commit m session tl took =
    elim (took_client given client commit.start m session tl took) as (λ _. IsTakenIn m session tl ⊎ Has {A = NodeId × Timeline} ((session_in m, given) ∷ []) (session, tl)) [
      | inl old ↦ inl old
      | inr new ↦ inr (inl (paired (session_in m) session given tl new.0 new.1))
    ]

took_timeline_committed : (client : Option Timeline) (commit : Commit) (m : Machine) (session : NodeId) (tl : Timeline)
    → IsTakenIn (timeline_committed client commit m) session tl → IsTakenIn m session tl ⊎ Has (given_by client commit m) (session, tl)
took_timeline_committed None commit m session tl took =
    inl (took_within (known m.sessions) (known (start_committed commit.start m).sessions) (in_start_committed commit.start m) session tl took)
took_timeline_committed (Some client) commit m session tl took =
    took_committed_by (session_from_client_of (timeline_in m) client commit.at (offset_in m)) client commit m session tl took

took_commit : (commit : Commit) (m : Machine) (session : NodeId) (tl : Timeline)
    → IsTakenIn (commit_taken commit m) session tl → IsTakenIn m session tl ⊎ Has (given_by commit.timeline commit m) (session, tl)
unfolding commit_taken
took_commit commit m session tl took = took_timeline_committed commit.timeline commit m session tl took

-- ---- the event itself

-- it was there, a commit gave it, or the event tells it
abbrev Comes : Machine → EventValue → NodeId → Timeline → Type 0
Comes m e session tl = IsTakenIn m session tl ⊎ (Has (brought.committed_by e m) (session, tl) ⊎ Brings e session tl)

told_now : (m : Machine) (gate : Gate) (from : Endpoint) (bytes : List ℕ) (now : ℤ) (session : NodeId) (tl : Timeline)
    → IsTakenIn m session tl ⊎ TellsTimeline (reading_of bytes) session tl → Comes m (Rx gate from bytes now) session tl
told_now m gate from bytes now session tl (inl old) = inl old
told_now m gate from bytes now session tl (inr new) = inr (inr new)

-- neither the moment nor the counts matter
given_of_same : (given : Option Timeline) (m : Machine) (now : ℤ) (app audio : ℕ)
    → given_of given (record m { moment = now; app = app; audio = audio }) ≡ given_of given m
given_of_same None m now app audio = refl
given_of_same (Some given) m now app audio = refl

given_by_same : (client : Option Timeline) (commit : Commit) (m : Machine) (now : ℤ) (app audio : ℕ)
    → given_by client commit (record m { moment = now; app = app; audio = audio }) ≡ given_by client commit m
given_by_same None commit m now app audio = refl
given_by_same (Some client) commit m now app audio =
    given_of_same (session_from_client_of (timeline_in m) client commit.at (offset_in m)) m now app audio

took_counted : (commit : Commit) (m : Machine) (now : ℤ) (app audio : ℕ) (session : NodeId) (tl : Timeline)
    → IsTakenIn (commit_taken commit (record m { moment = now; app = app; audio = audio })) session tl
    → IsTakenIn m session tl ⊎ Has (given_by commit.timeline commit m) (session, tl)
took_counted commit m now app audio session tl took =
    subst (λ (given : List (NodeId × Timeline)). IsTakenIn m session tl ⊎ Has given (session, tl)) (given_by_same commit.timeline commit m now app audio)
    (took_commit commit (record m { moment = now; app = app; audio = audio }) session tl took)

given_now : (m : Machine) (given : List (NodeId × Timeline)) (session : NodeId) (tl : Timeline)
    → IsTakenIn m session tl ⊎ Has given (session, tl) → IsTakenIn m session tl ⊎ (Has given (session, tl) ⊎ ⊥)
given_now m given session tl (inl old) = inl old
given_now m given session tl (inr new) = inr (inl new)

comes : (m : Machine) (e : EventValue) (session : NodeId) (tl : Timeline) → IsTakenIn (taken e (at_moment (moment_of e) m)) session tl → Comes m e session tl
unfolding app_taken audio_taken
comes m (Rx gate from bytes now) session tl took =
    told_now m gate from bytes now session tl (took_arrived gate from (reading_of bytes) (at_moment now m) session tl took)
comes m (Tick now) session tl took =
    let at = at_moment now m in
    inl (took_within (known m.sessions) (known (ticked at).sessions) (in_ticked at) session tl took)
comes m (App commit now) session tl took =
    given_now m (given_by commit.timeline commit m) session tl (took_counted commit m (at_moment now m).moment (m.app + 1) m.audio session tl took)
comes m (Audio number commit now) session tl took =
    given_now m (given_by commit.timeline commit m) session tl (took_counted commit m (at_moment now m).moment m.app number session tl took)
comes m (End now) session tl took = inl took

-- ---- the end of every event

-- alone in the session that it founds
took_founded : (m : Machine) (session : NodeId) (tl : Timeline) → IsTakenIn (founded (counted m)) session tl
    → Has {A = NodeId × Timeline} ((id_drawn m.config.seed m.drawn, founding_timeline_in m) ∷ []) (session, tl)
unfolding founded renewed founding_timeline_in
took_founded m session tl (taking, inl e, is, inl first) =
    inl (paired (id_drawn m.config.seed m.drawn) session (founding_timeline_in m) tl
    (ap (λ (t : Taking). t.session) e ∙ is) (ap (λ (t : Taking). t.first) e ∙ first))
took_founded m session tl (taking, inl e, is, inr later) =
    absurd (subst (λ (t : Taking). Has t.later tl) (sym e) later)
took_founded m session tl (taking, inr others, is, has) = absurd others

took_settled : (m : Machine) (session : NodeId) (tl : Timeline) → IsTakenIn (settled m) session tl
    → IsTakenIn m session tl ⊎ Has (founded_by m) (session, tl)
unfolding settled
took_settled m session tl =
    by_test
    (λ b. IsTakenIn (if b then founded (counted m) else counted m) session tl
    → IsTakenIn m session tl ⊎ Has {A = NodeId × Timeline} (if b then (id_drawn m.config.seed m.drawn, founding_timeline_in m) ∷ [] else []) (session, tl))
    (is_left m)
    (λ _ took. inr (took_founded m session tl took)) (λ _ took. inl took)

in_broadcast_by : (e : EventValue) (m : Machine) → Adds m (broadcast_by e m)
unfolding broadcast_after
in_broadcast_by (Tick now) m = either m (is_broadcast m) (record m { last_broadcast = Some m.moment; changed = false }) m (λ taking has. has) (none m)
in_broadcast_by (Rx gate from bytes now) m = none m
in_broadcast_by (App commit now) m = none m
in_broadcast_by (Audio number commit now) m = none m
in_broadcast_by (End now) m = none m

in_shown : (m : Machine) → Adds m (shown m)
unfolding shown
in_shown m = either m (alike (state_in m) m.published) m (record m { published = state_in m }) (none m) (λ taking has. has)

in_step : (m : Machine) (e : EventValue) → Adds (settled (taken e (at_moment (moment_of e) m))) (step_of m e)
unfolding step_of before_shown before_broadcast noted
in_step m e =
    let a = settled (taken e (at_moment (moment_of e) m)) in
    let b = before_broadcast e m in
    let c = broadcast_by e b in
    onward a c (shown c) (in_broadcast_by e b) (in_shown c)

-- ---- the step

made_now : (given founded : List (NodeId × Timeline)) (was brings : Type 0) (made : NodeId × Timeline)
    → was ⊎ (Has given made ⊎ brings) → was ⊎ (Has (given ++ founded) made ⊎ brings)
made_now given founded was brings made (inl old) = inl old
made_now given founded was brings made (inr (inl new)) = inr (inl (has_left given founded made new))
made_now given founded was brings made (inr (inr told)) = inr (inr told)

pub brought_by : (m : Machine) (e : EventValue) (session : NodeId) (tl : Timeline) → IsTakenIn (step_of m e) session tl
    → IsTakenIn m session tl ⊎ (Has (made_by m e) (session, tl) ⊎ Brings e session tl)
unfolding made_by
brought_by m e session tl took =
    let a = taken e (at_moment (moment_of e) m) in
    let given = brought.committed_by e m in
    elim (took_settled a session tl (took_within (known (settled a).sessions) (known (step_of m e).sessions) (in_step m e) session tl took))
    as (λ _. IsTakenIn m session tl ⊎ (Has (given ++ founded_by a) (session, tl) ⊎ Brings e session tl)) [
      | inl old ↦ made_now given (founded_by a) (IsTakenIn m session tl) (Brings e session tl) (session, tl) (comes m e session tl old)
      | inr new ↦ inr (inl (has_right given (founded_by a) (session, tl) new))
    ]
