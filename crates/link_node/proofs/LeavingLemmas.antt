-- Which rules leave the current session, and for which one.
use Rattle.std.proofs.Common.{◌≡◌, ◌⊎◌, inl, inr, ◌+◌, ℤ, Bool, true, false, List, [], ◌∷◌, ◌++◌, length, Option, Some, None, Result, Ok, Err, refl, sym, ap, ◌∙◌, subst}
use Rattle.std.specs.Prelude.{nat_lt, is_some, if◌then◌else◌}
use Rattle.lk_base.specs.IdOrder.{same_id}
use Rattle.lk_base.specs.declared.endpoint.Endpoint.{Endpoint}
use Rattle.lk_base.specs.declared.endpoint.Gate.{Gate}
use Rattle.lk_base.specs.declared.endpoint.Target.{Target}
use Rattle.lk_base.specs.declared.ids.NodeId.{NodeId}
use Rattle.lk_base.specs.declared.timeline.Timeline.{Timeline}
use Rattle.link_payload.specs.declared.fields.PeerFields.{PeerFields}
use Rattle.link_payload.specs.declared.fields.PongFields.{PongFields}
use Rattle.asdp_messages.specs.Datagram.{MessageValue}
use Rattle.asdp_messages.specs.Datagram as message
use Rattle.asdp_messages.specs.Reading.{reading_of}
use Rattle.asdp_messages.specs.declared.fault.WireFault.{WireFault}
use Rattle.asdp_messages.specs.declared.message.StateMsg.{StateMsg}
use Rattle.peer_gateway.specs.Answers.{seen_of, target_of}
use Rattle.peer_gateway.specs.Happenings.{said_goodbye}
use Rattle.peer_gateway.specs.declared.row.Seen.{Seen}
use Rattle.peer_gateway.specs.declared.row.Seen.TheVariants as seen
use Rattle.ping_measure.specs.Life.{Life, pong_outcome, pong_after, tick_outcome, tick_after}
use Rattle.ping_measure.specs.declared.outcome.Outcome.{Outcome}
use Rattle.ping_measure.specs.declared.outcome.Outcome.TheVariants.{Idle, Again, Done, Failed}
use Rattle.session_choice.specs.History.{Taking, History, with_taken, begun, is_current, other_in, taken_by, saw_of, saw_after, joined, measured_of, measured_by, measured_after, forgotten}
use Rattle.session_choice.specs.Winning.{wins_over}
use Rattle.session_choice.specs.declared.verdict.Verdict.{Verdict}
use Rattle.session_choice.specs.declared.verdict.Verdict.TheVariants.{Joined, Stayed, Remeasured, Unknown}
use Rattle.timeline_math.specs.Tidying.{tidy_of}
use Rattle.client_state.specs.Timelines.{session_from_client_of}
use Rattle.client_state.specs.declared.commit.Commit.{Commit}
use Rattle.link_node.specs.Arrival.{arrived, is_heard}
use Rattle.link_node.specs.Client.{renewed}
use Rattle.link_node.specs.Commits.{client_taken, committed_by, timeline_committed, commit_taken, app_taken, audio_taken}
use Rattle.link_node.specs.Event.{EventValue, Rx, Tick, App, Audio, End, moment_of}
use Rattle.link_node.specs.Machine.{Machine, session_in, timeline_in, offset_in}
use Rattle.link_node.specs.Measuring.{remeasured_later, chosen, measured, unmeasured, judged, pong_by, pong_heard, tick_by, measurement_ticked}
use Rattle.link_node.specs.Step.{at_moment, taken, step_of}
use Rattle.link_node.specs.Taking.{timeline_taken, start_taken, sighted, listened, state_taken}
use Rattle.link_node.specs.Tick.{pruned, idle_forgotten, waiting_with, remeasure_queued, is_remeasured, begun_at, begun_one, begun_from, begun as begun_in, cleared, ticked}
use Rattle.session_choice.proofs.Lists.{by_test}
use Rattle.link_node.proofs.MomentLemmas.{leads_step}
use Rattle.link_node.proofs.KeptLemmas.{followed-sessions, fields-sessions, start_committed-sessions, sessions_stay}

-- the session is the same, or it wins by its offset
abbrev pub LeftFor : History → ℤ → History → Type 0
LeftFor h now k =
    (k.current.session ≡ h.current.session) ⊎ (wins_over k.current.session k.offset h.current.session h.offset now ≡ true)

-- ---- measurements

left_by_measured : (found : Option Taking) (h : History) (offset now : ℤ) → LeftFor h now (measured_by found h offset now)
left_by_measured None h offset now = inl refl
left_by_measured (Some other) h offset now =
    by_test
    (λ b. wins_over other.session offset h.current.session h.offset now ≡ b → LeftFor h now (if b then joined other offset h else h))
    (wins_over other.session offset h.current.session h.offset now)
    (λ _ wins. inr wins) (λ _ _. inl refl) refl

left_after_measured : (h : History) (session : NodeId) (offset now : ℤ) → LeftFor h now (measured_after h session offset now)
unfolding measured_after
left_after_measured h session offset now =
    by_test (λ b. LeftFor h now (if b then record h { offset = offset } else measured_by (other_in session h) h offset now)) (is_current session h)
    (λ _. inl refl) (λ _. left_by_measured (other_in session h) h offset now)

chosen-sessions : (verdict : Verdict) (m : Machine) → (chosen verdict m).sessions ≡ m.sessions
unfolding renewed
chosen-sessions Joined m = refl
chosen-sessions Remeasured m = refl
chosen-sessions Stayed m = refl
chosen-sessions Unknown m = refl

pub measured-sessions : (session : NodeId) (offset : ℤ) (m : Machine) → (measured session offset m).sessions ≡ measured_after m.sessions session offset m.moment
unfolding measured
measured-sessions session offset m =
    chosen-sessions (measured_of m.sessions session offset m.moment) (record m { sessions = measured_after m.sessions session offset m.moment })

-- the current session and its offset stay
pub record Remains (h k : History) : Type 0 where
  pub current : k.current ≡ h.current
  pub offset : k.offset ≡ h.offset

pub remains : (h : History) → Remains h h
remains h = record { current = refl; offset = refl }

pub remains_then : (h k l : History) → Remains h k → Remains k l → Remains h l
remains_then h k l first second = record { current = second.current ∙ first.current; offset = second.offset ∙ first.offset }

pub unmeasured-remains : (session : NodeId) (m : Machine) → Remains m.sessions (unmeasured session m).sessions
unfolding unmeasured
unmeasured-remains session m =
    by_test (λ b. Remains m.sessions (if b then remeasured_later m else record m { sessions = forgotten session m.sessions }).sessions) (same_id session (session_in m))
    (λ _. remains m.sessions) (λ _. record { current = refl; offset = refl })

left_remains : (h k : History) (now : ℤ) → Remains h k → LeftFor h now k
left_remains h k now is = inl (ap (λ (t : Taking). t.session) is.current)

-- what a rule before or after leaves as it is
left_between : (h i k l : History) (now : ℤ) → Remains h i → LeftFor i now k → Remains k l → LeftFor h now l
left_between h i k l now before (inl same) after =
    inl (ap (λ (t : Taking). t.session) after.current ∙ same ∙ ap (λ (t : Taking). t.session) before.current)
left_between h i k l now before (inr wins) after =
    inr (ap (λ (t : Taking). wins_over t.session l.offset h.current.session h.offset now) after.current
    ∙ ap (λ o. wins_over k.current.session o h.current.session h.offset now) after.offset
    ∙ ap (λ (t : Taking). wins_over k.current.session k.offset t.session h.offset now) (sym before.current)
    ∙ ap (λ o. wins_over k.current.session k.offset i.current.session o now) (sym before.offset)
    ∙ wins)

judged-left : (outcome : Outcome) (session : NodeId) (m : Machine) → LeftFor m.sessions m.moment (judged outcome session m).sessions
judged-left Idle session m = inl refl
judged-left (Again ping) session m = inl refl
judged-left (Done xform) session m =
    subst (λ (k : History). LeftFor m.sessions m.moment k) (sym (measured-sessions session xform.offset (record m { measuring = None })))
    (left_after_measured m.sessions session xform.offset m.moment)
judged-left (Failed fault) session m =
    left_remains m.sessions (unmeasured session (record m { measuring = None })).sessions m.moment (unmeasured-remains session (record m { measuring = None }))

pong_by-left : (running : Option Life) (gate : Gate) (from : Endpoint) (pong : PongFields) (m : Machine) → LeftFor m.sessions m.moment (pong_by running gate from pong m).sessions
pong_by-left None gate from pong m = inl refl
pong_by-left (Some life) gate from pong m =
    judged-left (pong_outcome life gate from pong m.moment) life.session (record m { measuring = Some (pong_after life gate from pong m.moment) })

pong-left : (gate : Gate) (from : Endpoint) (pong : PongFields) (m : Machine) → LeftFor m.sessions m.moment (pong_heard gate from pong m).sessions
unfolding pong_heard
pong-left gate from pong m = pong_by-left m.measuring gate from pong m

tick_by-left : (running : Option Life) (m : Machine) → LeftFor m.sessions m.moment (tick_by running m).sessions
tick_by-left None m = inl refl
tick_by-left (Some life) m =
    judged-left (tick_outcome life m.moment) life.session (record m { measuring = Some (tick_after life m.moment) })

-- ---- a tick

measurement-left : (m : Machine) → LeftFor m.sessions m.moment (measurement_ticked m).sessions
unfolding measurement_ticked
measurement-left m = tick_by-left m.measuring m

pub cleared-remains : (m : Machine) → Remains m.sessions (cleared m).sessions
unfolding cleared idle_forgotten pruned
cleared-remains m = record { current = refl; offset = refl }

cleared-moment : (m : Machine) → (cleared m).moment ≡ m.moment
unfolding cleared idle_forgotten pruned
cleared-moment m = refl

pub queued-remains : (m : Machine) → Remains m.sessions (remeasure_queued m).sessions
unfolding remeasure_queued
queued-remains m =
    by_test
    (λ b. Remains m.sessions (if b then record m { remeasure_at = None; waiting = waiting_with (session_in m) m.waiting } else m).sessions)
    (is_remeasured m.remeasure_at m.moment) (λ _. remains m.sessions) (λ _. remains m.sessions)

begun_at-remains : (target : Option Target) (session : NodeId) (m : Machine) → Remains m.sessions (begun_at target session m).sessions
begun_at-remains (Some target) session m = remains m.sessions
begun_at-remains None session m = unmeasured-remains session m

begun_one-remains : (session : NodeId) (m : Machine) → Remains m.sessions (begun_one session m).sessions
unfolding begun_one
begun_one-remains session m = begun_at-remains (target_of session m.life) session m

pub begun_from-remains : (waiting : List NodeId) (m : Machine) → Remains m.sessions (begun_from waiting m).sessions
unfolding begun_from
begun_from-remains [] m = remains m.sessions
begun_from-remains (session ∷ rest) m =
    let next = begun_one session (record m { waiting = rest }) in
    by_test (λ b. Remains m.sessions (if b then m else begun_from rest next).sessions) (is_some m.measuring)
    (λ _. remains m.sessions)
    (λ _. remains_then m.sessions next.sessions (begun_from rest next).sessions (begun_one-remains session (record m { waiting = rest })) (begun_from-remains rest next))

ticked-left : (m : Machine) → LeftFor m.sessions m.moment (ticked m).sessions
unfolding ticked begun_in
ticked-left m =
    let a = cleared m in
    let b = measurement_ticked a in
    let c = remeasure_queued b in
    left_between m.sessions a.sessions b.sessions (ticked m).sessions m.moment (cleared-remains m)
    (subst (λ (now : ℤ). LeftFor a.sessions now b.sessions) (cleared-moment m) (measurement-left a))
    (remains_then b.sessions c.sessions (ticked m).sessions (queued-remains b) (begun_from-remains c.waiting c))

-- ---- a message and a commit leave it

taken_by-left : (found : Option Taking) (h : History) (told : NodeId) (seen : Timeline) (now : ℤ) → LeftFor h now (taken_by found h told seen)
taken_by-left (Some other) h told seen now = inl refl
taken_by-left None h told seen now =
    by_test (λ b. LeftFor h now (if b then record h { others = h.others ++ begun told seen ∷ [] } else h)) (nat_lt (length h.others) 64)
    (λ _. inl refl) (λ _. inl refl)

saw-left : (h : History) (told : NodeId) (seen : Timeline) (now : ℤ) → LeftFor h now (saw_after h told seen)
unfolding saw_after
saw-left h told seen now =
    by_test (λ b. LeftFor h now (if b then record h { current = with_taken seen h.current } else taken_by (other_in told h) h told seen)) (is_current told h)
    (λ _. inl refl) (λ _. taken_by-left (other_in told h) h told seen now)

fields-left : (fields : PeerFields) (m : Machine) (now : ℤ) → LeftFor m.sessions now (start_taken fields (timeline_taken fields m)).sessions
fields-left fields m now =
    subst (λ (k : History). LeftFor m.sessions now k) (sym (fields-sessions fields m)) (saw-left m.sessions fields.session (tidy_of fields.timeline) now)

listened-left : (answer : Seen) (fields : PeerFields) (m : Machine) (now : ℤ) → LeftFor m.sessions now (listened answer fields m).sessions
listened-left seen.TableFull fields m now = inl refl
listened-left seen.New fields m now = fields-left fields m now
listened-left seen.Known fields m now = fields-left fields m now

heard-left : (b : Bool) (gate : Gate) (msg : StateMsg) (m : Machine) (now : ℤ) → LeftFor m.sessions now (if b then state_taken gate msg m else m).sessions
unfolding state_taken sighted
heard-left true gate msg m now = listened-left (seen_of gate msg.from m.life) msg.fields (sighted gate msg m) now
heard-left false gate msg m now = inl refl

bye-left : (b : Bool) (gate : Gate) (id : NodeId) (m : Machine) (now : ℤ) → LeftFor m.sessions now (if b then record m { life = said_goodbye gate id m.life } else m).sessions
bye-left true gate id m now = inl refl
bye-left false gate id m now = inl refl

arrived-left : (gate : Gate) (from : Endpoint) (reading : Result MessageValue WireFault) (m : Machine) → LeftFor m.sessions m.moment (arrived gate from reading m).sessions
arrived-left gate from (Ok (message.Alive msg)) m = heard-left (is_heard msg.from msg.group m) gate msg m m.moment
arrived-left gate from (Ok (message.Response msg)) m = heard-left (is_heard msg.from msg.group m) gate msg m m.moment
arrived-left gate from (Ok (message.Bye id ttl group)) m = bye-left (is_heard id group m) gate id m m.moment
arrived-left gate from (Ok (message.Ping payload)) m = inl refl
arrived-left gate from (Ok (message.Pong pong)) m = pong-left gate from pong m
arrived-left gate from (Ok (message.OtherDiscovery kind)) m = inl refl
arrived-left gate from (Ok (message.OtherLink kind)) m = inl refl
arrived-left gate from (Err fault) m = inl refl

committed_by-left : (given : Option Timeline) (client : Timeline) (commit : Commit) (m : Machine) (now : ℤ) → LeftFor m.sessions now (committed_by given client commit m).sessions
unfolding renewed
committed_by-left None client commit m now = inl refl
committed_by-left (Some given) client commit m now =
    subst (λ (k : History). LeftFor m.sessions now k) (sym (start_committed-sessions commit.start (client_taken (Some given) client m))) (inl refl)

timeline_committed-left : (client : Option Timeline) (commit : Commit) (m : Machine) (now : ℤ) → LeftFor m.sessions now (timeline_committed client commit m).sessions
timeline_committed-left None commit m now =
    subst (λ (k : History). LeftFor m.sessions now k) (sym (start_committed-sessions commit.start m)) (inl refl)
timeline_committed-left (Some client) commit m now =
    committed_by-left (session_from_client_of (timeline_in m) client commit.at (offset_in m)) client commit m now

commit-left : (commit : Commit) (m : Machine) (now : ℤ) → LeftFor m.sessions now (commit_taken commit m).sessions
unfolding commit_taken
commit-left commit m now = timeline_committed-left commit.timeline commit m now

taken-left : (e : EventValue) (m : Machine) → LeftFor m.sessions m.moment (taken e m).sessions
unfolding app_taken audio_taken
taken-left (Rx gate from bytes now) m = arrived-left gate from (reading_of bytes) m
taken-left (Tick now) m = ticked-left m
taken-left (App commit now) m = commit-left commit (record m { app = m.app + 1 }) m.moment
taken-left (Audio number commit now) m = commit-left commit (record m { audio = number }) m.moment
taken-left (End now) m = inl refl

-- ---- the step

pub step-left : (m : Machine) (e : EventValue) → (step_of m e).drawn ≡ m.drawn → LeftFor m.sessions (step_of m e).moment (step_of m e).sessions
step-left m e same =
    subst (λ (k : History). LeftFor m.sessions (step_of m e).moment k) (sym (sessions_stay m e same))
    (subst (λ (now : ℤ). LeftFor m.sessions now (taken e (at_moment (moment_of e) m)).sessions) (sym (leads_step m e).moment) (taken-left e (at_moment (moment_of e) m)))

taken_by-session : (found : Option Taking) (h : History) (told : NodeId) (seen : Timeline) → (taken_by found h told seen).current.session ≡ h.current.session
taken_by-session (Some other) h told seen = refl
taken_by-session None h told seen =
    by_test (λ b. (if b then record h { others = h.others ++ begun told seen ∷ [] } else h).current.session ≡ h.current.session) (nat_lt (length h.others) 64)
    (λ _. refl) (λ _. refl)

saw-session : (h : History) (told : NodeId) (seen : Timeline) → (saw_after h told seen).current.session ≡ h.current.session
unfolding saw_after
saw-session h told seen =
    by_test (λ b. (if b then record h { current = with_taken seen h.current } else taken_by (other_in told h) h told seen).current.session ≡ h.current.session) (is_current told h)
    (λ _. refl) (λ _. taken_by-session (other_in told h) h told seen)

-- a message stays in the current session
pub timeline-session : (fields : PeerFields) (m : Machine) → session_in (timeline_taken fields m) ≡ session_in m
unfolding timeline_taken
timeline-session fields m =
    let next = record m { sessions = saw_after m.sessions fields.session (tidy_of fields.timeline) } in
    ap (λ (h : History). h.current.session) (followed-sessions (saw_of m.sessions fields.session (tidy_of fields.timeline)) fields.session next)
    ∙ saw-session m.sessions fields.session (tidy_of fields.timeline)
