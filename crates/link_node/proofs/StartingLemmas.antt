-- Where the starts that a node's session has taken come from, rule by rule.
use Rattle.std.proofs.Common.{◌≡◌, ◌⊎◌, inl, inr, ◌+◌, ℤ, Bool, true, false, List, [], ◌∷◌, ◌++◌, Option, Some, None, Result, Ok, Err, refl, ◌∙◌, subst}
use Rattle.std.specs.Prelude.{int_lt, is_some, if◌then◌else◌}
use Rattle.std.proofs.lemmas.Bool.{and_parts}
use Rattle.lk_base.specs.IdOrder.{same_id}
use Rattle.lk_base.specs.declared.endpoint.Endpoint.{Endpoint}
use Rattle.lk_base.specs.declared.endpoint.Gate.{Gate}
use Rattle.lk_base.specs.declared.endpoint.Target.{Target}
use Rattle.lk_base.specs.declared.ids.NodeId.{NodeId}
use Rattle.lk_base.specs.declared.start.ClientStart.{ClientStart}
use Rattle.lk_base.specs.declared.start.SessionStart.{SessionStart}
use Rattle.lk_base.specs.declared.timeline.Timeline.{Timeline}
use Rattle.link_payload.specs.declared.fields.PeerFields.{PeerFields}
use Rattle.link_payload.specs.declared.fields.PongFields.{PongFields}
use Rattle.asdp_messages.specs.Datagram.{MessageValue}
use Rattle.asdp_messages.specs.Datagram as message
use Rattle.asdp_messages.specs.Reading.{reading_of}
use Rattle.asdp_messages.specs.declared.fault.WireFault.{WireFault}
use Rattle.asdp_messages.specs.declared.message.StateMsg.{StateMsg}
use Rattle.peer_gateway.specs.Answers.{seen_of, target_of}
use Rattle.peer_gateway.specs.Happenings.{Has, said_goodbye}
use Rattle.peer_gateway.specs.declared.row.Seen.{Seen}
use Rattle.peer_gateway.specs.declared.row.Seen.TheVariants as seen
use Rattle.ping_measure.specs.Life.{Life, pong_outcome, pong_after, tick_outcome, tick_after}
use Rattle.ping_measure.specs.declared.outcome.Outcome.{Outcome}
use Rattle.ping_measure.specs.declared.outcome.Outcome.TheVariants.{Idle, Again, Done, Failed}
use Rattle.session_choice.specs.History.{History, best_in, saw_of, saw_after, measured_of, measured_after, forgotten}
use Rattle.session_choice.specs.declared.verdict.Saw.{Saw}
use Rattle.session_choice.specs.declared.verdict.Saw.TheVariants as saw
use Rattle.session_choice.specs.declared.verdict.Verdict.{Verdict}
use Rattle.session_choice.specs.declared.verdict.Verdict.TheVariants.{Joined, Stayed, Remeasured, Unknown}
use Rattle.timeline_math.specs.Tidying.{tidy_of}
use Rattle.client_state.specs.Starts.{start_to_session_of}
use Rattle.client_state.specs.Timelines.{session_from_client_of}
use Rattle.client_state.specs.declared.commit.Commit.{Commit}
use Rattle.link_node.specs.Arrival.{arrived, is_heard}
use Rattle.link_node.specs.Client.{renewed}
use Rattle.link_node.specs.Commits.{reaches_session, start_committed, with_client_start, client_taken, committed_by, timeline_committed, commit_taken, app_taken, audio_taken}
use Rattle.link_node.specs.Event.{EventValue, Rx, Tick, App, Audio, End}
use Rattle.link_node.specs.Machine.{Machine, session_in, timeline_in, offset_in}
use Rattle.link_node.specs.Measuring.{remeasured_later, chosen, measured, unmeasured, judged, pong_by, pong_heard, tick_by, measurement_ticked}
use Rattle.link_node.specs.Settling.{settled, founded, counted, is_left}
use Rattle.link_node.specs.Starting.{TellsStart, BringsStart}
use Rattle.link_node.specs.Step.{at_moment, step_of}
use Rattle.link_node.specs.Taking.{is_current, followed, timeline_taken, with_start, start_taken, sighted, listened, state_taken}
use Rattle.link_node.specs.Tick.{pruned, idle_forgotten, waiting_with, remeasure_queued, is_remeasured, begun_at, begun_one, begun_from, begun, cleared, ticked}
use Rattle.peer_gateway.proofs.MemberLemmas.{has_parts}
use Rattle.peer_gateway.proofs.KeyLemmas.{id_from_test}
use Rattle.session_choice.proofs.Lists.{by_test}
use Rattle.link_node.proofs.StayingLemmas.{midst, stands_step}
use Rattle.link_node.proofs.LeavingLemmas.{timeline-session}

-- the second has taken no start that the first hasn't
abbrev Starts : Machine → Machine → Type 0
Starts m n = (start : SessionStart) → Has n.starts start → Has m.starts start

no_starts : (m : Machine) → Starts m m
no_starts m start has = has

either_starts : (m : Machine) (b : Bool) (n o : Machine) → Starts m n → Starts m o → Starts m (if b then n else o)
either_starts m b n o first second = by_test (λ t. Starts m (if t then n else o)) b (λ _. first) (λ _. second)

starts_then : (m n o : Machine) → Starts m n → Starts n o → Starts m o
starts_then m n o first second start has = first start (second start has)

-- ---- measurements and ticks

chosen-starts : (verdict : Verdict) (m : Machine) → Starts m (chosen verdict m)
unfolding renewed
chosen-starts Joined m = λ start has. absurd has
chosen-starts Remeasured m = no_starts m
chosen-starts Stayed m = no_starts m
chosen-starts Unknown m = no_starts m

measured-starts : (session : NodeId) (offset : ℤ) (m : Machine) → Starts m (measured session offset m)
unfolding measured
measured-starts session offset m =
    chosen-starts (measured_of m.sessions session offset m.moment) (record m { sessions = measured_after m.sessions session offset m.moment })

unmeasured-starts : (session : NodeId) (m : Machine) → Starts m (unmeasured session m)
unfolding unmeasured
unmeasured-starts session m =
    either_starts m (same_id session (session_in m)) (remeasured_later m) (record m { sessions = forgotten session m.sessions }) (no_starts m) (no_starts m)

judged-starts : (outcome : Outcome) (session : NodeId) (m : Machine) → Starts m (judged outcome session m)
judged-starts Idle session m = no_starts m
judged-starts (Again ping) session m = no_starts m
judged-starts (Done xform) session m = measured-starts session xform.offset (record m { measuring = None })
judged-starts (Failed fault) session m = unmeasured-starts session (record m { measuring = None })

pong_by-starts : (running : Option Life) (gate : Gate) (from : Endpoint) (pong : PongFields) (m : Machine) → Starts m (pong_by running gate from pong m)
pong_by-starts None gate from pong m = no_starts m
pong_by-starts (Some life) gate from pong m =
    judged-starts (pong_outcome life gate from pong m.moment) life.session (record m { measuring = Some (pong_after life gate from pong m.moment) })

pong-starts : (gate : Gate) (from : Endpoint) (pong : PongFields) (m : Machine) → Starts m (pong_heard gate from pong m)
unfolding pong_heard
pong-starts gate from pong m = pong_by-starts m.measuring gate from pong m

tick_by-starts : (running : Option Life) (m : Machine) → Starts m (tick_by running m)
tick_by-starts None m = no_starts m
tick_by-starts (Some life) m = judged-starts (tick_outcome life m.moment) life.session (record m { measuring = Some (tick_after life m.moment) })

measurement-starts : (m : Machine) → Starts m (measurement_ticked m)
unfolding measurement_ticked
measurement-starts m = tick_by-starts m.measuring m

cleared-starts : (m : Machine) → Starts m (cleared m)
unfolding cleared idle_forgotten pruned
cleared-starts m = no_starts m

queued-starts : (m : Machine) → Starts m (remeasure_queued m)
unfolding remeasure_queued
queued-starts m =
    either_starts m (is_remeasured m.remeasure_at m.moment) (record m { remeasure_at = None; waiting = waiting_with (session_in m) m.waiting }) m (no_starts m) (no_starts m)

begun_at-starts : (target : Option Target) (session : NodeId) (m : Machine) → Starts m (begun_at target session m)
begun_at-starts (Some target) session m = no_starts m
begun_at-starts None session m = unmeasured-starts session m

begun_one-starts : (session : NodeId) (m : Machine) → Starts m (begun_one session m)
unfolding begun_one
begun_one-starts session m = begun_at-starts (target_of session m.life) session m

begun_from-starts : (waiting : List NodeId) (m : Machine) → Starts m (begun_from waiting m)
unfolding begun_from
begun_from-starts [] m = no_starts m
begun_from-starts (session ∷ rest) m =
    let next = begun_one session (record m { waiting = rest }) in
    either_starts m (is_some m.measuring) m (begun_from rest next) (no_starts m)
    (starts_then m next (begun_from rest next) (begun_one-starts session (record m { waiting = rest })) (begun_from-starts rest next))

ticked-starts : (m : Machine) → Starts m (ticked m)
unfolding ticked begun
ticked-starts m =
    let a = cleared m in
    let b = measurement_ticked a in
    let c = remeasure_queued b in
    starts_then m a (ticked m) (cleared-starts m) (starts_then a b (ticked m) (measurement-starts a) (starts_then b c (ticked m) (queued-starts b) (begun_from-starts c.waiting c)))

-- ---- a message

followed-starts : (answer : Saw) (session : NodeId) (m : Machine) → Starts m (followed answer session m)
unfolding renewed
followed-starts saw.New session m = no_starts m
followed-starts saw.Taken session m = either_starts m (is_current session m) (renewed m) m (no_starts m) (no_starts m)
followed-starts saw.Kept session m = no_starts m
followed-starts saw.Full session m = no_starts m

timeline-starts : (fields : PeerFields) (m : Machine) → Starts m (timeline_taken fields m)
unfolding timeline_taken
timeline-starts fields m =
    followed-starts (saw_of m.sessions fields.session (tidy_of fields.timeline)) fields.session (record m { sessions = saw_after m.sessions fields.session (tidy_of fields.timeline) })

-- it was there, or it is told in the session
abbrev FromFields : Machine → PeerFields → SessionStart → Type 0
FromFields m fields start = Has m.starts start ⊎ ((fields.session ≡ session_in m) × (fields.start ≡ start))

start-from : (fields : PeerFields) (m : Machine) (start : SessionStart) → Has (start_taken fields m).starts start → FromFields m fields start
unfolding start_taken
start-from fields m start =
    by_test
    (λ b. same_id fields.session (session_in m) ≡ b → Has (if b then with_start fields.start m else m).starts start → FromFields m fields start)
    (same_id fields.session (session_in m))
    (λ _ is has. elim (has_parts m.starts (fields.start ∷ []) start has) as (λ _. FromFields m fields start) [
      | inl old ↦ inl old
      | inr one ↦ elim one as (λ _. FromFields m fields start) [ inl e ↦ inr (id_from_test fields.session (session_in m) is, e) | inr none ↦ absurd none ]
    ])
    (λ _ _ has. inl has) refl

fields-from : (fields : PeerFields) (m : Machine) (start : SessionStart) → Has (start_taken fields (timeline_taken fields m)).starts start → FromFields m fields start
fields-from fields m start has =
    elim (start-from fields (timeline_taken fields m) start has) as (λ _. FromFields m fields start) [
      | inl old ↦ inl (timeline-starts fields m start old)
      | inr told ↦ inr (told.0 ∙ timeline-session fields m, told.1)
    ]

listened-from : (answer : Seen) (fields : PeerFields) (m : Machine) (start : SessionStart) → Has (listened answer fields m).starts start → FromFields m fields start
listened-from seen.TableFull fields m start has = inl has
listened-from seen.New fields m start has = fields-from fields m start has
listened-from seen.Known fields m start has = fields-from fields m start has

heard-from : (b : Bool) (gate : Gate) (msg : StateMsg) (m : Machine) (start : SessionStart) → Has (if b then state_taken gate msg m else m).starts start → FromFields m msg.fields start
unfolding state_taken sighted
heard-from true gate msg m start has = listened-from (seen_of gate msg.from m.life) msg.fields (sighted gate msg m) start has
heard-from false gate msg m start has = inl has

bye-from : (b : Bool) (gate : Gate) (id : NodeId) (m : Machine) → Starts m (if b then record m { life = said_goodbye gate id m.life } else m)
bye-from true gate id m = no_starts m
bye-from false gate id m = no_starts m

arrived-from : (gate : Gate) (from : Endpoint) (reading : Result MessageValue WireFault) (m : Machine) (start : SessionStart) → Has (arrived gate from reading m).starts start
    → Has m.starts start ⊎ TellsStart reading (session_in m) start
arrived-from gate from (Ok (message.Alive msg)) m start has = heard-from (is_heard msg.from msg.group m) gate msg m start has
arrived-from gate from (Ok (message.Response msg)) m start has = heard-from (is_heard msg.from msg.group m) gate msg m start has
arrived-from gate from (Ok (message.Bye id ttl group)) m start has = inl (bye-from (is_heard id group m) gate id m start has)
arrived-from gate from (Ok (message.Ping payload)) m start has = inl has
arrived-from gate from (Ok (message.Pong pong)) m start has = inl (pong-starts gate from pong m start has)
arrived-from gate from (Ok (message.OtherDiscovery kind)) m start has = inl has
arrived-from gate from (Ok (message.OtherLink kind)) m start has = inl has
arrived-from gate from (Err fault) m start has = inl has

-- ---- a commit

-- by what the sessions are then
abbrev FromCommit : Option ClientStart → Machine → History → SessionStart → Type 0
FromCommit client m h start =
    Has m.starts start
    ⊎ ((given : ClientStart) × (client ≡ Some given) × (m.config.sync ≡ true) × (start_to_session_of given (best_in h.current) h.offset ≡ start))

client-from : (given : ClientStart) (m : Machine) (start : SessionStart) → Has (with_client_start given m).starts start → FromCommit (Some given) m m.sessions start
client-from given m start =
    let image = start_to_session_of given (timeline_in m) (offset_in m) in
    by_test
    (λ b. reaches_session given m ≡ b → Has (if b then m.starts ++ image ∷ [] else m.starts) start → FromCommit (Some given) m m.sessions start) (reaches_session given m)
    (λ _ is has. elim (has_parts m.starts (image ∷ []) start has) as (λ _. FromCommit (Some given) m m.sessions start) [
      | inl old ↦ inl old
      | inr one ↦ elim one as (λ _. FromCommit (Some given) m m.sessions start) [
        | inl e ↦ inr (given, refl, (and_parts m.config.sync _ is).0, e)
        | inr none ↦ absurd none
      ]
    ])
    (λ _ _ has. inl has) refl

start_committed-from : (client : Option ClientStart) (m : Machine) (start : SessionStart) → Has (start_committed client m).starts start → FromCommit client m (start_committed client m).sessions start
unfolding start_committed
start_committed-from None m start has = inl has
start_committed-from (Some given) m start has =
    by_test
    (λ b. Has (if b then with_client_start given m else m).starts start → FromCommit (Some given) m (if b then with_client_start given m else m).sessions start)
    (int_lt m.client_start.stamp given.stamp)
    (λ _ has. client-from given m start has) (λ _ has. inl has) has

committed_by-from : (session : Option Timeline) (client : Timeline) (commit : Commit) (m : Machine) (start : SessionStart) → Has (committed_by session client commit m).starts start
    → FromCommit commit.start m (committed_by session client commit m).sessions start
unfolding renewed
committed_by-from None client commit m start has = inl has
committed_by-from (Some given) client commit m start has = start_committed-from commit.start (client_taken (Some given) client m) start has

timeline_committed-from : (client : Option Timeline) (commit : Commit) (m : Machine) (start : SessionStart) → Has (timeline_committed client commit m).starts start
    → FromCommit commit.start m (timeline_committed client commit m).sessions start
timeline_committed-from None commit m start has = start_committed-from commit.start m start has
timeline_committed-from (Some client) commit m start has =
    committed_by-from (session_from_client_of (timeline_in m) client commit.at (offset_in m)) client commit m start has

commit-from : (commit : Commit) (m : Machine) (start : SessionStart) → Has (commit_taken commit m).starts start → FromCommit commit.start m (commit_taken commit m).sessions start
unfolding commit_taken
commit-from commit m start has = timeline_committed-from commit.timeline commit m start has

-- ---- the step

midst-from : (m : Machine) (e : EventValue) (start : SessionStart) → Has (midst m e).starts start → Has m.starts start ⊎ BringsStart m e start
unfolding app_taken audio_taken
midst-from m (Rx gate from bytes now) start has = arrived-from gate from (reading_of bytes) (at_moment now m) start has
midst-from m (Tick now) start has = inl (ticked-starts (at_moment now m) start has)
midst-from m (App commit now) start has = commit-from commit (record m { moment = (at_moment now m).moment; app = m.app + 1 }) start has
midst-from m (Audio number commit now) start has = commit-from commit (record m { moment = (at_moment now m).moment; audio = number }) start has
midst-from m (End now) start has = inl has

settled-starts : (m : Machine) → Starts m (settled m)
unfolding settled founded renewed
settled-starts m = either_starts m (is_left m) (founded (counted m)) (counted m) (λ start has. absurd has) (no_starts m)

pub starts-from : (m : Machine) (e : EventValue) (start : SessionStart) → Has (step_of m e).starts start → Has m.starts start ⊎ BringsStart m e start
starts-from m e start has =
    midst-from m e start (settled-starts (midst m e) start (subst (λ l. Has l start) (stands_step m e).starts has))
