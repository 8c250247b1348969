-- What no rule touches: the config, the moment and the counts of commits.
use Rattle.std.proofs.Common.{◌≡◌, ℤ, ◌+◌, Bool, false, List, [], ◌∷◌, Option, Some, None, Result, Ok, Err, refl, ◌∙◌}
use Rattle.std.specs.Prelude.{int_lt, if◌then◌else◌, is_some, unwrap_or}
use Rattle.lk_base.specs.IdOrder.{same_id}
use Rattle.lk_base.specs.declared.endpoint.Endpoint.{Endpoint}
use Rattle.lk_base.specs.declared.endpoint.Gate.{Gate}
use Rattle.lk_base.specs.declared.endpoint.Target.{Target}
use Rattle.lk_base.specs.declared.ids.NodeId.{NodeId}
use Rattle.lk_base.specs.declared.start.ClientStart.{ClientStart}
use Rattle.lk_base.specs.declared.timeline.Timeline.{Timeline}
use Rattle.link_payload.specs.declared.fields.PeerFields.{PeerFields}
use Rattle.link_payload.specs.declared.fields.PongFields.{PongFields}
use Rattle.asdp_messages.specs.Datagram.{MessageValue}
use Rattle.asdp_messages.specs.Datagram as message
use Rattle.asdp_messages.specs.Reading.{reading_of}
use Rattle.asdp_messages.specs.declared.fault.WireFault.{WireFault}
use Rattle.asdp_messages.specs.declared.message.StateMsg.{StateMsg}
use Rattle.peer_gateway.specs.Answers.{target_of, seen_of}
use Rattle.peer_gateway.specs.declared.row.Seen.{Seen}
use Rattle.peer_gateway.specs.declared.row.Seen.TheVariants as seen
use Rattle.peer_gateway.specs.Happenings.{said_goodbye}
use Rattle.ping_measure.specs.Life.{Life, pong_outcome, pong_after, tick_outcome, tick_after}
use Rattle.ping_measure.specs.declared.outcome.Outcome.{Outcome}
use Rattle.ping_measure.specs.declared.outcome.Outcome.TheVariants.{Idle, Again, Done, Failed}
use Rattle.session_choice.specs.History.{measured_of, measured_after, forgotten, saw_of, saw_after}
use Rattle.session_choice.specs.declared.verdict.Saw.{Saw}
use Rattle.session_choice.specs.declared.verdict.Saw.TheVariants as saw
use Rattle.session_choice.specs.declared.verdict.Verdict.{Verdict}
use Rattle.session_choice.specs.declared.verdict.Verdict.TheVariants.{Joined, Stayed, Remeasured, Unknown}
use Rattle.timeline_math.specs.Tidying.{tidy_of}
use Rattle.client_state.specs.Timelines.{session_from_client_of}
use Rattle.client_state.specs.declared.commit.Commit.{Commit}
use Rattle.link_node.specs.Arrival.{arrived, is_heard}
use Rattle.link_node.specs.Broadcast.{broadcast_after, is_broadcast}
use Rattle.link_node.specs.Client.{renewed}
use Rattle.link_node.specs.Commits.{start_committed, rest_committed, with_client_start, client_taken, committed_by, timeline_committed, commit_taken, app_taken, audio_taken}
use Rattle.link_node.specs.Event.{EventValue, Rx, Tick, App, Audio, End, moment_of, app_after, audio_after}
use Rattle.link_node.specs.Machine.{Machine, session_in, timeline_in, offset_in}
use Rattle.link_node.specs.Measuring.{remeasured_later, chosen, measured, unmeasured, judged, pong_by, pong_heard, tick_by, measurement_ticked}
use Rattle.link_node.specs.Publishing.{shown, alike, state_in}
use Rattle.link_node.specs.Settling.{held_in, settled, founded, counted, is_left, noted}
use Rattle.link_node.specs.Step.{at_moment, taken, before_broadcast, broadcast_by, before_shown, step_of}
use Rattle.link_node.specs.Taking.{followed, timeline_taken, with_start, start_taken, sighted, listened, state_taken, is_current}
use Rattle.link_node.specs.Tick.{waiting_with, pruned, idle_forgotten, remeasure_queued, is_remeasured, begun_at, begun_one, begun_from, begun, cleared, ticked}
use Rattle.link_node.specs.declared.node.settling.Held.{Held}
use Rattle.session_choice.proofs.Lists.{by_test}

pub record Keeps (m n : Machine) : Type 0 where
  pub config : n.config ≡ m.config
  pub moment : n.moment ≡ m.moment
  pub app : n.app ≡ m.app
  pub audio : n.audio ≡ m.audio
  pub id : n.id ≡ m.id
  pub drawn : n.drawn ≡ m.drawn
  pub peers : n.peers ≡ m.peers
  pub last_broadcast : n.last_broadcast ≡ m.last_broadcast
  pub changed : n.changed ≡ m.changed
  pub quantum : n.quantum ≡ m.quantum
  pub published : n.published ≡ m.published

pub same : (m : Machine) → Keeps m m
same m = record { config = refl; moment = refl; app = refl; audio = refl; id = refl; drawn = refl; peers = refl; last_broadcast = refl; changed = refl; quantum = refl; published = refl }

-- the first of two, and then the other
pub both : (m n o : Machine) → Keeps m n → Keeps n o → Keeps m o
both m n o first second = record {
  config = second.config ∙ first.config;
  moment = second.moment ∙ first.moment;
  app = second.app ∙ first.app;
  audio = second.audio ∙ first.audio;
  id = second.id ∙ first.id;
  drawn = second.drawn ∙ first.drawn;
  peers = second.peers ∙ first.peers;
  last_broadcast = second.last_broadcast ∙ first.last_broadcast;
  changed = second.changed ∙ first.changed;
  quantum = second.quantum ∙ first.quantum;
  published = second.published ∙ first.published;
}

module _ (m : Machine) where
  pub either : (b : Bool) (n o : Machine) → Keeps m n → Keeps m o → Keeps m (if b then n else o)
  either b n o first second = by_test (λ t. Keeps m (if t then n else o)) b (λ _. first) (λ _. second)

pub after_renewed : (m : Machine) → Keeps m (renewed m)
unfolding renewed
after_renewed m = record { config = refl; moment = refl; app = refl; audio = refl; id = refl; drawn = refl; peers = refl; last_broadcast = refl; changed = refl; quantum = refl; published = refl }

-- ---- a message

after_followed : (answer : Saw) (session : NodeId) (m : Machine) → Keeps m (followed answer session m)
after_followed saw.New session m = record { config = refl; moment = refl; app = refl; audio = refl; id = refl; drawn = refl; peers = refl; last_broadcast = refl; changed = refl; quantum = refl; published = refl }
after_followed saw.Taken session m = either m (is_current session m) (renewed m) m (after_renewed m) (same m)
after_followed saw.Kept session m = same m
after_followed saw.Full session m = same m

after_timeline : (fields : PeerFields) (m : Machine) → Keeps m (timeline_taken fields m)
unfolding timeline_taken
after_timeline fields m =
    let next = record m { sessions = saw_after m.sessions fields.session (tidy_of fields.timeline) } in
    let kept = after_followed (saw_of m.sessions fields.session (tidy_of fields.timeline)) fields.session next in
    record { config = kept.config; moment = kept.moment; app = kept.app; audio = kept.audio; id = kept.id; drawn = kept.drawn; peers = kept.peers; last_broadcast = kept.last_broadcast; changed = kept.changed; quantum = kept.quantum; published = kept.published }

after_start : (fields : PeerFields) (m : Machine) → Keeps m (start_taken fields m)
unfolding start_taken
after_start fields m =
    either m (is_current fields.session m) (with_start fields.start m) m (record { config = refl; moment = refl; app = refl; audio = refl; id = refl; drawn = refl; peers = refl; last_broadcast = refl; changed = refl; quantum = refl; published = refl }) (same m)

after_fields : (fields : PeerFields) (m : Machine) → Keeps m (start_taken fields (timeline_taken fields m))
after_fields fields m =
    both m (timeline_taken fields m) (start_taken fields (timeline_taken fields m)) (after_timeline fields m) (after_start fields (timeline_taken fields m))

after_listened : (answer : Seen) (fields : PeerFields) (m : Machine) → Keeps m (listened answer fields m)
after_listened seen.TableFull fields m = same m
after_listened seen.New fields m = after_fields fields m
after_listened seen.Known fields m = after_fields fields m

after_state : (gate : Gate) (msg : StateMsg) (m : Machine) → Keeps m (state_taken gate msg m)
unfolding state_taken sighted
after_state gate msg m =
    let kept = after_listened (seen_of gate msg.from m.life) msg.fields (sighted gate msg m) in
    record { config = kept.config; moment = kept.moment; app = kept.app; audio = kept.audio; id = kept.id; drawn = kept.drawn; peers = kept.peers; last_broadcast = kept.last_broadcast; changed = kept.changed; quantum = kept.quantum; published = kept.published }

-- ---- measurements

after_chosen : (verdict : Verdict) (m : Machine) → Keeps m (chosen verdict m)
unfolding renewed
after_chosen Joined m = record { config = refl; moment = refl; app = refl; audio = refl; id = refl; drawn = refl; peers = refl; last_broadcast = refl; changed = refl; quantum = refl; published = refl }
after_chosen Remeasured m = record { config = refl; moment = refl; app = refl; audio = refl; id = refl; drawn = refl; peers = refl; last_broadcast = refl; changed = refl; quantum = refl; published = refl }
after_chosen Stayed m = same m
after_chosen Unknown m = same m

after_measured : (session : NodeId) (offset : ℤ) (m : Machine) → Keeps m (measured session offset m)
unfolding measured
after_measured session offset m =
    let next = record m { sessions = measured_after m.sessions session offset m.moment } in
    let kept = after_chosen (measured_of m.sessions session offset m.moment) next in
    record { config = kept.config; moment = kept.moment; app = kept.app; audio = kept.audio; id = kept.id; drawn = kept.drawn; peers = kept.peers; last_broadcast = kept.last_broadcast; changed = kept.changed; quantum = kept.quantum; published = kept.published }

after_unmeasured : (session : NodeId) (m : Machine) → Keeps m (unmeasured session m)
unfolding unmeasured
after_unmeasured session m =
    either m (same_id session (session_in m)) (remeasured_later m) (record m { sessions = forgotten session m.sessions })
    (record { config = refl; moment = refl; app = refl; audio = refl; id = refl; drawn = refl; peers = refl; last_broadcast = refl; changed = refl; quantum = refl; published = refl }) (record { config = refl; moment = refl; app = refl; audio = refl; id = refl; drawn = refl; peers = refl; last_broadcast = refl; changed = refl; quantum = refl; published = refl })

after_judged : (outcome : Outcome) (session : NodeId) (m : Machine) → Keeps m (judged outcome session m)
after_judged Idle session m = same m
after_judged (Again ping) session m = same m
after_judged (Done xform) session m =
    let kept = after_measured session xform.offset (record m { measuring = None }) in
    record { config = kept.config; moment = kept.moment; app = kept.app; audio = kept.audio; id = kept.id; drawn = kept.drawn; peers = kept.peers; last_broadcast = kept.last_broadcast; changed = kept.changed; quantum = kept.quantum; published = kept.published }
after_judged (Failed fault) session m =
    let kept = after_unmeasured session (record m { measuring = None }) in
    record { config = kept.config; moment = kept.moment; app = kept.app; audio = kept.audio; id = kept.id; drawn = kept.drawn; peers = kept.peers; last_broadcast = kept.last_broadcast; changed = kept.changed; quantum = kept.quantum; published = kept.published }

after_pong_by : (running : Option Life) (gate : Gate) (from : Endpoint) (pong : PongFields) (m : Machine) → Keeps m (pong_by running gate from pong m)
after_pong_by None gate from pong m = same m
after_pong_by (Some life) gate from pong m =
    let next = record m { measuring = Some (pong_after life gate from pong m.moment) } in
    let kept = after_judged (pong_outcome life gate from pong m.moment) life.session next in
    record { config = kept.config; moment = kept.moment; app = kept.app; audio = kept.audio; id = kept.id; drawn = kept.drawn; peers = kept.peers; last_broadcast = kept.last_broadcast; changed = kept.changed; quantum = kept.quantum; published = kept.published }

after_pong : (gate : Gate) (from : Endpoint) (pong : PongFields) (m : Machine) → Keeps m (pong_heard gate from pong m)
unfolding pong_heard
after_pong gate from pong m = after_pong_by m.measuring gate from pong m

after_tick_by : (running : Option Life) (m : Machine) → Keeps m (tick_by running m)
after_tick_by None m = same m
after_tick_by (Some life) m =
    let next = record m { measuring = Some (tick_after life m.moment) } in
    let kept = after_judged (tick_outcome life m.moment) life.session next in
    record { config = kept.config; moment = kept.moment; app = kept.app; audio = kept.audio; id = kept.id; drawn = kept.drawn; peers = kept.peers; last_broadcast = kept.last_broadcast; changed = kept.changed; quantum = kept.quantum; published = kept.published }

after_measurement : (m : Machine) → Keeps m (measurement_ticked m)
unfolding measurement_ticked
after_measurement m = after_tick_by m.measuring m

-- ---- a datagram

pub after_arrived : (gate : Gate) (from : Endpoint) (reading : Result MessageValue WireFault) (m : Machine) → Keeps m (arrived gate from reading m)
after_arrived gate from (Ok (message.Alive msg)) m =
    either m (is_heard msg.from msg.group m) (state_taken gate msg m) m (after_state gate msg m) (same m)
after_arrived gate from (Ok (message.Response msg)) m =
    either m (is_heard msg.from msg.group m) (state_taken gate msg m) m (after_state gate msg m) (same m)
after_arrived gate from (Ok (message.Bye id ttl group)) m =
    either m (is_heard id group m) (record m { life = said_goodbye gate id m.life }) m (record { config = refl; moment = refl; app = refl; audio = refl; id = refl; drawn = refl; peers = refl; last_broadcast = refl; changed = refl; quantum = refl; published = refl }) (same m)
after_arrived gate from (Ok (message.Ping payload)) m = same m
after_arrived gate from (Ok (message.Pong pong)) m = after_pong gate from pong m
after_arrived gate from (Ok (message.OtherDiscovery kind)) m = same m
after_arrived gate from (Ok (message.OtherLink kind)) m = same m
after_arrived gate from (Err fault) m = same m

-- ---- a tick

after_cleared : (m : Machine) → Keeps m (cleared m)
unfolding cleared idle_forgotten pruned
after_cleared m = record { config = refl; moment = refl; app = refl; audio = refl; id = refl; drawn = refl; peers = refl; last_broadcast = refl; changed = refl; quantum = refl; published = refl }

after_queued : (m : Machine) → Keeps m (remeasure_queued m)
unfolding remeasure_queued
after_queued m =
    either m (is_remeasured m.remeasure_at m.moment) (record m { remeasure_at = None; waiting = waiting_with (session_in m) m.waiting }) m (record { config = refl; moment = refl; app = refl; audio = refl; id = refl; drawn = refl; peers = refl; last_broadcast = refl; changed = refl; quantum = refl; published = refl }) (same m)

after_begun_at : (target : Option Target) (session : NodeId) (m : Machine) → Keeps m (begun_at target session m)
after_begun_at (Some target) session m = record { config = refl; moment = refl; app = refl; audio = refl; id = refl; drawn = refl; peers = refl; last_broadcast = refl; changed = refl; quantum = refl; published = refl }
after_begun_at None session m = after_unmeasured session m

after_begun_one : (session : NodeId) (m : Machine) → Keeps m (begun_one session m)
unfolding begun_one
after_begun_one session m = after_begun_at (target_of session m.life) session m

after_begun_from : (waiting : List NodeId) (m : Machine) → Keeps m (begun_from waiting m)
unfolding begun_from
after_begun_from [] m = same m
after_begun_from (session ∷ rest) m =
    let next = begun_one session (record m { waiting = rest }) in
    let one = after_begun_one session (record m { waiting = rest }) in
    let kept : Keeps m next = record { config = one.config; moment = one.moment; app = one.app; audio = one.audio; id = one.id; drawn = one.drawn; peers = one.peers; last_broadcast = one.last_broadcast; changed = one.changed; quantum = one.quantum; published = one.published } in
    either m (is_some m.measuring) m (begun_from rest next) (same m) (both m next (begun_from rest next) kept (after_begun_from rest next))

pub after_ticked : (m : Machine) → Keeps m (ticked m)
unfolding ticked begun
after_ticked m =
    let a = cleared m in
    let b = measurement_ticked a in
    let c = remeasure_queued b in
    both m a (ticked m) (after_cleared m) (both a b (ticked m) (after_measurement a) (both b c (ticked m) (after_queued b) (after_begun_from c.waiting c)))

-- ---- a commit

pub after_start_committed : (start : Option ClientStart) (m : Machine) → Keeps m (start_committed start m)
unfolding start_committed
after_start_committed None m = same m
after_start_committed (Some start) m =
    either m (int_lt m.client_start.stamp start.stamp) (with_client_start start m) m (record { config = refl; moment = refl; app = refl; audio = refl; id = refl; drawn = refl; peers = refl; last_broadcast = refl; changed = refl; quantum = refl; published = refl }) (same m)

pub after_client_taken : (session : Option Timeline) (client : Timeline) (m : Machine) → Keeps m (client_taken session client m)
unfolding renewed
after_client_taken None client m = same m
after_client_taken (Some session) client m = record { config = refl; moment = refl; app = refl; audio = refl; id = refl; drawn = refl; peers = refl; last_broadcast = refl; changed = refl; quantum = refl; published = refl }

-- nothing but the quantum is another than what it was
abbrev KeepsRest : Machine → Machine → Type 0
KeepsRest m n = Keeps (record m { quantum = n.quantum }) n

all_kept : (m n : Machine) → Keeps m n → (quantum : ℤ) → KeepsRest m (record n { quantum = quantum })
all_kept m n kept quantum =
    record { config = kept.config; moment = kept.moment; app = kept.app; audio = kept.audio; id = kept.id; drawn = kept.drawn; peers = kept.peers; last_broadcast = kept.last_broadcast; changed = kept.changed; quantum = refl; published = kept.published }

after_rest_committed : (commit : Commit) (m : Machine) → KeepsRest m (rest_committed commit m)
after_rest_committed commit m =
    let n = start_committed commit.start m in
    all_kept m n (after_start_committed commit.start m) (unwrap_or commit.quantum n.quantum)

after_committed_by : (session : Option Timeline) (client : Timeline) (commit : Commit) (m : Machine) → KeepsRest m (committed_by session client commit m)
after_committed_by None client commit m = same m
after_committed_by (Some session) client commit m =
    let next = client_taken (Some session) client m in
    let n = start_committed commit.start next in
    all_kept m n (both m next n (after_client_taken (Some session) client m) (after_start_committed commit.start next)) (unwrap_or commit.quantum n.quantum)

after_timeline_committed : (client : Option Timeline) (commit : Commit) (m : Machine) → KeepsRest m (timeline_committed client commit m)
after_timeline_committed None commit m = after_rest_committed commit m
after_timeline_committed (Some client) commit m =
    after_committed_by (session_from_client_of (timeline_in m) client commit.at (offset_in m)) client commit m

after_commit : (commit : Commit) (m : Machine) → KeepsRest m (commit_taken commit m)
unfolding commit_taken
after_commit commit m = after_timeline_committed commit.timeline commit m

-- ---- the end of every event

pub record Goes (m n : Machine) : Type 0 where
  pub config : n.config ≡ m.config
  pub moment : n.moment ≡ m.moment
  pub app : n.app ≡ m.app
  pub audio : n.audio ≡ m.audio
  pub quantum : n.quantum ≡ m.quantum

still : (m : Machine) → Goes m m
still m = record { config = refl; moment = refl; app = refl; audio = refl; quantum = refl }

then_both : (m n o : Machine) → Goes m n → Goes n o → Goes m o
then_both m n o first second = record {
  config = second.config ∙ first.config;
  moment = second.moment ∙ first.moment;
  app = second.app ∙ first.app;
  audio = second.audio ∙ first.audio;
  quantum = second.quantum ∙ first.quantum;
}

settles : (m : Machine) (b : Bool) (n o : Machine) → Goes m n → Goes m o → Goes m (if b then n else o)
settles m b n o first second = by_test (λ t. Goes m (if t then n else o)) b (λ _. first) (λ _. second)

after_counted : (m : Machine) → Goes m (counted m)
after_counted m = record { config = refl; moment = refl; app = refl; audio = refl; quantum = refl }

after_founded : (m : Machine) → Goes m (founded m)
unfolding founded renewed
after_founded m = record { config = refl; moment = refl; app = refl; audio = refl; quantum = refl }

after_settled : (m : Machine) → Goes m (settled m)
unfolding settled
after_settled m =
    settles m (is_left m) (founded (counted m)) (counted m)
    (then_both m (counted m) (founded (counted m)) (after_counted m) (after_founded (counted m))) (after_counted m)

after_noted : (before : Held) (m : Machine) → Goes m (noted before m)
unfolding noted
after_noted before m = record { config = refl; moment = refl; app = refl; audio = refl; quantum = refl }

after_broadcast : (m : Machine) → Goes m (broadcast_after m)
unfolding broadcast_after
after_broadcast m = settles m (is_broadcast m) (record m { last_broadcast = Some m.moment; changed = false }) m (record { config = refl; moment = refl; app = refl; audio = refl; quantum = refl }) (still m)

after_broadcast_by : (e : EventValue) (m : Machine) → Goes m (broadcast_by e m)
after_broadcast_by (Tick now) m = after_broadcast m
after_broadcast_by (Rx gate from bytes now) m = still m
after_broadcast_by (App commit now) m = still m
after_broadcast_by (Audio number commit now) m = still m
after_broadcast_by (End now) m = still m

after_shown : (m : Machine) → Goes m (shown m)
unfolding shown
after_shown m = settles m (alike (state_in m) m.published) m (record m { published = state_in m }) (still m) (record { config = refl; moment = refl; app = refl; audio = refl; quantum = refl })

-- ---- the event itself

-- as the event leads from the machine: the quantum is as the event itself leaves it
pub record Leads (e : EventValue) (m n : Machine) : Type 0 where
  pub config : n.config ≡ m.config
  pub moment : n.moment ≡ m.moment
  pub app : n.app ≡ app_after m.app e
  pub audio : n.audio ≡ audio_after m.audio e
  pub quantum : n.quantum ≡ (taken e m).quantum

-- the rest stays
pub record Rests (m n : Machine) : Type 0 where
  pub id : n.id ≡ m.id
  pub drawn : n.drawn ≡ m.drawn
  pub peers : n.peers ≡ m.peers
  pub last_broadcast : n.last_broadcast ≡ m.last_broadcast
  pub changed : n.changed ≡ m.changed
  pub published : n.published ≡ m.published

rests_kept : (m n : Machine) → Keeps m n → Rests m n
rests_kept m n kept =
    record { id = kept.id; drawn = kept.drawn; peers = kept.peers; last_broadcast = kept.last_broadcast; changed = kept.changed; published = kept.published }

pub rests_taken : (e : EventValue) (m : Machine) → Rests m (taken e m)
unfolding app_taken audio_taken
rests_taken (Rx gate from bytes now) m = rests_kept m (arrived gate from (reading_of bytes) m) (after_arrived gate from (reading_of bytes) m)
rests_taken (Tick now) m = rests_kept m (ticked m) (after_ticked m)
rests_taken (App commit now) m =
    let next = record m { app = m.app + 1 } in
    let kept = after_commit commit next in
    record { id = kept.id; drawn = kept.drawn; peers = kept.peers; last_broadcast = kept.last_broadcast; changed = kept.changed; published = kept.published }
rests_taken (Audio number commit now) m =
    let next = record m { audio = number } in
    let kept = after_commit commit next in
    record { id = kept.id; drawn = kept.drawn; peers = kept.peers; last_broadcast = kept.last_broadcast; changed = kept.changed; published = kept.published }
rests_taken (End now) m = record { id = refl; drawn = refl; peers = refl; last_broadcast = refl; changed = refl; published = refl }

pub leads_taken : (e : EventValue) (m : Machine) → Leads e m (taken e m)
unfolding app_taken audio_taken
leads_taken (Rx gate from bytes now) m =
    let kept = after_arrived gate from (reading_of bytes) m in
    record { config = kept.config; moment = kept.moment; app = kept.app; audio = kept.audio; quantum = refl }
leads_taken (Tick now) m =
    let kept = after_ticked m in
    record { config = kept.config; moment = kept.moment; app = kept.app; audio = kept.audio; quantum = refl }
leads_taken (App commit now) m =
    let kept = after_commit commit (record m { app = m.app + 1 }) in
    record { config = kept.config; moment = kept.moment; app = kept.app; audio = kept.audio; quantum = refl }
leads_taken (Audio number commit now) m =
    let kept = after_commit commit (record m { audio = number }) in
    record { config = kept.config; moment = kept.moment; app = kept.app; audio = kept.audio; quantum = refl }
leads_taken (End now) m = record { config = refl; moment = refl; app = refl; audio = refl; quantum = refl }

leads_on : (e : EventValue) (m n o : Machine) → Leads e m n → Goes n o → Leads e m o
leads_on e m n o first second = record {
  config = second.config ∙ first.config;
  moment = second.moment ∙ first.moment;
  app = second.app ∙ first.app;
  audio = second.audio ∙ first.audio;
  quantum = second.quantum ∙ first.quantum;
}

pub leads_before_broadcast : (m : Machine) (e : EventValue) → Leads e (at_moment (moment_of e) m) (before_broadcast e m)
unfolding before_broadcast
leads_before_broadcast m e =
    let at = at_moment (moment_of e) m in
    let a = taken e at in
    let b = settled a in
    leads_on e at a (noted (held_in m) b) (leads_taken e at) (then_both a b (noted (held_in m) b) (after_settled a) (after_noted (held_in m) b))

pub leads_step : (m : Machine) (e : EventValue) → Leads e (at_moment (moment_of e) m) (step_of m e)
unfolding step_of before_shown
leads_step m e =
    let at = at_moment (moment_of e) m in
    let b = before_broadcast e m in
    let c = broadcast_by e b in
    leads_on e at b (shown c) (leads_before_broadcast m e) (then_both b c (shown c) (after_broadcast_by e b) (after_shown c))
