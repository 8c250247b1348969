-- A node is well formed at its opening, and a step keeps that.
use Rattle.std.proofs.Common.{◌≡◌, ◌+◌, ◌||◌, ◌==◌, ℕ, ℤ, pos, neg_ℤ, Bool, true, false, not, List, [], ◌∷◌, ◌++◌, nat_lt, int_lt, length, drop, filter, Option, Some, None, Result, Ok, Err, refl, sym, ◌∙◌, subst}
use Rattle.std.proofs.lemmas.Bool.{and_parts, eq-eqb, eqb-true}
use Rattle.std.proofs.lemmas.Bool.Decides.{Decides-int_eq}
use Rattle.std.specs.Prelude.{if◌then◌else◌, is_some, unwrap_or}
use Rattle.std.specs.Result.{result_map_both}
use Rattle.std.specs.Ordering.{int_eq}
use Rattle.std.specs.List.{AllByRecursion}
use Rattle.std.specs.Option.{ForSome}
use Rattle.ghost_xform.specs.GhostTime.{ghost_of}
use Rattle.lk_base.specs.IdOrder.{same_id}
use Rattle.lk_base.specs.Ranges.{IsMoment, IsQuantum}
use Rattle.lk_base.specs.Timeline.{IsTidy}
use Rattle.lk_base.specs.declared.endpoint.Endpoint.{Endpoint}
use Rattle.lk_base.specs.declared.endpoint.Gate.{Gate}
use Rattle.lk_base.specs.declared.endpoint.Target.{Target}
use Rattle.lk_base.specs.declared.ids.NodeId.{NodeId}
use Rattle.lk_base.specs.declared.start.ClientStart.{ClientStart}
use Rattle.lk_base.specs.declared.start.SessionStart.{SessionStart}
use Rattle.lk_base.specs.declared.timeline.Timeline.{Timeline}
use Rattle.link_payload.specs.Fields.{AreInRange, AreTimesInRange, pong_answer_of, state_answer_of}
use Rattle.link_payload.specs.Items.{cut_of, entries_of}
use Rattle.link_payload.specs.declared.fault.PayloadFault.{PayloadFault}
use Rattle.link_payload.specs.declared.fields.PeerFields.{PeerFields}
use Rattle.link_payload.specs.declared.fields.PongFields.{PongFields}
use Rattle.link_payload.proofs.AnsweredLemmas.{pong_answered, state_answered}
use Rattle.asdp_messages.specs.Datagram.{MessageValue, IsInRange, group_in, is_discovery, is_link, kind_in, sender_in, state_message_in, ttl_in}
use Rattle.asdp_messages.specs.Datagram as message
use Rattle.asdp_messages.specs.Reading.{discovery_reading_of, link_reading_of, payload_reading_of, reading_of}
use Rattle.asdp_messages.specs.declared.fault.WireFault.{WireFault}
use Rattle.asdp_messages.specs.declared.fault.WireFault.TheVariants.{Short, NotLink, TooLong, Payload}
use Rattle.asdp_messages.specs.declared.message.StateMsg.{StateMsg}
use Rattle.peer_gateway.specs.Answers.{peers_in, seen_of, target_of}
use Rattle.peer_gateway.specs.Happenings.{rows_of, said_goodbye}
use Rattle.peer_gateway.specs.declared.row.Seen.{Seen}
use Rattle.peer_gateway.specs.declared.row.Seen.TheVariants as seen
use Rattle.ping_measure.specs.Life.{Life, pong_after, pong_outcome, tick_after, tick_outcome}
use Rattle.ping_measure.specs.declared.outcome.Outcome.{Outcome}
use Rattle.ping_measure.specs.declared.outcome.Outcome.TheVariants.{Idle, Again, Done, Failed}
use Rattle.session_choice.specs.History.{Taking, History, begun as begun_with, committed, forgotten, joined, measured_after, measured_by, measured_of, opening, other_in, saw_after, saw_of, session_of, taken_by, with_taken}
use Rattle.session_choice.specs.Keyed.{found_by, updated_by, without_by}
use Rattle.session_choice.specs.Winning.{wins_over}
use Rattle.session_choice.specs.declared.verdict.Saw.{Saw}
use Rattle.session_choice.specs.declared.verdict.Saw.TheVariants.{Taken, Kept, New, Full}
use Rattle.session_choice.specs.declared.verdict.Verdict.{Verdict}
use Rattle.session_choice.specs.declared.verdict.Verdict.TheVariants.{Joined, Stayed, Remeasured, Unknown}
use Rattle.session_choice.proofs.DistinctLemmas.{same-itself}
use Rattle.session_choice.proofs.Lists.{all_append, by_test}
use Rattle.client_state.specs.Commit.{IsTidyCommit, IsTidyStart, same_bool, same_timeline}
use Rattle.client_state.specs.State.{IsTidyState}
use Rattle.client_state.specs.Starts.{start_to_client_of, start_to_session_of}
use Rattle.client_state.specs.Timelines.{session_from_client_of}
use Rattle.client_state.specs.declared.commit.Commit.{Commit}
use Rattle.client_state.specs.declared.state.State.{State}
use Rattle.timeline_math.specs.Beats.{beat_at}
use Rattle.timeline_math.specs.Tidying.{tidy_of}
use Rattle.link_node.specs.Arrival.{arrived, is_heard}
use Rattle.link_node.specs.Broadcast.{broadcast_after, is_broadcast}
use Rattle.link_node.specs.Client.{renewed}
use Rattle.link_node.specs.Commits.{app_taken, audio_taken, commit_taken, committed_by, reaches_session, rest_committed, start_committed, timeline_committed, with_client_start, with_client_timeline}
use Rattle.link_node.specs.Config.{ConfigValue, IsConfig}
use Rattle.link_node.specs.Event.{EventValue, Rx, Tick, App, Audio, End, Fits, app_after, audio_after, moment_of}
use Rattle.link_node.specs.Machine.{Machine, session_in, timeline_in, offset_in}
use Rattle.link_node.specs.Measuring.{chosen, judged, measured, measurement_ticked, pong_by, pong_heard, remeasured_later, tick_by, unmeasured}
use Rattle.link_node.specs.Opening.{opened, opening_state_of}
use Rattle.link_node.specs.Publishing.{alike, same_client_start, shown, state_in}
use Rattle.link_node.specs.Runs.{AreFitting, machine_after, published_by, shown_by}
use Rattle.link_node.specs.Settling.{counted, founded, founding_timeline_in, held_in, id_drawn, is_left, noted, settled}
use Rattle.link_node.specs.Step.{at_moment, before_broadcast, before_shown, broadcast_by, change_of, step_of, taken}
use Rattle.link_node.specs.declared.event.Change.{Change}
use Rattle.link_node.specs.declared.event.Change.TheVariants.{Same, Published}
use Rattle.link_node.specs.declared.node.settling.Held.{Held}
use Rattle.link_node.specs.Taking.{followed, is_current, listened, reaches_client, sighted, start_taken, state_taken, timeline_taken, with_start}
use Rattle.link_node.specs.Tick.{begun, begun_at, begun_from, begun_one, cleared, idle_forgotten, is_needed, is_remeasured, pruned, remeasure_queued, ticked, waiting_with}
use Rattle.link_node.specs.WellFormed.{AreTidyTimelines, IsInLimits, IsMachine}
use Rattle.link_node.proofs.NumberLemmas.{given-range}
use Rattle.link_node.proofs.RuleLemmas.{alone-parts, settled_parts, taken_parts}
use Rattle.link_node.proofs.SessionsLemmas.{HasIds, from_parts, to_parts}
use Rattle.link_node.proofs.TidyLemmas.{beat_at-within, moment-max, moment-within, start-limits, start-tidy, tidied, tidy-at, tidy-best, tidy-client, tidy-given, zero-within}

-- ---- all rows

module _ {A : Type 0} (P : A → Type 0) (key : A → NodeId) (id : NodeId) where
  all-updated : (change : A → A) → ((row : A) → P row → P (change row)) → (rows : List A) → AllByRecursion P rows → AllByRecursion P (updated_by key id change rows)
  all-updated change keeps [] all = tt
  all-updated change keeps (row ∷ rows) all =
      by_test (λ b. AllByRecursion P (if b then change row ∷ rows else row ∷ updated_by key id change rows)) (same_id (key row) id)
      (λ _. (keeps row all.0, all.1)) (λ _. (all.0, all-updated change keeps rows all.1))

  all-without : (rows : List A) → AllByRecursion P rows → AllByRecursion P (without_by key id rows)
  all-without [] all = tt
  all-without (row ∷ rows) all =
      by_test (λ b. AllByRecursion P (if b then rows else row ∷ without_by key id rows)) (same_id (key row) id)
      (λ _. all.1) (λ _. (all.0, all-without rows all.1))

  all-found : (rows : List A) (row : A) → found_by key id rows ≡ Some row → AllByRecursion P rows → P row
  all-found [] row found all = absurd (cc)
  all-found (first ∷ rows) row found all =
      by_test (λ b. (if b then Some first else found_by key id rows) ≡ Some row → P row) (same_id (key first) id)
      (λ _ is. let e : first ≡ row = cc in subst P e all.0) (λ _ is. all-found rows row is all.1) found

all-filtered : {A : Type 0} (P : A → Type 0) (test : A → Bool) (rows : List A) → AllByRecursion P rows → AllByRecursion P (filter test rows)
all-filtered P test [] all = tt
all-filtered P test (row ∷ rows) all =
    by_test (λ b. AllByRecursion P (if b then row ∷ filter test rows else filter test rows)) (test row)
    (λ _. (all.0, all-filtered P test rows all.1)) (λ _. all-filtered P test rows all.1)

-- ---- all timelines of sessions

abbrev pub AreTidySessions : History → Type 0
AreTidySessions h = AllByRecursion AreTidyTimelines (h.current ∷ h.others)

tidy-taken : (tl : Timeline) (taking : Taking) → IsTidy tl → AreTidyTimelines taking → AreTidyTimelines (with_taken tl taking)
tidy-taken tl taking new all = (all.0, all_append IsTidy taking.later (tl ∷ []) all.1 (new, tt))

tidy-other : (h : History) (session : NodeId) (tl : Timeline) (o : Option Taking) → IsTidy tl → AreTidySessions h → AreTidySessions (taken_by o h session tl)
tidy-other h session tl None new all =
    by_test (λ b. AreTidySessions (if b then record h { others = h.others ++ begun_with session tl ∷ [] } else h)) (nat_lt (length h.others) 64)
    (λ _. (all.0, all_append AreTidyTimelines h.others (begun_with session tl ∷ []) all.1 ((new, tt), tt))) (λ _. all)
tidy-other h session tl (Some other) new all =
    (all.0, all-updated AreTidyTimelines session_of session (with_taken tl) (λ row held. tidy-taken tl row new held) h.others all.1)

tidy-saw : (h : History) (session : NodeId) (tl : Timeline) → IsTidy tl → AreTidySessions h → AreTidySessions (saw_after h session tl)
unfolding saw_after
tidy-saw h session tl new all =
    by_test (λ b. AreTidySessions (if b then record h { current = with_taken tl h.current } else taken_by (other_in session h) h session tl)) (same_id h.current.session session)
    (λ _. (tidy-taken tl h.current new all.0, all.1)) (λ _. tidy-other h session tl (other_in session h) new all)

tidy-joined : (h : History) (session : NodeId) (offset now : ℤ) (o : Option Taking) → other_in session h ≡ o → AreTidySessions h → AreTidySessions (measured_by o h offset now)
tidy-joined h session offset now None found all = all
tidy-joined h session offset now (Some other) found all =
    by_test (λ b. AreTidySessions (if b then joined other offset h else h)) (wins_over other.session offset h.current.session h.offset now)
    (λ _. (
      all-found AreTidyTimelines session_of session h.others other found all.1,
      all-updated AreTidyTimelines session_of other.session (λ _. h.current) (λ row held. all.0) h.others all.1,
    )) (λ _. all)

tidy-measured : (h : History) (session : NodeId) (offset now : ℤ) → AreTidySessions h → AreTidySessions (measured_after h session offset now)
unfolding measured_after
tidy-measured h session offset now all =
    by_test (λ b. AreTidySessions (if b then record h { offset = offset } else measured_by (other_in session h) h offset now)) (same_id h.current.session session)
    (λ _. all) (λ _. tidy-joined h session offset now (other_in session h) refl all)

-- ---- what isn't of ids

pub record AreTidyParts (config : ConfigValue) (moment : ℤ) (sessions : History) (starts : List SessionStart) (client : Timeline) (client_start : ClientStart) (quantum : ℤ) (published : State) : Type 0 where
  pub setup : IsConfig config
  pub time : IsMoment moment
  pub timelines : AreTidySessions sessions
  pub limits : AllByRecursion IsInLimits starts
  pub tidy_client : IsTidy client
  pub tidy_start : IsTidyStart client_start
  pub in_range : IsQuantum quantum
  pub tidy_state : IsTidyState published

abbrev pub IsTidyNode : Machine → Type 0
IsTidyNode m = AreTidyParts m.config m.moment m.sessions m.starts m.client m.client_start m.quantum m.published

module _ {config : ConfigValue} {moment : ℤ} {sessions : History} {starts : List SessionStart} {client : Timeline} {client_start : ClientStart} {quantum : ℤ} {published : State} (h : AreTidyParts config moment sessions starts client client_start quantum published) where
  with_sessions : (others : History) → AreTidySessions others → AreTidyParts config moment others starts client client_start quantum published
  with_sessions others new = record { setup = h.setup; time = h.time; timelines = new; limits = h.limits; tidy_client = h.tidy_client; tidy_start = h.tidy_start; in_range = h.in_range; tidy_state = h.tidy_state }

  with_starts : (others : List SessionStart) → AllByRecursion IsInLimits others → AreTidyParts config moment sessions others client client_start quantum published
  with_starts others new = record { setup = h.setup; time = h.time; timelines = h.timelines; limits = new; tidy_client = h.tidy_client; tidy_start = h.tidy_start; in_range = h.in_range; tidy_state = h.tidy_state }

  with_client : (other : Timeline) → IsTidy other → AreTidyParts config moment sessions starts other client_start quantum published
  with_client other new = record { setup = h.setup; time = h.time; timelines = h.timelines; limits = h.limits; tidy_client = new; tidy_start = h.tidy_start; in_range = h.in_range; tidy_state = h.tidy_state }

  with_playing : (other : ClientStart) → IsTidyStart other → AreTidyParts config moment sessions starts client other quantum published
  with_playing other new = record { setup = h.setup; time = h.time; timelines = h.timelines; limits = h.limits; tidy_client = h.tidy_client; tidy_start = new; in_range = h.in_range; tidy_state = h.tidy_state }

  with_quantum : (other : ℤ) → IsQuantum other → AreTidyParts config moment sessions starts client client_start other published
  with_quantum other new = record { setup = h.setup; time = h.time; timelines = h.timelines; limits = h.limits; tidy_client = h.tidy_client; tidy_start = h.tidy_start; in_range = new; tidy_state = h.tidy_state }

tidy-current : (m : Machine) → IsTidyNode m → IsTidy (timeline_in m)
tidy-current m h = tidy-best m.sessions.current.first m.sessions.current.later h.timelines.0

renewed_tidy : (m : Machine) → IsTidyNode m → IsTidyNode (renewed m)
unfolding renewed
renewed_tidy m h = with_client h (renewed m).client (tidy-client m.client (timeline_in m) m.moment (offset_in m) (tidy-current m h))

-- ---- a state that was told

followed_tidy : (saw : Saw) (session : NodeId) (m : Machine) → IsTidyNode m → IsTidyNode (followed saw session m)
followed_tidy New session m h = h
followed_tidy Taken session m h = by_test (λ b. IsTidyNode (if b then renewed m else m)) (is_current session m) (λ _. renewed_tidy m h) (λ _. h)
followed_tidy Kept session m h = h
followed_tidy Full session m h = h

timeline_tidy : (fields : PeerFields) (m : Machine) → IsTidyNode m → IsTidyNode (timeline_taken fields m)
unfolding timeline_taken
timeline_tidy fields m h =
    let tl = tidy_of fields.timeline in
    let sessions = saw_after m.sessions fields.session tl in
    followed_tidy (saw_of m.sessions fields.session tl) fields.session (record m { sessions = sessions })
    (with_sessions h sessions (tidy-saw m.sessions fields.session tl (tidied fields.timeline) h.timelines))

with_start_tidy : (start : SessionStart) (m : Machine) → IsInLimits start → IsTidyNode m → IsTidyNode (with_start start m)
with_start_tidy start m within h =
    let more = with_starts h (m.starts ++ start ∷ []) (all_append IsInLimits m.starts (start ∷ []) h.limits (within, tt)) in
    by_test (λ b. AreTidyParts m.config m.moment m.sessions (m.starts ++ start ∷ []) m.client (if b then start_to_client_of start (timeline_in m) (offset_in m) else m.client_start) m.quantum m.published)
    (reaches_client start m)
    (λ _. with_playing more (start_to_client_of start (timeline_in m) (offset_in m)) (start-tidy start (timeline_in m) (offset_in m))) (λ _. more)

start_tidy : (fields : PeerFields) (m : Machine) → AreInRange fields → IsTidyNode m → IsTidyNode (start_taken fields m)
unfolding start_taken
start_tidy fields m range h =
    by_test (λ b. IsTidyNode (if b then with_start fields.start m else m)) (is_current fields.session m)
    (λ _. with_start_tidy fields.start m (range.beats, range.stamp) h) (λ _. h)

listened_tidy : (answer : Seen) (fields : PeerFields) (m : Machine) → AreInRange fields → IsTidyNode m → IsTidyNode (listened answer fields m)
listened_tidy seen.TableFull fields m range h = h
listened_tidy seen.New fields m range h = start_tidy fields (timeline_taken fields m) range (timeline_tidy fields m h)
listened_tidy seen.Known fields m range h = start_tidy fields (timeline_taken fields m) range (timeline_tidy fields m h)

state_tidy : (gate : Gate) (msg : StateMsg) (m : Machine) → AreInRange msg.fields → IsTidyNode m → IsTidyNode (state_taken gate msg m)
unfolding state_taken sighted
state_tidy gate msg m range h = listened_tidy (seen_of gate msg.from m.life) msg.fields (sighted gate msg m) range h

-- ---- measurements

chosen_tidy : (verdict : Verdict) (m : Machine) → IsTidyNode m → IsTidyNode (chosen verdict m)
chosen_tidy Joined m h = renewed_tidy (record m { starts = [] }) (with_starts h [] tt)
chosen_tidy Remeasured m h = renewed_tidy m h
chosen_tidy Stayed m h = h
chosen_tidy Unknown m h = h

measured_tidy : (session : NodeId) (offset : ℤ) (m : Machine) → IsTidyNode m → IsTidyNode (measured session offset m)
unfolding measured
measured_tidy session offset m h =
    let sessions = measured_after m.sessions session offset m.moment in
    chosen_tidy (measured_of m.sessions session offset m.moment) (record m { sessions = sessions })
    (with_sessions h sessions (tidy-measured m.sessions session offset m.moment h.timelines))

unmeasured_tidy : (session : NodeId) (m : Machine) → IsTidyNode m → IsTidyNode (unmeasured session m)
unfolding unmeasured
unmeasured_tidy session m h =
    by_test (λ b. IsTidyNode (if b then remeasured_later m else record m { sessions = forgotten session m.sessions })) (same_id session (session_in m))
    (λ _. h) (λ _. with_sessions h (forgotten session m.sessions) (h.timelines.0, all-without AreTidyTimelines session_of session m.sessions.others h.timelines.1))

judged_tidy : (outcome : Outcome) (session : NodeId) (m : Machine) → IsTidyNode m → IsTidyNode (judged outcome session m)
judged_tidy Idle session m h = h
judged_tidy (Again ping) session m h = h
judged_tidy (Done xform) session m h = measured_tidy session xform.offset (record m { measuring = None }) h
judged_tidy (Failed fault) session m h = unmeasured_tidy session (record m { measuring = None }) h

pong_by_tidy : (o : Option Life) (gate : Gate) (from : Endpoint) (pong : PongFields) (m : Machine) → IsTidyNode m → IsTidyNode (pong_by o gate from pong m)
pong_by_tidy None gate from pong m h = h
pong_by_tidy (Some life) gate from pong m h =
    judged_tidy (pong_outcome life gate from pong m.moment) life.session (record m { measuring = Some (pong_after life gate from pong m.moment) }) h

pong_tidy : (gate : Gate) (from : Endpoint) (pong : PongFields) (m : Machine) → IsTidyNode m → IsTidyNode (pong_heard gate from pong m)
unfolding pong_heard
pong_tidy gate from pong m h = pong_by_tidy m.measuring gate from pong m h

tick_by_tidy : (o : Option Life) (m : Machine) → IsTidyNode m → IsTidyNode (tick_by o m)
tick_by_tidy None m h = h
tick_by_tidy (Some life) m h = judged_tidy (tick_outcome life m.moment) life.session (record m { measuring = Some (tick_after life m.moment) }) h

measurement_tidy : (m : Machine) → IsTidyNode m → IsTidyNode (measurement_ticked m)
unfolding measurement_ticked
measurement_tidy m h = tick_by_tidy m.measuring m h

-- ---- what is read is in range

abbrev ReadsInRange : Result MessageValue WireFault → Type 0
ReadsInRange (Ok m) = IsInRange m
ReadsInRange (Err fault) = Unit {0}

payload-range : {A : Type 0} (Range : A → Type 0) (message_of : A → MessageValue) (answer : Result A PayloadFault) → ((fields : A) → Range fields → IsInRange (message_of fields))
    → ((fields : A) → answer ≡ Ok fields → Range fields) → ReadsInRange (result_map_both message_of (λ fault. Payload fault) answer)
payload-range Range message_of (Ok fields) range answered = range fields (answered fields refl)
payload-range Range message_of (Err fault) range answered = tt

link-range : (bytes : List ℕ) → ReadsInRange (link_reading_of bytes)
unfolding link_reading_of
link-range bytes =
    let payload = drop 9 bytes in
    let pong : Result MessageValue WireFault = payload_reading_of pong_answer_of (λ fields. message.Pong fields) payload in
    by_test (λ b. ReadsInRange (if b then Ok (message.Ping payload) else if kind_in bytes == 2 then pong else Ok (message.OtherLink (kind_in bytes)))) (kind_in bytes == 1)
    (λ _. tt)
    (λ _. by_test (λ b. ReadsInRange (if b then pong else Ok (message.OtherLink (kind_in bytes)))) (kind_in bytes == 2)
    (λ _. payload-range AreTimesInRange (λ fields. message.Pong fields) (pong_answer_of (entries_of payload) (cut_of payload)) (λ fields range. range)
    (λ fields is. (pong_answered (entries_of payload) (cut_of payload) fields is).0))
    (λ _. tt))

discovery-range : (bytes : List ℕ) → ReadsInRange (discovery_reading_of bytes)
unfolding discovery_reading_of
discovery-range bytes =
    let payload = drop 20 bytes in
    let alive : Result MessageValue WireFault = payload_reading_of state_answer_of (λ fields. message.Alive (state_message_in bytes fields)) payload in
    let response : Result MessageValue WireFault = payload_reading_of state_answer_of (λ fields. message.Response (state_message_in bytes fields)) payload in
    let bye : Result MessageValue WireFault = Ok (message.Bye (sender_in bytes) (ttl_in bytes) (group_in bytes)) in
    let other : Result MessageValue WireFault = Ok (message.OtherDiscovery (kind_in bytes)) in
    by_test (λ b. ReadsInRange (if b then alive else if kind_in bytes == 2 then response else if kind_in bytes == 3 then bye else other)) (kind_in bytes == 1)
    (λ _. payload-range AreInRange (λ fields. message.Alive (state_message_in bytes fields)) (state_answer_of (entries_of payload) (cut_of payload)) (λ fields range. range)
    (λ fields is. (state_answered (entries_of payload) (cut_of payload) fields is).0))
    (λ _. by_test (λ b. ReadsInRange (if b then response else if kind_in bytes == 3 then bye else other)) (kind_in bytes == 2)
    (λ _. payload-range AreInRange (λ fields. message.Response (state_message_in bytes fields)) (state_answer_of (entries_of payload) (cut_of payload)) (λ fields range. range)
    (λ fields is. (state_answered (entries_of payload) (cut_of payload) fields is).0))
    (λ _. by_test (λ b. ReadsInRange (if b then bye else other)) (kind_in bytes == 3) (λ _. tt) (λ _. tt)))

pub reading-range : (bytes : List ℕ) → ReadsInRange (reading_of bytes)
unfolding reading_of
reading-range bytes =
    let short : Result MessageValue WireFault = Err (Short (length bytes)) in
    let long : Result MessageValue WireFault = Err (TooLong (length bytes)) in
    let discovery : Result MessageValue WireFault = if nat_lt (length bytes) 20 then short else discovery_reading_of bytes in
    let read : Result MessageValue WireFault = if is_link bytes then link_reading_of bytes else discovery in
    let none : Result MessageValue WireFault = Err NotLink in
    by_test (λ b. ReadsInRange (if b then short else if not (is_discovery bytes || is_link bytes) then none else if nat_lt 512 (length bytes) then long else read)) (nat_lt (length bytes) 9)
    (λ _. tt)
    (λ _. by_test (λ b. ReadsInRange (if b then none else if nat_lt 512 (length bytes) then long else read)) (not (is_discovery bytes || is_link bytes))
    (λ _. tt)
    (λ _. by_test (λ b. ReadsInRange (if b then long else read)) (nat_lt 512 (length bytes))
    (λ _. tt)
    (λ _. by_test (λ b. ReadsInRange (if b then link_reading_of bytes else discovery)) (is_link bytes)
    (λ _. link-range bytes)
    (λ _. by_test (λ b. ReadsInRange (if b then short else discovery_reading_of bytes)) (nat_lt (length bytes) 20) (λ _. tt) (λ _. discovery-range bytes)))))

-- ---- a datagram

heard_tidy : (gate : Gate) (msg : StateMsg) (m : Machine) → AreInRange msg.fields → IsTidyNode m → IsTidyNode (if is_heard msg.from msg.group m then state_taken gate msg m else m)
heard_tidy gate msg m range h =
    by_test (λ b. IsTidyNode (if b then state_taken gate msg m else m)) (is_heard msg.from msg.group m) (λ _. state_tidy gate msg m range h) (λ _. h)

arrived_tidy : (gate : Gate) (from : Endpoint) (read : Result MessageValue WireFault) (m : Machine) → ReadsInRange read → IsTidyNode m → IsTidyNode (arrived gate from read m)
arrived_tidy gate from (Ok (message.Alive msg)) m range h = heard_tidy gate msg m range h
arrived_tidy gate from (Ok (message.Response msg)) m range h = heard_tidy gate msg m range h
arrived_tidy gate from (Ok (message.Bye id ttl group)) m range h =
    by_test (λ b. IsTidyNode (if b then record m { life = said_goodbye gate id m.life } else m)) (is_heard id group m) (λ _. h) (λ _. h)
arrived_tidy gate from (Ok (message.Ping payload)) m range h = h
arrived_tidy gate from (Ok (message.Pong pong)) m range h = pong_tidy gate from pong m h
arrived_tidy gate from (Ok (message.OtherDiscovery kind)) m range h = h
arrived_tidy gate from (Ok (message.OtherLink kind)) m range h = h
arrived_tidy gate from (Err fault) m range h = h

-- ---- a tick

forgotten_tidy : (m : Machine) → IsTidyNode m → IsTidyNode (idle_forgotten m)
unfolding idle_forgotten
forgotten_tidy m h = with_sessions h (idle_forgotten m).sessions (h.timelines.0, all-filtered AreTidyTimelines (is_needed m) m.sessions.others h.timelines.1)

cleared_tidy : (m : Machine) → IsTidyNode m → IsTidyNode (cleared m)
unfolding cleared pruned
cleared_tidy m h = forgotten_tidy (pruned m) h

queued_tidy : (m : Machine) → IsTidyNode m → IsTidyNode (remeasure_queued m)
unfolding remeasure_queued
queued_tidy m h =
    by_test (λ b. IsTidyNode (if b then record m { remeasure_at = None; waiting = waiting_with (session_in m) m.waiting } else m)) (is_remeasured m.remeasure_at m.moment) (λ _. h) (λ _. h)

begun_at_tidy : (target : Option Target) (session : NodeId) (m : Machine) → IsTidyNode m → IsTidyNode (begun_at target session m)
begun_at_tidy (Some target) session m h = h
begun_at_tidy None session m h = unmeasured_tidy session m h

begun_one_tidy : (session : NodeId) (m : Machine) → IsTidyNode m → IsTidyNode (begun_one session m)
unfolding begun_one
begun_one_tidy session m h = begun_at_tidy (target_of session m.life) session m h

begun_from_tidy : (waiting : List NodeId) (m : Machine) → IsTidyNode m → IsTidyNode (begun_from waiting m)
unfolding begun_from
begun_from_tidy [] m h = h
begun_from_tidy (session ∷ rest) m h =
    by_test (λ b. IsTidyNode (if b then m else begun_from rest (begun_one session (record m { waiting = rest })))) (is_some m.measuring)
    (λ _. h) (λ _. begun_from_tidy rest (begun_one session (record m { waiting = rest })) (begun_one_tidy session (record m { waiting = rest }) h))

tick_tidy : (m : Machine) → IsTidyNode m → IsTidyNode (ticked m)
unfolding ticked begun
tick_tidy m h =
    let last = remeasure_queued (measurement_ticked (cleared m)) in
    begun_from_tidy last.waiting last (queued_tidy (measurement_ticked (cleared m)) (measurement_tidy (cleared m) (cleared_tidy m h)))

-- ---- a commit

with_client_start_tidy : (start : ClientStart) (m : Machine) → IsTidyStart start → IsTidyNode m → IsTidyNode (with_client_start start m)
with_client_start_tidy start m tidy h =
    let playing = with_playing h start tidy in
    let told = start_to_session_of start (timeline_in m) (offset_in m) in
    by_test (λ b. AreTidyParts m.config m.moment m.sessions (if b then m.starts ++ told ∷ [] else m.starts) m.client start m.quantum m.published) (reaches_session start m)
    (λ _. with_starts playing (m.starts ++ told ∷ []) (all_append IsInLimits m.starts (told ∷ []) h.limits (start-limits start (timeline_in m) (offset_in m), tt))) (λ _. playing)

start_committed_tidy : (start : Option ClientStart) (m : Machine) → ForSome start IsTidyStart → IsTidyNode m → IsTidyNode (start_committed start m)
unfolding start_committed
start_committed_tidy None m tidy h = h
start_committed_tidy (Some start) m tidy h =
    by_test (λ b. IsTidyNode (if b then with_client_start start m else m)) (int_lt m.client_start.stamp start.stamp)
    (λ _. with_client_start_tidy start m (tidy start refl) h) (λ _. h)

rest_committed_tidy : (commit : Commit) (m : Machine) → IsTidyCommit commit → IsTidyNode m → IsTidyNode (rest_committed commit m)
rest_committed_tidy commit m tidy h =
    let n = start_committed commit.start m in
    let after : IsTidyNode n = start_committed_tidy commit.start m tidy.start h in
    with_quantum after (unwrap_or commit.quantum n.quantum) (given-range commit.quantum n.quantum tidy.quantum after.in_range)

committed_tidy : (session : Option Timeline) (client : Timeline) (commit : Commit) (m : Machine) → ForSome session IsTidy → IsTidy client → IsTidyCommit commit → IsTidyNode m
    → IsTidyNode (committed_by session client commit m)
committed_tidy None client commit m given tidy later h = h
committed_tidy (Some session) client commit m given tidy later h =
    let sessions = committed session m.sessions in
    rest_committed_tidy commit (with_client_timeline client session m) later
    (renewed_tidy (record m { client = client; sessions = sessions })
    (with_sessions (with_client h client tidy) sessions (tidy-taken session m.sessions.current (given session refl) h.timelines.0, h.timelines.1)))

timeline_committed_tidy : (timeline : Option Timeline) (commit : Commit) (m : Machine) → ForSome timeline IsTidy → IsTidyCommit commit → IsTidyNode m
    → IsTidyNode (timeline_committed timeline commit m)
timeline_committed_tidy None commit m timeline tidy h = rest_committed_tidy commit m tidy h
timeline_committed_tidy (Some client) commit m timeline tidy h =
    committed_tidy (session_from_client_of (timeline_in m) client commit.at (offset_in m)) client commit m
    (λ given is. tidy-given (timeline_in m) client given commit.at (offset_in m) (tidy-current m h) (timeline client refl) is)
    (timeline client refl) tidy h

commit_tidy : (commit : Commit) (m : Machine) → IsTidyCommit commit → IsTidyNode m → IsTidyNode (commit_taken commit m)
unfolding commit_taken
commit_tidy commit m tidy h = timeline_committed_tidy commit.timeline commit m tidy.timeline tidy h

-- ---- an event

taken_tidy : (e : EventValue) (m : Machine) (gates app audio : ℕ) → Fits gates app audio e → IsTidyNode m → IsTidyNode (taken e m)
unfolding app_taken audio_taken
taken_tidy (Rx gate from bytes now) m gates app audio fits h = arrived_tidy gate from (reading_of bytes) m (reading-range bytes) h
taken_tidy (Tick now) m gates app audio fits h = tick_tidy m h
taken_tidy (App commit now) m gates app audio fits h = commit_tidy commit (record m { app = m.app + 1 }) fits.1.0 h
taken_tidy (Audio number commit now) m gates app audio fits h = commit_tidy commit (record m { audio = number }) fits.1.0 h
taken_tidy (End now) m gates app audio fits h = h

-- ---- settling

-- what holds of a node whose peers were counted, whatever is published
pub record IsCounted (m : Machine) : Type 0 where
  pub ids : HasIds m
  pub tidy : IsTidyNode m
  pub peers : m.peers ≡ peers_in (session_in m) m.life

founding-tidy : (m : Machine) → IsTidyNode m → IsTidy (founding_timeline_in m)
unfolding founding_timeline_in
founding-tidy m h =
    let current = tidy-current m h in
    let beat = beat_at (timeline_in m) (ghost_of (offset_in m) m.moment) in
    tidy-at (timeline_in m).mpb beat (pos 0) current.fastest current.slowest (beat_at-within (timeline_in m) (ghost_of (offset_in m) m.moment)) zero-within

founded_tidy : (m : Machine) → IsTidyNode m → IsTidyNode (founded m)
unfolding founded
founded_tidy m h =
    let id = id_drawn m.config.seed m.drawn in
    let sessions = opening id (founding_timeline_in m) (neg_ℤ m.moment) in
    let alone = record m { drawn = m.drawn + 1; id = id; sessions = sessions; starts = []; life = []; waiting = []; measuring = None; remeasure_at = None } in
    renewed_tidy alone (with_starts (with_sessions h sessions ((founding-tidy m h, tt), tt)) [] tt)

settled_tidy : (m : Machine) → IsTidyNode m → IsTidyNode (settled m)
unfolding settled
settled_tidy m h = by_test (λ b. IsTidyNode (if b then founded (counted m) else counted m)) (is_left m) (λ _. founded_tidy (counted m) h) (λ _. h)

nobody : (session : NodeId) → peers_in session [] ≡ 0
unfolding peers_in rows_of
nobody session = refl

founded-nobody : (m : Machine) → m.peers ≡ 0 → (founded m).peers ≡ peers_in (session_in (founded m)) (founded m).life
unfolding founded renewed
founded-nobody m none = none ∙ sym (nobody (id_drawn m.config.seed m.drawn))

left-none : (m : Machine) → is_left m ≡ true → peers_in (session_in m) m.life ≡ 0
left-none m left =
    let none = (and_parts (nat_lt 0 m.peers) (peers_in (session_in m) m.life == 0) left).1 in
    eqb-true (peers_in (session_in m) m.life) 0 none

settled-peers : (m : Machine) → (settled m).peers ≡ peers_in (session_in (settled m)) (settled m).life
unfolding settled
settled-peers m =
    by_test (λ b. is_left m ≡ b → (if b then founded (counted m) else counted m).peers
    ≡ peers_in (session_in (if b then founded (counted m) else counted m)) (if b then founded (counted m) else counted m).life) (is_left m)
    (λ _ left. founded-nobody (counted m) (left-none m left)) (λ _ _. refl) refl

-- ---- telling

noted_counted : (m : Machine) (before : Held) → IsCounted m → IsCounted (noted before m)
unfolding noted
noted_counted m before h = record { ids = h.ids; tidy = h.tidy; peers = h.peers }

broadcast_counted : (m : Machine) → IsCounted m → IsCounted (broadcast_after m)
unfolding broadcast_after
broadcast_counted m h =
    by_test (λ b. IsCounted (if b then record m { last_broadcast = Some m.moment; changed = false } else m)) (is_broadcast m)
    (λ _. record { ids = h.ids; tidy = h.tidy; peers = h.peers }) (λ _. h)

told_counted : (e : EventValue) (m : Machine) → IsCounted m → IsCounted (broadcast_by e m)
told_counted (Tick now) m h = broadcast_counted m h
told_counted (Rx gate from bytes now) m h = h
told_counted (App commit now) m h = h
told_counted (Audio number commit now) m h = h
told_counted (End now) m h = h

-- ---- showing

pub int_eq-itself : (n : ℤ) → int_eq n n ≡ true
int_eq-itself n = (Decides-int_eq n n).1 refl

pub same_bool-itself : (b : Bool) → same_bool b b ≡ true
same_bool-itself true = refl
same_bool-itself false = refl

pub same_timeline-itself : (tl : Timeline) → same_timeline tl tl ≡ true
same_timeline-itself tl = rw (int_eq-itself tl.mpb, int_eq-itself tl.beat, int_eq-itself tl.time) refl

same_start-itself : (start : ClientStart) → same_client_start start start ≡ true
same_start-itself start = rw (same_bool-itself start.playing, int_eq-itself start.time, int_eq-itself start.stamp) refl

eqb-itself : (n : ℕ) → (n == n) ≡ true
eqb-itself n = eq-eqb n n refl

pub alike-itself : (state : State) → alike state state ≡ true
unfolding alike
alike-itself state =
    rw (
      same_timeline-itself state.timeline,
      same_start-itself state.start,
      same_bool-itself state.sync,
      eqb-itself state.peers,
      eqb-itself state.app,
      eqb-itself state.audio,
      same-itself state.session,
      int_eq-itself state.quantum,
    ) refl

pub state-tidy : (m : Machine) → IsTidyNode m → IsTidyState (state_in m)
state-tidy m h = record {
  timeline = h.tidy_client;
  start = h.tidy_start.time;
  stamp = h.tidy_start.stamp;
  moment = moment-within m.moment h.time;
  quantum = h.in_range;
}

shown-sound : (m : Machine) → IsCounted m → IsMachine (shown m)
unfolding shown
shown-sound m h =
    by_test (λ b. alike (state_in m) m.published ≡ b → IsMachine (if b then m else record m { published = state_in m })) (alike (state_in m) m.published)
    (λ _ same. record {
      config = h.tidy.setup;
      moment = h.tidy.time;
      sessions = from_parts m h.ids;
      timelines = h.tidy.timelines;
      starts = h.tidy.limits;
      peers = h.peers;
      client = h.tidy.tidy_client;
      client_start = h.tidy.tidy_start;
      quantum = h.tidy.in_range;
      published = h.tidy.tidy_state;
      shown = same;
    })
    (λ _ _. record {
      config = h.tidy.setup;
      moment = h.tidy.time;
      sessions = from_parts (record m { published = state_in m }) h.ids;
      timelines = h.tidy.timelines;
      starts = h.tidy.limits;
      peers = h.peers;
      client = h.tidy.tidy_client;
      client_start = h.tidy.tidy_start;
      quantum = h.tidy.in_range;
      published = state-tidy m h.tidy;
      shown = alike-itself (state_in m);
    })
    refl

-- ---- the step

tidy-from : (m : Machine) → IsMachine m → IsTidyNode m
tidy-from m h = record {
  setup = h.config;
  time = h.moment;
  timelines = h.timelines;
  limits = h.starts;
  tidy_client = h.client;
  tidy_start = h.client_start;
  in_range = h.quantum;
  tidy_state = h.published;
}

at_moment_tidy : (now : ℤ) (m : Machine) → IsMoment now → IsTidyNode m → IsTidyNode (at_moment now m)
at_moment_tidy now m is h = record {
  setup = h.setup;
  time = moment-max m.moment now h.time is;
  timelines = h.timelines;
  limits = h.limits;
  tidy_client = h.tidy_client;
  tidy_start = h.tidy_start;
  in_range = h.in_range;
  tidy_state = h.tidy_state;
}

settled_counted : (m : Machine) → HasIds m → IsTidyNode m → IsCounted (settled m)
settled_counted m ids tidy = record { ids = settled_parts m ids; tidy = settled_tidy m tidy; peers = settled-peers m }

pub before-counted : (m : Machine) (e : EventValue) → IsMachine m → Fits (length m.config.gates) m.app m.audio e → IsCounted (before_shown e m)
unfolding before_shown before_broadcast
before-counted m e h fits =
    let now = at_moment (moment_of e) m in
    let after = taken e now in
    told_counted e (noted (held_in m) (settled after))
    (noted_counted (settled after) (held_in m)
    (settled_counted after (taken_parts e now (to_parts m h.sessions))
    (taken_tidy e now (length m.config.gates) m.app m.audio fits (at_moment_tidy (moment_of e) m fits.0 (tidy-from m h)))))

pub step_sound : (m : Machine) (e : EventValue) → IsMachine m → Fits (length m.config.gates) m.app m.audio e → IsMachine (step_of m e)
unfolding step_of
step_sound m e h fits = shown-sound (before_shown e m) (before-counted m e h fits)

-- ---- the opening

pub opened_sound : (config : ConfigValue) (now : ℤ) → IsConfig config → IsMoment now → IsMachine (opened config now)
unfolding opened
opened_sound config now is moment =
    let within = moment-within now moment in
    let client = tidy-at config.mpb (pos 0) now is.fastest is.slowest zero-within within in
    record {
      config = is;
      moment = moment;
      sessions = from_parts (opened config now) (alone-parts config.id);
      timelines = ((tidy-at config.mpb (pos 0) (pos 0) is.fastest is.slowest zero-within zero-within, tt), tt);
      starts = tt;
      peers = sym (nobody config.id);
      client = client;
      client_start = record { time = zero-within; stamp = zero-within };
      quantum = is.quantum;
      published = record { timeline = client; start = zero-within; stamp = zero-within; moment = within; quantum = is.quantum };
      shown = alike-itself (opening_state_of config now);
    }

-- ---- whole runs

-- what a step leaves of the counts that say whether the next event fits
pub record CountsOn : Type 0 where
  pub config : (m : Machine) (e : EventValue) → (step_of m e).config ≡ m.config
  pub app : (m : Machine) (e : EventValue) → (step_of m e).app ≡ app_after m.app e
  pub audio : (m : Machine) (e : EventValue) → (step_of m e).audio ≡ audio_after m.audio e

fitting-on : (counts : CountsOn) (m : Machine) (e : EventValue) (es : List EventValue) → AreFitting (length m.config.gates) (app_after m.app e) (audio_after m.audio e) es
    → AreFitting (length (step_of m e).config.gates) (step_of m e).app (step_of m e).audio es
fitting-on counts m e es fits =
    subst (λ (n : ℕ). AreFitting (length (step_of m e).config.gates) (step_of m e).app n es) (sym (counts.audio m e))
    (subst (λ (n : ℕ). AreFitting (length (step_of m e).config.gates) n (audio_after m.audio e) es) (sym (counts.app m e))
    (subst (λ (config : ConfigValue). AreFitting (length config.gates) (app_after m.app e) (audio_after m.audio e) es) (sym (counts.config m e)) fits))

pub run_sound : (counts : CountsOn) (m : Machine) (es : List EventValue) → IsMachine m → AreFitting (length m.config.gates) m.app m.audio es → IsMachine (machine_after m es)
unfolding machine_after
run_sound counts m [] h fits = h
run_sound counts m (e ∷ es) h fits = run_sound counts (step_of m e) es (step_sound m e h fits.0) (fitting-on counts m e es fits.1)

shown-tidy : (change : Change) (state : State) → IsTidyState state → AllByRecursion IsTidyState (shown_by change state)
shown-tidy Same state h = tt
shown-tidy Published state h = (h, tt)

pub published_tidy : (counts : CountsOn) (m : Machine) (es : List EventValue) → IsMachine m → AreFitting (length m.config.gates) m.app m.audio es
    → AllByRecursion IsTidyState (published_by m es)
unfolding published_by
published_tidy counts m [] h fits = tt
published_tidy counts m (e ∷ es) h fits =
    let sound = step_sound m e h fits.0 in
    all_append IsTidyState (shown_by (change_of m e) (step_of m e).published) (published_by (step_of m e) es)
    (shown-tidy (change_of m e) (step_of m e).published sound.published)
    (published_tidy counts (step_of m e) es sound (fitting-on counts m e es fits.1))
