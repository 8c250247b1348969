-- That each datagram goes out on a gate of the node.
use Rattle.std.proofs.Common.{◌≡◌, ◌<◌, ◌≤◌, ◌+◌, ℕ, ℤ, Bool, false, List, [], ◌∷◌, ◌++◌, length, map, filter, Option, Some, None, Result, Ok, Err, refl, ap, ◌∙◌, arith}
use Rattle.std.specs.Prelude.{nat_lt, not, ◌||◌, ◌&&◌, ◌==◌, int_lt, is_some, IfSome, if◌then◌else◌, option_map, option_and_then}
use Rattle.std.specs.List.{AllByRecursion, list_all}
use Rattle.std.specs.Option.{option_map_or}
use Rattle.lk_base.specs.IdOrder.{same_id}
use Rattle.lk_base.specs.declared.endpoint.Endpoint.{Endpoint}
use Rattle.lk_base.specs.declared.endpoint.Gate.{Gate}
use Rattle.lk_base.specs.declared.endpoint.Target.{Target}
use Rattle.lk_base.specs.declared.ids.NodeId.{NodeId}
use Rattle.lk_base.specs.declared.start.ClientStart.{ClientStart}
use Rattle.lk_base.specs.declared.timeline.Timeline.{Timeline}
use Rattle.link_payload.specs.declared.fields.PeerFields.{PeerFields}
use Rattle.link_payload.specs.declared.fields.PongFields.{PongFields}
use Rattle.asdp_messages.specs.Datagram.{MessageValue}
use Rattle.asdp_messages.specs.Datagram as message
use Rattle.asdp_messages.specs.Reading.{reading_of}
use Rattle.asdp_messages.specs.Spelling.{spelled_of}
use Rattle.asdp_messages.specs.Spelling as written
use Rattle.asdp_messages.specs.declared.fault.WireFault.{WireFault}
use Rattle.asdp_messages.specs.declared.message.StateMsg.{StateMsg}
use Rattle.ghost_xform.specs.GhostTime.{ghost_of}
use Rattle.peer_gateway.specs.Answers.{seen_of, target_of, target_at, first_of, comes_before, answering_in, founder_in, is_in}
use Rattle.peer_gateway.specs.Happenings.{Happening, sighting, goodbye, pruning, outlives, rows_of, life_after, said_goodbye}
use Rattle.peer_gateway.specs.declared.row.PeerRow.{PeerRow}
use Rattle.peer_gateway.specs.declared.row.Seen.{Seen}
use Rattle.peer_gateway.specs.declared.row.Seen.TheVariants as seen
use Rattle.ping_measure.specs.Life.{Life, with, is_over, is_from, is_early, pong_outcome, pong_after, tick_outcome, tick_after}
use Rattle.ping_measure.specs.Points.{counted as pong_counted, silent, strayed, points_in}
use Rattle.ping_measure.specs.declared.outcome.Outcome.{Outcome}
use Rattle.ping_measure.specs.declared.outcome.Outcome.TheVariants.{Idle, Again, Done, Failed}
use Rattle.session_choice.specs.History.{saw_of, saw_after, measured_of, measured_after, forgotten}
use Rattle.session_choice.specs.declared.verdict.Saw.{Saw}
use Rattle.session_choice.specs.declared.verdict.Saw.TheVariants as saw
use Rattle.session_choice.specs.declared.verdict.Verdict.{Verdict}
use Rattle.session_choice.specs.declared.verdict.Verdict.TheVariants.{Joined, Stayed, Remeasured, Unknown}
use Rattle.timeline_math.specs.Tidying.{tidy_of}
use Rattle.client_state.specs.Timelines.{session_from_client_of}
use Rattle.client_state.specs.declared.commit.Commit.{Commit}
use Rattle.link_node.specs.Arrival.{arrived, answers_to, pongs_to, is_heard}
use Rattle.link_node.specs.Broadcast.{broadcast_after, broadcast_in, is_broadcast}
use Rattle.link_node.specs.Client.{renewed}
use Rattle.link_node.specs.Commits.{start_committed, rest_committed, with_client_start, client_taken, timeline_committed, commit_taken, app_taken, audio_taken}
use Rattle.link_node.specs.Config.{ConfigValue, GateValue}
use Rattle.link_node.specs.Event.{EventValue, Rx, Tick, App, Audio, End, SendingValue, Fits, moment_of, app_after, audio_after}
use Rattle.link_node.specs.Machine.{Machine, session_in, timeline_in, offset_in}
use Rattle.link_node.specs.Measuring.{remeasured_later, chosen, measured, unmeasured, judged, ping_to, pings_of, pong_by, pong_heard, pings_by_pong, pings_after_pong, tick_by, measurement_ticked, pings_by_tick, pings_after_tick}
use Rattle.link_node.specs.Opening.{opened}
use Rattle.link_node.specs.Publishing.{shown, alike, state_in}
use Rattle.link_node.specs.Runs.{AreFitting, sent_by, sent_of}
use Rattle.link_node.specs.Settling.{held_in, settled, founded, counted, is_left, noted}
use Rattle.link_node.specs.Step.{at_moment, taken, answers, alives_by, before_broadcast, broadcast_by, before_shown, step_of, sends_of}
use Rattle.link_node.specs.Taking.{followed, timeline_taken, with_start, start_taken, sighted, listened, state_taken, is_current, row_of}
use Rattle.link_node.specs.Telling.{response_to, alive_of, alives_in, bye_of, byes_in, sent_from}
use Rattle.link_node.specs.Tick.{pruned, idle_forgotten, waiting_with, remeasure_queued, is_remeasured, begun_at, begun_one, begun_from, begun, pings_at, pings_from, pings_begun, cleared, ticked, pings_of_tick}
use Rattle.session_choice.proofs.Lists.{by_test, all_append}
use Rattle.link_node.proofs.Lists.{all_map, all_either}
use Rattle.link_node.proofs.MomentLemmas.{leads_step, leads_before_broadcast}

-- ---- on one of so many gates

abbrev IsRowOn : ℕ → PeerRow → Type 0
IsRowOn gates row = row.gate.0 < gates

abbrev IsSeenOn : ℕ → Happening → Type 0
IsSeenOn gates (sighting row) = row.gate.0 < gates
IsSeenOn gates (goodbye gate id) = Unit {0}
IsSeenOn gates (pruning moment) = Unit {0}

abbrev IsTargetOn : ℕ → Target → Type 0
IsTargetOn gates target = target.gate.0 < gates

abbrev IsMeasuredOn : ℕ → Life → Type 0
IsMeasuredOn gates life = life.target.gate.0 < gates

abbrev IsSentOn : ℕ → SendingValue → Type 0
IsSentOn gates sending = sending.gate.0 < gates

abbrev IsTakenOn : ℕ → EventValue → Type 0
IsTakenOn gates (Rx gate from bytes now) = gate.0 < gates
IsTakenOn gates (Tick now) = Unit {0}
IsTakenOn gates (App commit now) = Unit {0}
IsTakenOn gates (Audio number commit now) = Unit {0}
IsTakenOn gates (End now) = Unit {0}

-- what always holds along a run: the peers that were seen, and the target of the measurement that runs
record AreOn (gates : ℕ) (happened : List Happening) (running : Option Life) : Type 0 where
  pub life : AllByRecursion (IsSeenOn gates) happened
  pub measuring : IfSome running (IsMeasuredOn gates)

abbrev IsOn : ℕ → Machine → Type 0
IsOn gates m = AreOn gates m.life m.measuring

-- ---- where the target of a session comes from

all-filtered : {A : Type 0} (P : A → Type 0) (test : A → Bool) (xs : List A) → AllByRecursion P xs → AllByRecursion P (filter test xs)
all-filtered P test [] all = tt
all-filtered P test (x ∷ xs) all =
    all_either P (test x) (x ∷ filter test xs) (filter test xs) (all.0, all-filtered P test xs all.1) (all-filtered P test xs all.1)

mapped-on : (gates : ℕ) (f : Endpoint → Target) (endpoint : Option Endpoint) → ((e : Endpoint) → IsTargetOn gates (f e))
    → IfSome (option_map f endpoint) (IsTargetOn gates)
mapped-on gates f None on = tt
mapped-on gates f (Some endpoint) on = on endpoint

module _ (gates : ℕ) where
  rows-on : (life : List Happening) → AllByRecursion (IsSeenOn gates) life → AllByRecursion (IsRowOn gates) (rows_of life)
  unfolding rows_of
  rows-on [] on = tt
  rows-on (sighting row ∷ later) on =
      all_either (IsRowOn gates) (list_all (outlives row) later) (row ∷ rows_of later) (rows_of later) (on.0, rows-on later on.1) (rows-on later on.1)
  rows-on (goodbye gate id ∷ later) on = rows-on later on.1
  rows-on (pruning moment ∷ later) on = rows-on later on.1

  picked-on : (row : PeerRow) (found : Option PeerRow) → IsRowOn gates row → IfSome found (IsRowOn gates)
      → IsRowOn gates (option_map_or (λ other. if comes_before other row then other else row) found row)
  picked-on row None here there = here
  picked-on row (Some other) here there =
      by_test (λ b. IsRowOn gates (if b then other else row)) (comes_before other row) (λ _. there) (λ _. here)

  first-on : (rows : List PeerRow) → AllByRecursion (IsRowOn gates) rows → IfSome (first_of rows) (IsRowOn gates)
  first-on [] on = tt
  first-on (row ∷ rows) on = picked-on row (first_of rows) on.0 (first-on rows on.1)

  row-target-on : (found : Option PeerRow) → IfSome found (IsRowOn gates) → IfSome (option_and_then target_at found) (IsTargetOn gates)
  row-target-on None on = tt
  row-target-on (Some row) on =
      let at : Endpoint → Target = λ endpoint. record { gate = row.gate; id = row.id; endpoint = endpoint } in
      mapped-on gates at row.endpoint (λ _. on)

  target-on : (session : NodeId) (life : List Happening) → AllByRecursion (IsSeenOn gates) life → IfSome (target_of session life) (IsTargetOn gates)
  unfolding target_of
  target-on session life on =
      let answering = all-filtered (IsRowOn gates) (λ row. is_in session row && is_some row.endpoint) (rows_of life) (rows-on life on) in
      let founder = all-filtered (IsRowOn gates) (λ row. same_id row.id session) (answering_in session life) answering in
      row-target-on (if is_some (first_of (founder_in session life)) then first_of (founder_in session life) else first_of (answering_in session life))
      (by_test (λ b. IfSome (if b then first_of (founder_in session life) else first_of (answering_in session life)) (IsRowOn gates)) (is_some (first_of (founder_in session life)))
      (λ _. first-on (founder_in session life) founder) (λ _. first-on (answering_in session life) answering))

  -- ---- a message

  either-on : (b : Bool) (n o : Machine) → IsOn gates n → IsOn gates o → IsOn gates (if b then n else o)
  either-on b n o first second = by_test (λ t. IsOn gates (if t then n else o)) b (λ _. first) (λ _. second)

  followed-on : (answer : Saw) (session : NodeId) (m : Machine) → IsOn gates m → IsOn gates (followed answer session m)
  unfolding renewed
  followed-on saw.New session m on = on
  followed-on saw.Taken session m on = either-on (is_current session m) (renewed m) m on on
  followed-on saw.Kept session m on = on
  followed-on saw.Full session m on = on

  timeline-on : (fields : PeerFields) (m : Machine) → IsOn gates m → IsOn gates (timeline_taken fields m)
  unfolding timeline_taken
  timeline-on fields m on =
      followed-on (saw_of m.sessions fields.session (tidy_of fields.timeline)) fields.session (record m { sessions = saw_after m.sessions fields.session (tidy_of fields.timeline) }) on

  start-on : (fields : PeerFields) (m : Machine) → IsOn gates m → IsOn gates (start_taken fields m)
  unfolding start_taken
  start-on fields m on = either-on (is_current fields.session m) (with_start fields.start m) m on on

  listened-on : (answer : Seen) (fields : PeerFields) (m : Machine) → IsOn gates m → IsOn gates (listened answer fields m)
  listened-on seen.TableFull fields m on = on
  listened-on seen.New fields m on = start-on fields (timeline_taken fields m) (timeline-on fields m on)
  listened-on seen.Known fields m on = start-on fields (timeline_taken fields m) (timeline-on fields m on)

  life-on : (answer : Seen) (row : PeerRow) (life : List Happening) → IsRowOn gates row → AllByRecursion (IsSeenOn gates) life
      → AllByRecursion (IsSeenOn gates) (life_after answer row life)
  life-on seen.TableFull row life here on = on
  life-on seen.New row life here on = all_append (IsSeenOn gates) life (sighting row ∷ []) on (here, tt)
  life-on seen.Known row life here on = all_append (IsSeenOn gates) life (sighting row ∷ []) on (here, tt)

  state-on : (gate : Gate) (msg : StateMsg) (m : Machine) → gate.0 < gates → IsOn gates m → IsOn gates (state_taken gate msg m)
  unfolding state_taken sighted
  state-on gate msg m here on =
      listened-on (seen_of gate msg.from m.life) msg.fields (sighted gate msg m)
      (record { life = life-on (seen_of gate msg.from m.life) (row_of gate msg m) m.life here on.life; measuring = on.measuring })

  -- ---- measurements

  chosen-on : (verdict : Verdict) (m : Machine) → IsOn gates m → IsOn gates (chosen verdict m)
  unfolding renewed
  chosen-on Joined m on = on
  chosen-on Remeasured m on = on
  chosen-on Stayed m on = on
  chosen-on Unknown m on = on

  measured-on : (session : NodeId) (offset : ℤ) (m : Machine) → IsOn gates m → IsOn gates (measured session offset m)
  unfolding measured
  measured-on session offset m on =
      chosen-on (measured_of m.sessions session offset m.moment) (record m { sessions = measured_after m.sessions session offset m.moment }) on

  unmeasured-on : (session : NodeId) (m : Machine) → IsOn gates m → IsOn gates (unmeasured session m)
  unfolding unmeasured
  unmeasured-on session m on =
      either-on (same_id session (session_in m)) (remeasured_later m) (record m { sessions = forgotten session m.sessions }) on on

  judged-on : (outcome : Outcome) (session : NodeId) (m : Machine) → IsOn gates m → IsOn gates (judged outcome session m)
  judged-on Idle session m on = on
  judged-on (Again ping) session m on = on
  judged-on (Done xform) session m on = measured-on session xform.offset (record m { measuring = None }) (record { life = on.life; measuring = tt })
  judged-on (Failed fault) session m on = unmeasured-on session (record m { measuring = None }) (record { life = on.life; measuring = tt })

  life_by-on : (b : Bool) (k l : Life) → IsMeasuredOn gates k → IsMeasuredOn gates l → IsMeasuredOn gates (if b then k else l)
  life_by-on b k l first second = by_test (λ t. IsMeasuredOn gates (if t then k else l)) b (λ _. first) (λ _. second)

  pong_after-on : (life : Life) (gate : Gate) (from : Endpoint) (pong : PongFields) (now : ℤ) → IsMeasuredOn gates life → IsMeasuredOn gates (pong_after life gate from pong now)
  unfolding pong_after
  pong_after-on life gate from pong now on =
      let later = if length (points_in pong now) == 0 then life else with life (pong_counted pong now) in
      let other = if not (same_id pong.session life.session) then with life (strayed pong.session) else later in
      life_by-on (is_over life || not (is_from life.target gate from)) life other on
      (life_by-on (not (same_id pong.session life.session)) (with life (strayed pong.session)) later on
      (life_by-on (length (points_in pong now) == 0) life (with life (pong_counted pong now)) on on))

  tick_after-on : (life : Life) (now : ℤ) → IsMeasuredOn gates life → IsMeasuredOn gates (tick_after life now)
  unfolding tick_after
  tick_after-on life now on = life_by-on (is_early life now) life (with life (silent now)) on on

  pong_by-on : (running : Option Life) (gate : Gate) (from : Endpoint) (pong : PongFields) (m : Machine) → IfSome running (IsMeasuredOn gates) → IsOn gates m
      → IsOn gates (pong_by running gate from pong m)
  pong_by-on None gate from pong m runs on = on
  pong_by-on (Some life) gate from pong m runs on =
      judged-on (pong_outcome life gate from pong m.moment) life.session (record m { measuring = Some (pong_after life gate from pong m.moment) })
      (record { life = on.life; measuring = pong_after-on life gate from pong m.moment runs })

  pong-on : (gate : Gate) (from : Endpoint) (pong : PongFields) (m : Machine) → IsOn gates m → IsOn gates (pong_heard gate from pong m)
  unfolding pong_heard
  pong-on gate from pong m on = pong_by-on m.measuring gate from pong m on.measuring on

  tick_by-on : (running : Option Life) (m : Machine) → IfSome running (IsMeasuredOn gates) → IsOn gates m → IsOn gates (tick_by running m)
  tick_by-on None m runs on = on
  tick_by-on (Some life) m runs on =
      judged-on (tick_outcome life m.moment) life.session (record m { measuring = Some (tick_after life m.moment) })
      (record { life = on.life; measuring = tick_after-on life m.moment runs })

  measurement-on : (m : Machine) → IsOn gates m → IsOn gates (measurement_ticked m)
  unfolding measurement_ticked
  measurement-on m on = tick_by-on m.measuring m on.measuring on

  -- ---- a datagram

  arrived-on : (gate : Gate) (from : Endpoint) (reading : Result MessageValue WireFault) (m : Machine) → gate.0 < gates → IsOn gates m
      → IsOn gates (arrived gate from reading m)
  arrived-on gate from (Ok (message.Alive msg)) m here on =
      either-on (is_heard msg.from msg.group m) (state_taken gate msg m) m (state-on gate msg m here on) on
  arrived-on gate from (Ok (message.Response msg)) m here on =
      either-on (is_heard msg.from msg.group m) (state_taken gate msg m) m (state-on gate msg m here on) on
  arrived-on gate from (Ok (message.Bye id ttl group)) m here on =
      either-on (is_heard id group m) (record m { life = said_goodbye gate id m.life }) m
      (record { life = all_append (IsSeenOn gates) m.life (goodbye gate id ∷ []) on.life (tt, tt); measuring = on.measuring }) on
  arrived-on gate from (Ok (message.Ping payload)) m here on = on
  arrived-on gate from (Ok (message.Pong pong)) m here on = pong-on gate from pong m on
  arrived-on gate from (Ok (message.OtherDiscovery kind)) m here on = on
  arrived-on gate from (Ok (message.OtherLink kind)) m here on = on
  arrived-on gate from (Err fault) m here on = on

  -- ---- a tick

  cleared-on : (m : Machine) → IsOn gates m → IsOn gates (cleared m)
  unfolding cleared idle_forgotten pruned
  cleared-on m on = record { life = all_append (IsSeenOn gates) m.life (pruning m.moment ∷ []) on.life (tt, tt); measuring = on.measuring }

  queued-on : (m : Machine) → IsOn gates m → IsOn gates (remeasure_queued m)
  unfolding remeasure_queued
  queued-on m on =
      either-on (is_remeasured m.remeasure_at m.moment) (record m { remeasure_at = None; waiting = waiting_with (session_in m) m.waiting }) m on on

  begun_at-on : (target : Option Target) (session : NodeId) (m : Machine) → IfSome target (IsTargetOn gates) → IsOn gates m → IsOn gates (begun_at target session m)
  begun_at-on (Some target) session m here on = record { life = on.life; measuring = here }
  begun_at-on None session m here on = unmeasured-on session m on

  begun_one-on : (session : NodeId) (m : Machine) → IsOn gates m → IsOn gates (begun_one session m)
  unfolding begun_one
  begun_one-on session m on = begun_at-on (target_of session m.life) session m (target-on session m.life on.life) on

  begun_from-on : (waiting : List NodeId) (m : Machine) → IsOn gates m → IsOn gates (begun_from waiting m)
  unfolding begun_from
  begun_from-on [] m on = on
  begun_from-on (session ∷ rest) m on =
      let next = begun_one session (record m { waiting = rest }) in
      either-on (is_some m.measuring) m (begun_from rest next) on (begun_from-on rest next (begun_one-on session (record m { waiting = rest }) on))

  before_begun-on : (m : Machine) → IsOn gates m → IsOn gates (remeasure_queued (measurement_ticked (cleared m)))
  before_begun-on m on = queued-on (measurement_ticked (cleared m)) (measurement-on (cleared m) (cleared-on m on))

  ticked-on : (m : Machine) → IsOn gates m → IsOn gates (ticked m)
  unfolding ticked begun
  ticked-on m on =
      let next = remeasure_queued (measurement_ticked (cleared m)) in
      begun_from-on next.waiting next (before_begun-on m on)

  -- ---- a commit

  start_committed-on : (start : Option ClientStart) (m : Machine) → IsOn gates m → IsOn gates (start_committed start m)
  unfolding start_committed
  start_committed-on None m on = on
  start_committed-on (Some start) m on = either-on (int_lt m.client_start.stamp start.stamp) (with_client_start start m) m on on

  client_taken-on : (session : Option Timeline) (client : Timeline) (m : Machine) → IsOn gates m → IsOn gates (client_taken session client m)
  unfolding renewed
  client_taken-on None client m on = on
  client_taken-on (Some session) client m on = on

  timeline_committed-on : (client : Option Timeline) (commit : Commit) (m : Machine) → IsOn gates m → IsOn gates (timeline_committed client commit m)
  timeline_committed-on None commit m on = start_committed-on commit.start m on
  timeline_committed-on (Some client) commit m on =
      let given = session_from_client_of (timeline_in m) client commit.at (offset_in m) in
      let next = client_taken given client m in
      either-on (is_some given) (rest_committed commit next) m (start_committed-on commit.start next (client_taken-on given client m on)) on

  commit-on : (commit : Commit) (m : Machine) → IsOn gates m → IsOn gates (commit_taken commit m)
  unfolding commit_taken
  commit-on commit m on = timeline_committed-on commit.timeline commit m on

  -- ---- the step

  taken-on : (e : EventValue) (m : Machine) → IsTakenOn gates e → IsOn gates m → IsOn gates (taken e m)
  unfolding app_taken audio_taken
  taken-on (Rx gate from bytes now) m here on = arrived-on gate from (reading_of bytes) m here on
  taken-on (Tick now) m here on = ticked-on m on
  taken-on (App commit now) m here on = commit-on commit (record m { app = m.app + 1 }) on
  taken-on (Audio number commit now) m here on = commit-on commit (record m { audio = number }) on
  taken-on (End now) m here on = on

  settled-on : (m : Machine) → IsOn gates m → IsOn gates (settled m)
  unfolding settled founded renewed
  settled-on m on = either-on (is_left m) (founded (counted m)) (counted m) (record { life = tt; measuring = tt }) on

  broadcast_by-on : (e : EventValue) (m : Machine) → IsOn gates m → IsOn gates (broadcast_by e m)
  unfolding broadcast_after
  broadcast_by-on (Tick now) m on = either-on (is_broadcast m) (record m { last_broadcast = Some m.moment; changed = false }) m on on
  broadcast_by-on (Rx gate from bytes now) m on = on
  broadcast_by-on (App commit now) m on = on
  broadcast_by-on (Audio number commit now) m on = on
  broadcast_by-on (End now) m on = on

  shown-on : (m : Machine) → IsOn gates m → IsOn gates (shown m)
  unfolding shown
  shown-on m on = either-on (alike (state_in m) m.published) m (record m { published = state_in m }) on on

  step-on : (m : Machine) (e : EventValue) → IsTakenOn gates e → IsOn gates m → IsOn gates (step_of m e)
  unfolding step_of before_shown before_broadcast noted
  step-on m e here on =
      let after = settled (taken e (at_moment (moment_of e) m)) in
      let next = noted (held_in m) after in
      shown-on (broadcast_by e next) (broadcast_by-on e next (settled-on (taken e (at_moment (moment_of e) m)) (taken-on e (at_moment (moment_of e) m) here on)))

  -- ---- what is sent

  sent-on : (spelled : GateValue → List ℕ) (k : ℕ) (setups : List GateValue) → k + length setups ≤ gates → AllByRecursion (IsSentOn gates) (sent_from spelled k setups)
  unfolding sent_from
  sent-on spelled k [] few = tt
  sent-on spelled k (setup ∷ setups) few =
      let gate : Gate = record { 0 = k } in
      let one : Endpoint → SendingValue = λ to. record { gate = gate; to = to; bytes = spelled setup } in
      let here : k < gates = omega (arith, few) in
      let more : (k + 1) + length setups ≤ gates = omega (arith, few) in
      all_append (IsSentOn gates) (map one setup.destinations) (sent_from spelled (k + 1) setups)
      (all_map (IsSentOn gates) one (λ _. here) setup.destinations) (sent-on spelled (k + 1) setups more)

  pongs-on : (gate : Gate) (to : Endpoint) (payload : List ℕ) (m : Machine) → gate.0 < gates → AllByRecursion (IsSentOn gates) (pongs_to gate to payload m)
  unfolding pongs_to
  pongs-on gate to payload m here =
      all_either (IsSentOn gates) (nat_lt 32 (length payload)) []
      (record { gate = gate; to = to; bytes = spelled_of (written.Pong (session_in m) (ghost_of (offset_in m) m.moment) payload) } ∷ []) tt (here, tt)

  outcome-on : (outcome : Outcome) (target : Target) → IsTargetOn gates target → AllByRecursion (IsSentOn gates) (pings_of outcome target)
  unfolding ping_to
  outcome-on Idle target here = tt
  outcome-on (Again ping) target here = (here, tt)
  outcome-on (Done xform) target here = tt
  outcome-on (Failed fault) target here = tt

  pings_by_pong-on : (running : Option Life) (gate : Gate) (from : Endpoint) (pong : PongFields) (now : ℤ) → IfSome running (IsMeasuredOn gates)
      → AllByRecursion (IsSentOn gates) (pings_by_pong running gate from pong now)
  pings_by_pong-on None gate from pong now runs = tt
  pings_by_pong-on (Some life) gate from pong now runs = outcome-on (pong_outcome life gate from pong now) life.target runs

  pings_by_tick-on : (running : Option Life) (now : ℤ) → IfSome running (IsMeasuredOn gates) → AllByRecursion (IsSentOn gates) (pings_by_tick running now)
  pings_by_tick-on None now runs = tt
  pings_by_tick-on (Some life) now runs = outcome-on (tick_outcome life now) life.target runs

  pings_at-on : (target : Option Target) (now : ℤ) → IfSome target (IsTargetOn gates) → AllByRecursion (IsSentOn gates) (pings_at target now)
  unfolding ping_to
  pings_at-on None now here = tt
  pings_at-on (Some target) now here = (here, tt)

  pings_from-on : (waiting : List NodeId) (m : Machine) → IsOn gates m → AllByRecursion (IsSentOn gates) (pings_from waiting m)
  unfolding pings_from
  pings_from-on [] m on = tt
  pings_from-on (session ∷ rest) m on =
      let next = begun_one session (record m { waiting = rest }) in
      let first = pings_at (target_of session m.life) m.moment in
      all_either (IsSentOn gates) (is_some m.measuring) [] (first ++ pings_from rest next) tt
      (all_append (IsSentOn gates) first (pings_from rest next) (pings_at-on (target_of session m.life) m.moment (target-on session m.life on.life))
      (pings_from-on rest next (begun_one-on session (record m { waiting = rest }) on)))

  pings-on : (m : Machine) → IsOn gates m → AllByRecursion (IsSentOn gates) (pings_of_tick m)
  unfolding pings_of_tick pings_after_tick pings_begun
  pings-on m on =
      let next = remeasure_queued (measurement_ticked (cleared m)) in
      all_append (IsSentOn gates) (pings_after_tick (cleared m)) (pings_begun next)
      (pings_by_tick-on (cleared m).measuring (cleared m).moment (cleared-on m on).measuring) (pings_from-on next.waiting next (before_begun-on m on))

  answers_to-on : (gate : Gate) (from : Endpoint) (reading : Result MessageValue WireFault) (m : Machine) → gate.0 < gates → IsOn gates m
      → AllByRecursion (IsSentOn gates) (answers_to gate from reading m)
  unfolding response_to pings_after_pong
  answers_to-on gate from (Ok (message.Alive msg)) m here on =
      all_either (IsSentOn gates) (is_heard msg.from msg.group m) (response_to gate from m ∷ []) [] (here, tt) tt
  answers_to-on gate from (Ok (message.Response msg)) m here on = tt
  answers_to-on gate from (Ok (message.Bye id ttl group)) m here on = tt
  answers_to-on gate from (Ok (message.Ping payload)) m here on = pongs-on gate from payload m here
  answers_to-on gate from (Ok (message.Pong pong)) m here on = pings_by_pong-on m.measuring gate from pong m.moment on.measuring
  answers_to-on gate from (Ok (message.OtherDiscovery kind)) m here on = tt
  answers_to-on gate from (Ok (message.OtherLink kind)) m here on = tt
  answers_to-on gate from (Err fault) m here on = tt

  answers-on : (e : EventValue) (m : Machine) → IsTakenOn gates e → length m.config.gates ≡ gates → IsOn gates m → AllByRecursion (IsSentOn gates) (answers e m)
  unfolding byes_in
  answers-on (Rx gate from bytes now) m here many on = answers_to-on gate from (reading_of bytes) m here on
  answers-on (Tick now) m here many on = pings-on m on
  answers-on (App commit now) m here many on = tt
  answers-on (Audio number commit now) m here many on = tt
  answers-on (End now) m here many on = sent-on (bye_of m) 0 m.config.gates (let few : 0 + length m.config.gates ≤ gates = omega (arith, many) in few)

  alives-on : (e : EventValue) (m : Machine) → length m.config.gates ≡ gates → AllByRecursion (IsSentOn gates) (alives_by e m)
  unfolding broadcast_in alives_in
  alives-on (Rx gate from bytes now) m many = tt
  alives-on (Tick now) m many =
      all_either (IsSentOn gates) (is_broadcast m) (alives_in m) []
      (sent-on (alive_of m) 0 m.config.gates (let few : 0 + length m.config.gates ≤ gates = omega (arith, many) in few)) tt
  alives-on (App commit now) m many = tt
  alives-on (Audio number commit now) m many = tt
  alives-on (End now) m many = tt

  sends-on : (m : Machine) (e : EventValue) → IsTakenOn gates e → length m.config.gates ≡ gates → IsOn gates m → AllByRecursion (IsSentOn gates) (sends_of m e)
  unfolding sends_of
  sends-on m e here many on =
      let at = at_moment (moment_of e) m in
      let after = before_broadcast e m in
      let as_many : length after.config.gates ≡ gates = ap (λ (c : ConfigValue). length c.gates) (leads_before_broadcast m e).config ∙ many in
      all_append (IsSentOn gates) (answers e at) (alives_by e after) (answers-on e at here many on) (alives-on e after as_many)

  -- ---- a run

  fits-on : (app audio : ℕ) (e : EventValue) → Fits gates app audio e → IsTakenOn gates e
  fits-on app audio (Rx gate from bytes now) fits = fits.1.0
  fits-on app audio (Tick now) fits = tt
  fits-on app audio (App commit now) fits = tt
  fits-on app audio (Audio number commit now) fits = tt
  fits-on app audio (End now) fits = tt

  run-on : (app audio : ℕ) (m : Machine) (es : List EventValue) → AreFitting gates app audio es → length m.config.gates ≡ gates → IsOn gates m
      → AllByRecursion (IsSentOn gates) (sent_by m es)
  unfolding sent_by
  run-on app audio m [] fitting many on = tt
  run-on app audio m (e ∷ es) fitting many on =
      let here = fits-on app audio e fitting.0 in
      let next = step_of m e in
      let as_many : length next.config.gates ≡ gates = ap (λ (c : ConfigValue). length c.gates) (leads_step m e).config ∙ many in
      all_append (IsSentOn gates) (sends_of m e) (sent_by next es) (sends-on m e here many on)
      (run-on (app_after app e) (audio_after audio e) next es fitting.1 as_many (step-on m e here on))

pub sent_on_gates : (config : ConfigValue) (now : ℤ) (es : List EventValue) → AreFitting (length config.gates) 0 0 es
    → AllByRecursion (λ (s : SendingValue). s.gate.0 < length config.gates) (sent_of config now es)
unfolding opened
sent_on_gates config now es fitting = run-on (length config.gates) 0 0 (opened config now) es fitting refl (record { life = tt; measuring = tt })
