-- That a client goes on with its session's tempo and beats.
use Rattle.std.proofs.Common.{◌≡◌, ◌+◌, ℤ, pos, ◌+ℤ◌, ◌*ℤ◌, ◌≤ℤ◌, Bool, true, false, List, [], ◌∷◌, ◌++◌, length, Option, Some, None, Result, Ok, Err, refl, sym, ap, ◌∙◌, subst, append_assoc, arith}
use Rattle.std.specs.Prelude.{int_lt, nat_lt, neg_ℤ, is_some, if◌then◌else◌}
use Rattle.std.proofs.lemmas.Int.{ints}
use Rattle.ghost_xform.specs.GhostTime.{host_of}
use Rattle.lk_base.specs.IdOrder.{same_id}
use Rattle.lk_base.specs.Ranges.{IsMoment}
use Rattle.lk_base.specs.Rounding.{clipped_of, nearest_of, rounded_of}
use Rattle.lk_base.specs.declared.endpoint.Endpoint.{Endpoint}
use Rattle.lk_base.specs.declared.endpoint.Gate.{Gate}
use Rattle.lk_base.specs.declared.endpoint.Target.{Target}
use Rattle.lk_base.specs.declared.ids.NodeId.{NodeId}
use Rattle.lk_base.specs.declared.start.ClientStart.{ClientStart}
use Rattle.lk_base.specs.declared.timeline.Timeline.{Timeline}
use Rattle.link_payload.specs.declared.fields.PeerFields.{PeerFields}
use Rattle.link_payload.specs.declared.fields.PongFields.{PongFields}
use Rattle.asdp_messages.specs.Datagram.{MessageValue}
use Rattle.asdp_messages.specs.Datagram as message
use Rattle.asdp_messages.specs.Reading.{reading_of}
use Rattle.asdp_messages.specs.declared.fault.WireFault.{WireFault}
use Rattle.asdp_messages.specs.declared.message.StateMsg.{StateMsg}
use Rattle.peer_gateway.specs.Answers.{seen_of, target_of}
use Rattle.peer_gateway.specs.Happenings.{said_goodbye}
use Rattle.peer_gateway.specs.declared.row.Seen.{Seen}
use Rattle.peer_gateway.specs.declared.row.Seen.TheVariants as seen
use Rattle.ping_measure.specs.Life.{Life, pong_outcome, pong_after, tick_outcome, tick_after}
use Rattle.ping_measure.specs.declared.outcome.Outcome.{Outcome}
use Rattle.ping_measure.specs.declared.outcome.Outcome.TheVariants.{Idle, Again, Done, Failed}
use Rattle.session_choice.specs.Best.{IsBest, best_of}
use Rattle.session_choice.specs.History.{Taking, History, best_in, with_taken, begun, is_current, other_in, saw_by, saw_known, saw_of, taken_by, saw_after, joined, verdict_by, measured_of, measured_by, measured_after, forgotten, committed}
use Rattle.session_choice.specs.Winning.{wins_over}
use Rattle.session_choice.specs.declared.verdict.Saw.{Saw}
use Rattle.session_choice.specs.declared.verdict.Saw.TheVariants as saw
use Rattle.session_choice.specs.declared.verdict.Verdict.TheVariants.{Joined, Stayed, Remeasured}
use Rattle.timeline_math.specs.Beats.{time_at}
use Rattle.timeline_math.specs.Tidying.{tidy_of}
use Rattle.client_state.specs.Edits.{timeline_at}
use Rattle.client_state.specs.Timelines.{client_from_session_of, session_from_client_of, zero_time_of}
use Rattle.client_state.specs.declared.commit.Commit.{Commit}
use Rattle.link_node.specs.Arrival.{arrived, is_heard}
use Rattle.link_node.specs.Client.{renewed}
use Rattle.link_node.specs.Commits.{start_committed, rest_committed, with_client_start, client_taken, committed_by, timeline_committed, commit_taken, app_taken, audio_taken}
use Rattle.link_node.specs.Config.{ConfigValue}
use Rattle.link_node.specs.Event.{EventValue, Rx, Tick, App, Audio, End, moment_of}
use Rattle.link_node.specs.Machine.{Machine, session_in, timeline_in, offset_in}
use Rattle.link_node.specs.Measuring.{remeasured_later, chosen, measured, unmeasured, judged, pong_by, pong_heard, tick_by, measurement_ticked}
use Rattle.link_node.specs.Opening.{opened}
use Rattle.link_node.specs.Settling.{settled, founded, counted, is_left}
use Rattle.link_node.specs.Staying.{IsFollowing}
use Rattle.link_node.specs.Step.{at_moment, taken, step_of}
use Rattle.link_node.specs.Taking as taking_rules
use Rattle.link_node.specs.Taking.{followed, timeline_taken, with_start, start_taken, sighted, listened, state_taken}
use Rattle.link_node.specs.Tick.{pruned, idle_forgotten, waiting_with, remeasure_queued, is_remeasured, begun_at, begun_one, begun_from, begun as begun_in, cleared, ticked}
use Rattle.peer_gateway.proofs.KeyLemmas.{id_from_test, test_from_id}
use Rattle.session_choice.proofs.Lists.{by_test, all_append}
use Rattle.link_node.proofs.StayingLemmas.{midst, stands_step}

-- ---- a renewed client follows, whatever it was before

renewed-follows : (m : Machine) → IsFollowing (renewed m)
unfolding renewed client_from_session_of
renewed-follows m = record { tempo = refl; time = refl }

-- what it follows by stays
record Alike (m n : Machine) : Type 0 where
  client : n.client ≡ m.client
  timeline : timeline_in n ≡ timeline_in m
  offset : offset_in n ≡ offset_in m

alike-follows : (m n : Machine) → Alike m n → IsFollowing m → IsFollowing n
alike-follows m n is follows = record {
  tempo = ap (λ (t : Timeline). t.mpb) is.client ∙ follows.tempo ∙ ap (λ (t : Timeline). t.mpb) (sym is.timeline);
  time =
      ap (λ (t : Timeline). t.time) is.client ∙ follows.time ∙ ap (λ (t : Timeline). zero_time_of t (offset_in m)) (sym is.timeline)
      ∙ ap (λ o. zero_time_of (timeline_in n) o) (sym is.offset);
}

either-follows : (b : Bool) (n o : Machine) → IsFollowing n → IsFollowing o → IsFollowing (if b then n else o)
either-follows b n o first second = by_test (λ t. IsFollowing (if t then n else o)) b (λ _. first) (λ _. second)

-- ---- measurements

found-follows : (found : Option Taking) (m : Machine) (offset : ℤ) → IsFollowing m
    → IsFollowing (chosen (verdict_by found m.sessions offset m.moment) (record m { sessions = measured_by found m.sessions offset m.moment }))
found-follows None m offset follows = follows
found-follows (Some other) m offset follows =
    by_test
    (λ b. IsFollowing (chosen (if b then Joined else Stayed) (record m { sessions = if b then joined other offset m.sessions else m.sessions })))
    (wins_over other.session offset m.sessions.current.session m.sessions.offset m.moment)
    (λ _. let is = renewed-follows (record m { starts = []; sessions = joined other offset m.sessions }) in record { tempo = is.tempo; time = is.time })
    (λ _. follows)

measured-follows : (session : NodeId) (offset : ℤ) (m : Machine) → IsFollowing m → IsFollowing (measured session offset m)
unfolding measured measured_of measured_after
measured-follows session offset m follows =
    by_test
    (λ b. IsFollowing (chosen (if b then Remeasured else verdict_by (other_in session m.sessions) m.sessions offset m.moment)
    (record m { sessions = if b then record m.sessions { offset = offset } else measured_by (other_in session m.sessions) m.sessions offset m.moment })))
    (is_current session m.sessions)
    (λ _. let is = renewed-follows (record m { sessions = record m.sessions { offset = offset } }) in record { tempo = is.tempo; time = is.time })
    (λ _. found-follows (other_in session m.sessions) m offset follows)

unmeasured-follows : (session : NodeId) (m : Machine) → IsFollowing m → IsFollowing (unmeasured session m)
unfolding unmeasured
unmeasured-follows session m follows =
    either-follows (same_id session (session_in m)) (remeasured_later m) (record m { sessions = forgotten session m.sessions })
    (record { tempo = follows.tempo; time = follows.time }) (record { tempo = follows.tempo; time = follows.time })

judged-follows : (outcome : Outcome) (session : NodeId) (m : Machine) → IsFollowing m → IsFollowing (judged outcome session m)
judged-follows Idle session m follows = follows
judged-follows (Again ping) session m follows = follows
judged-follows (Done xform) session m follows =
    measured-follows session xform.offset (record m { measuring = None }) (record { tempo = follows.tempo; time = follows.time })
judged-follows (Failed fault) session m follows =
    unmeasured-follows session (record m { measuring = None }) (record { tempo = follows.tempo; time = follows.time })

pong_by-follows : (running : Option Life) (gate : Gate) (from : Endpoint) (pong : PongFields) (m : Machine) → IsFollowing m → IsFollowing (pong_by running gate from pong m)
pong_by-follows None gate from pong m follows = follows
pong_by-follows (Some life) gate from pong m follows =
    judged-follows (pong_outcome life gate from pong m.moment) life.session (record m { measuring = Some (pong_after life gate from pong m.moment) })
    (record { tempo = follows.tempo; time = follows.time })

pong-follows : (gate : Gate) (from : Endpoint) (pong : PongFields) (m : Machine) → IsFollowing m → IsFollowing (pong_heard gate from pong m)
unfolding pong_heard
pong-follows gate from pong m follows = pong_by-follows m.measuring gate from pong m follows

tick_by-follows : (running : Option Life) (m : Machine) → IsFollowing m → IsFollowing (tick_by running m)
tick_by-follows None m follows = follows
tick_by-follows (Some life) m follows =
    judged-follows (tick_outcome life m.moment) life.session (record m { measuring = Some (tick_after life m.moment) }) (record { tempo = follows.tempo; time = follows.time })

-- ---- a tick

measurement-follows : (m : Machine) → IsFollowing m → IsFollowing (measurement_ticked m)
unfolding measurement_ticked
measurement-follows m follows = tick_by-follows m.measuring m follows

cleared-follows : (m : Machine) → IsFollowing m → IsFollowing (cleared m)
unfolding cleared idle_forgotten pruned
cleared-follows m follows = record { tempo = follows.tempo; time = follows.time }

queued-follows : (m : Machine) → IsFollowing m → IsFollowing (remeasure_queued m)
unfolding remeasure_queued
queued-follows m follows =
    either-follows (is_remeasured m.remeasure_at m.moment) (record m { remeasure_at = None; waiting = waiting_with (session_in m) m.waiting }) m
    (record { tempo = follows.tempo; time = follows.time }) follows

begun_at-follows : (target : Option Target) (session : NodeId) (m : Machine) → IsFollowing m → IsFollowing (begun_at target session m)
begun_at-follows (Some target) session m follows = record { tempo = follows.tempo; time = follows.time }
begun_at-follows None session m follows = unmeasured-follows session m follows

begun_one-follows : (session : NodeId) (m : Machine) → IsFollowing m → IsFollowing (begun_one session m)
unfolding begun_one
begun_one-follows session m follows = begun_at-follows (target_of session m.life) session m follows

begun_from-follows : (waiting : List NodeId) (m : Machine) → IsFollowing m → IsFollowing (begun_from waiting m)
unfolding begun_from
begun_from-follows [] m follows = follows
begun_from-follows (session ∷ rest) m follows =
    let next = begun_one session (record m { waiting = rest }) in
    either-follows (is_some m.measuring) m (begun_from rest next) follows
    (begun_from-follows rest next (begun_one-follows session (record m { waiting = rest }) (record { tempo = follows.tempo; time = follows.time })))

ticked-follows : (m : Machine) → IsFollowing m → IsFollowing (ticked m)
unfolding ticked begun_in
ticked-follows m follows =
    let a = cleared m in
    let b = measurement_ticked a in
    let c = remeasure_queued b in
    begun_from-follows c.waiting c (queued-follows b (measurement-follows a (cleared-follows m follows)))

-- ---- a commit

start_committed-follows : (start : Option ClientStart) (m : Machine) → IsFollowing m → IsFollowing (start_committed start m)
unfolding start_committed
start_committed-follows None m follows = follows
start_committed-follows (Some start) m follows =
    either-follows (int_lt m.client_start.stamp start.stamp) (with_client_start start m) m (record { tempo = follows.tempo; time = follows.time }) follows

rest_committed-follows : (commit : Commit) (m : Machine) → IsFollowing m → IsFollowing (rest_committed commit m)
rest_committed-follows commit m follows =
    let after = start_committed-follows commit.start m follows in
    record { tempo = after.tempo; time = after.time }

committed_by-follows : (given : Option Timeline) (client : Timeline) (commit : Commit) (m : Machine) → IsFollowing m → IsFollowing (committed_by given client commit m)
committed_by-follows None client commit m follows = follows
committed_by-follows (Some given) client commit m follows =
    rest_committed-follows commit (client_taken (Some given) client m) (renewed-follows (record m { client = client; sessions = committed given m.sessions }))

timeline_committed-follows : (client : Option Timeline) (commit : Commit) (m : Machine) → IsFollowing m → IsFollowing (timeline_committed client commit m)
timeline_committed-follows None commit m follows = rest_committed-follows commit m follows
timeline_committed-follows (Some client) commit m follows =
    committed_by-follows (session_from_client_of (timeline_in m) client commit.at (offset_in m)) client commit m follows

commit-follows : (commit : Commit) (m : Machine) → IsFollowing m → IsFollowing (commit_taken commit m)
unfolding commit_taken
commit-follows commit m follows = timeline_committed-follows commit.timeline commit m follows

-- ---- a message

not_above : (held seen : ℤ) → int_lt held seen ≡ false → seen ≤ℤ held
not_above held seen is = grind (arith, ints)

followed-follows : (answer : Saw) (session : NodeId) (m : Machine) → IsFollowing m → IsFollowing (followed answer session m)
followed-follows saw.New session m follows = record { tempo = follows.tempo; time = follows.time }
followed-follows saw.Taken session m follows = either-follows (taking_rules.is_current session m) (renewed m) m (renewed-follows m) follows
followed-follows saw.Kept session m follows = follows
followed-follows saw.Full session m follows = follows

start-follows : (fields : PeerFields) (m : Machine) → IsFollowing m → IsFollowing (start_taken fields m)
unfolding start_taken
start-follows fields m follows =
    either-follows (taking_rules.is_current fields.session m) (with_start fields.start m) m (record { tempo = follows.tempo; time = follows.time }) follows

-- a timeline that is told in another session changes nothing of the current one
other-follows : (found : Option Taking) (session : NodeId) (seen : Timeline) (m : Machine) → IsFollowing m → IsFollowing (record m { sessions = taken_by found m.sessions session seen })
other-follows (Some other) session seen m follows = record { tempo = follows.tempo; time = follows.time }
other-follows None session seen m follows =
    by_test
    (λ b. IsFollowing (record m { sessions = if b then record m.sessions { others = m.sessions.others ++ begun session seen ∷ [] } else m.sessions }))
    (nat_lt (length m.sessions.others) 64)
    (λ _. record { tempo = follows.tempo; time = follows.time }) (λ _. record { tempo = follows.tempo; time = follows.time })

module _ (there : (first : Timeline) (later : List Timeline) → IsBest (first ∷ later) (best_of first later)) (one : (list : List Timeline) (a b : Timeline) → IsBest list a → IsBest list b → a ≡ b) where
  -- one that isn't above it leaves the best
  pub best-kept : (first : Timeline) (later : List Timeline) (seen : Timeline) → seen.beat ≤ℤ (best_of first later).beat → best_of first (later ++ seen ∷ []) ≡ best_of first later
  best-kept first later seen le =
      let best = there first later in
      let more : IsBest (first ∷ (later ++ seen ∷ [])) (best_of first later) = record {
        before = best.before;
        after = best.after ++ seen ∷ [];
        split = ap (λ l. l ++ seen ∷ []) best.split ∙ append_assoc best.before (best_of first later ∷ best.after) (seen ∷ []);
        above = best.above;
        least = all_append (λ tl. tl.beat ≤ℤ (best_of first later).beat) best.after (seen ∷ []) best.least (le, tt);
      } in
      one (first ∷ (later ++ seen ∷ [])) (best_of first (later ++ seen ∷ [])) (best_of first later) (there first (later ++ seen ∷ [])) more

  current-follows : (session : NodeId) (seen : Timeline) (m : Machine) → same_id m.sessions.current.session session ≡ true → IsFollowing m
      → IsFollowing (followed (saw_known m.sessions.current seen) session (record m { sessions = record m.sessions { current = with_taken seen m.sessions.current } }))
  current-follows session seen m is follows =
      let next = record m { sessions = record m.sessions { current = with_taken seen m.sessions.current } } in
      let same : same_id session m.sessions.current.session ≡ true =
      test_from_id session m.sessions.current.session (sym (id_from_test m.sessions.current.session session is)) in
      by_test (λ b. int_lt (best_in m.sessions.current).beat seen.beat ≡ b → IsFollowing (followed (if b then saw.Taken else saw.Kept) session next)) (int_lt (best_in m.sessions.current).beat seen.beat)
      (λ _ _. subst (λ b. IsFollowing (if b then renewed next else next)) (sym same) (renewed-follows next))
      (λ _ low. alike-follows m next (record {
        client = refl;
        timeline = best-kept m.sessions.current.first m.sessions.current.later seen (not_above (best_in m.sessions.current).beat seen.beat low);
        offset = refl;
      }) follows)
      refl

  timeline-follows : (fields : PeerFields) (m : Machine) → IsFollowing m → IsFollowing (timeline_taken fields m)
  unfolding timeline_taken saw_of saw_after
  timeline-follows fields m follows =
      let seen = tidy_of fields.timeline in
      let h = m.sessions in
      by_test
      (λ b. same_id h.current.session fields.session ≡ b
      → IsFollowing (followed (saw_by (if b then Some h.current else other_in fields.session h) h seen) fields.session
      (record m { sessions = if b then record h { current = with_taken seen h.current } else taken_by (other_in fields.session h) h fields.session seen })))
      (same_id h.current.session fields.session)
      (λ _ is. current-follows fields.session seen m is follows)
      (λ _ _. followed-follows (saw_by (other_in fields.session h) h seen) fields.session (record m { sessions = taken_by (other_in fields.session h) h fields.session seen })
      (other-follows (other_in fields.session h) fields.session seen m follows))
      refl

  fields-follow : (fields : PeerFields) (m : Machine) → IsFollowing m → IsFollowing (start_taken fields (timeline_taken fields m))
  fields-follow fields m follows = start-follows fields (timeline_taken fields m) (timeline-follows fields m follows)

  listened-follows : (answer : Seen) (fields : PeerFields) (m : Machine) → IsFollowing m → IsFollowing (listened answer fields m)
  listened-follows seen.TableFull fields m follows = follows
  listened-follows seen.New fields m follows = fields-follow fields m follows
  listened-follows seen.Known fields m follows = fields-follow fields m follows

  state-follows : (gate : Gate) (msg : StateMsg) (m : Machine) → IsFollowing m → IsFollowing (state_taken gate msg m)
  unfolding state_taken sighted
  state-follows gate msg m follows =
      listened-follows (seen_of gate msg.from m.life) msg.fields (sighted gate msg m) (record { tempo = follows.tempo; time = follows.time })

  arrived-follows : (gate : Gate) (from : Endpoint) (reading : Result MessageValue WireFault) (m : Machine) → IsFollowing m → IsFollowing (arrived gate from reading m)
  arrived-follows gate from (Ok (message.Alive msg)) m follows = either-follows (is_heard msg.from msg.group m) (state_taken gate msg m) m (state-follows gate msg m follows) follows
  arrived-follows gate from (Ok (message.Response msg)) m follows = either-follows (is_heard msg.from msg.group m) (state_taken gate msg m) m (state-follows gate msg m follows) follows
  arrived-follows gate from (Ok (message.Bye id ttl group)) m follows =
      either-follows (is_heard id group m) (record m { life = said_goodbye gate id m.life }) m (record { tempo = follows.tempo; time = follows.time }) follows
  arrived-follows gate from (Ok (message.Ping payload)) m follows = follows
  arrived-follows gate from (Ok (message.Pong pong)) m follows = pong-follows gate from pong m follows
  arrived-follows gate from (Ok (message.OtherDiscovery kind)) m follows = follows
  arrived-follows gate from (Ok (message.OtherLink kind)) m follows = follows
  arrived-follows gate from (Err fault) m follows = follows

  -- ---- the step

  taken-follows : (e : EventValue) (m : Machine) → IsFollowing m → IsFollowing (taken e m)
  unfolding app_taken audio_taken
  taken-follows (Rx gate from bytes now) m follows = arrived-follows gate from (reading_of bytes) m follows
  taken-follows (Tick now) m follows = ticked-follows m follows
  taken-follows (App commit now) m follows = commit-follows commit (record m { app = m.app + 1 }) (record { tempo = follows.tempo; time = follows.time })
  taken-follows (Audio number commit now) m follows = commit-follows commit (record m { audio = number }) (record { tempo = follows.tempo; time = follows.time })
  taken-follows (End now) m follows = follows

  settled-follows : (m : Machine) → IsFollowing m → IsFollowing (settled m)
  unfolding settled founded
  settled-follows m follows =
      either-follows (is_left m) (founded (counted m)) (counted m) (renewed-follows _) (record { tempo = follows.tempo; time = follows.time })

  pub step-follows : (m : Machine) (e : EventValue) → IsFollowing m → IsFollowing (step_of m e)
  step-follows m e follows =
      let a = settled (midst m e) in
      let is = stands_step m e in
      alike-follows a (step_of m e) (record { client = is.client; timeline = ap (λ (h : History). best_in h.current) is.sessions; offset = ap (λ (h : History). h.offset) is.sessions })
      (settled-follows (midst m e) (taken-follows e (at_moment (moment_of e) m) (record { tempo = follows.tempo; time = follows.time })))

  -- ---- an opening

  zero_times : (z : ℤ) → pos 0 *ℤ z ≡ pos 0
  zero_times z = omega (arith, ints)

  only-best : (tl : Timeline) → best_of tl [] ≡ tl
  only-best tl = one (tl ∷ []) (best_of tl []) tl (there tl []) (record { before = []; after = []; split = refl; above = tt; least = tt })

  first_beat : (mpb : ℤ) → time_at (timeline_at mpb (pos 0) (pos 0)) (pos 0) ≡ pos 0
  unfolding time_at nearest_of rounded_of
  first_beat mpb = ap (λ n. clipped_of (pos 0 +ℤ nearest_of n (pos 1_000_000))) (zero_times mpb)

  back : (now : ℤ) → IsMoment now → host_of (neg_ℤ now) (pos 0) ≡ now
  unfolding host_of
  back now is = grind (arith, ints, is.0, is.1)

  pub opened-follows : (config : ConfigValue) (now : ℤ) → IsMoment now → IsFollowing (opened config now)
  unfolding opened zero_time_of
  opened-follows config now is =
      let tl = timeline_at config.mpb (pos 0) (pos 0) in
      record {
        tempo = sym (ap (λ (t : Timeline). t.mpb) (only-best tl));
        time = sym (ap (λ (t : Timeline). host_of (neg_ℤ now) (time_at t (pos 0))) (only-best tl) ∙ ap (λ z. host_of (neg_ℤ now) z) (first_beat config.mpb) ∙ back now is);
      }
