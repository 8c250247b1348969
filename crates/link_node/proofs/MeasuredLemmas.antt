-- That an offset comes from a measurement.
use Rattle.std.proofs.Common.{◌≡◌, ◌⊎◌, inl, inr, ◌+◌, ℤ, Bool, true, false, List, [], ◌∷◌, ◌++◌, length, Option, Some, None, Result, Ok, Err, refl, sym, ap, ◌∙◌, subst}
use Rattle.std.specs.Prelude.{nat_lt, if◌then◌else◌}
use Rattle.ghost_xform.specs.declared.xform.XForm.{XForm}
use Rattle.lk_base.specs.IdOrder.{same_id}
use Rattle.lk_base.specs.declared.endpoint.Endpoint.{Endpoint}
use Rattle.lk_base.specs.declared.endpoint.Gate.{Gate}
use Rattle.lk_base.specs.declared.ids.NodeId.{NodeId}
use Rattle.lk_base.specs.declared.timeline.Timeline.{Timeline}
use Rattle.link_payload.specs.declared.fields.PeerFields.{PeerFields}
use Rattle.link_payload.specs.declared.fields.PongFields.{PongFields}
use Rattle.asdp_messages.specs.Datagram.{MessageValue}
use Rattle.asdp_messages.specs.Datagram as message
use Rattle.asdp_messages.specs.Reading.{reading_of}
use Rattle.asdp_messages.specs.declared.fault.WireFault.{WireFault}
use Rattle.asdp_messages.specs.declared.message.StateMsg.{StateMsg}
use Rattle.peer_gateway.specs.Answers.{seen_of}
use Rattle.peer_gateway.specs.Happenings.{said_goodbye}
use Rattle.peer_gateway.specs.declared.row.Seen.{Seen}
use Rattle.peer_gateway.specs.declared.row.Seen.TheVariants as seen
use Rattle.ping_measure.specs.Life.{Life, is_early, silences_of, pong_outcome, pong_after, tick_outcome, tick_after}
use Rattle.ping_measure.specs.declared.outcome.MeasureFault.TheVariants.{Silence}
use Rattle.ping_measure.specs.declared.outcome.Outcome.{Outcome}
use Rattle.ping_measure.specs.declared.outcome.Outcome.TheVariants.{Idle, Again, Done, Failed}
use Rattle.session_choice.specs.History.{Taking, History, session_of, with_taken, begun, is_current, other_in, taken_by, saw_after, joined, measured_by, measured_after}
use Rattle.session_choice.specs.Keyed.{found_by}
use Rattle.session_choice.specs.Winning.{wins_over}
use Rattle.timeline_math.specs.Tidying.{tidy_of}
use Rattle.client_state.specs.Timelines.{session_from_client_of}
use Rattle.client_state.specs.declared.commit.Commit.{Commit}
use Rattle.link_node.specs.Arrival.{arrived, is_heard}
use Rattle.link_node.specs.Client.{renewed}
use Rattle.link_node.specs.Commits.{client_taken, committed_by, timeline_committed, commit_taken, app_taken, audio_taken}
use Rattle.link_node.specs.Event.{EventValue, Rx, Tick, App, Audio, End}
use Rattle.link_node.specs.Machine.{Machine, session_in, timeline_in, offset_in}
use Rattle.link_node.specs.Measured.{IsMeasured}
use Rattle.link_node.specs.Measuring.{unmeasured, judged, pong_by, pong_heard, tick_by, measurement_ticked}
use Rattle.link_node.specs.Step.{at_moment, step_of}
use Rattle.link_node.specs.Taking.{timeline_taken, start_taken, sighted, listened, state_taken}
use Rattle.link_node.specs.Tick.{remeasure_queued, begun as begun_in, cleared, ticked}
use Rattle.peer_gateway.proofs.KeyLemmas.{id_from_test}
use Rattle.session_choice.proofs.Lists.{by_test}
use Rattle.link_node.proofs.StayingLemmas.{midst}
use Rattle.link_node.proofs.KeptLemmas.{fields-sessions, start_committed-sessions, sessions_stay}
use Rattle.link_node.proofs.LeavingLemmas.{Remains, remains, remains_then, measured-sessions, unmeasured-remains, cleared-remains, queued-remains, begun_from-remains}

-- the session and its offset
abbrev Stays : History → History → Type 0
Stays h k = (k.current.session ≡ h.current.session) × (k.offset ≡ h.offset)

abbrev IsAt : History → NodeId → ℤ → Type 0
IsAt k session offset = (session ≡ k.current.session) × (offset ≡ k.offset)

stays_remains : (h k : History) → Remains h k → Stays h k
stays_remains h k is = (ap (λ (t : Taking). t.session) is.current, is.offset)

found_of_id : (id : NodeId) (rows : List Taking) (row : Taking) → found_by session_of id rows ≡ Some row → row.session ≡ id
found_of_id id [] row is = cc
found_of_id id (r ∷ rows) row is =
    by_test
    (λ b. same_id r.session id ≡ b → (if b then Some r else found_by session_of id rows) ≡ Some row → row.session ≡ id) (same_id r.session id)
    (λ _ same first. let e : r ≡ row = cc in ap (λ (t : Taking). t.session) (sym e) ∙ id_from_test r.session id same)
    (λ _ _ more. found_of_id id rows row more) refl is

found_gives : (found : Option Taking) (h : History) (session : NodeId) (offset now : ℤ) → other_in session h ≡ found
    → Stays h (measured_by found h offset now) ⊎ IsAt (measured_by found h offset now) session offset
found_gives None h session offset now is = inl (refl, refl)
found_gives (Some other) h session offset now is =
    by_test
    (λ b. Stays h (if b then joined other offset h else h) ⊎ IsAt (if b then joined other offset h else h) session offset)
    (wins_over other.session offset h.current.session h.offset now)
    (λ _. inr (sym (found_of_id session h.others other is), refl)) (λ _. inl (refl, refl))

measured_gives : (h : History) (session : NodeId) (offset now : ℤ) → Stays h (measured_after h session offset now) ⊎ IsAt (measured_after h session offset now) session offset
unfolding measured_after
measured_gives h session offset now =
    by_test
    (λ b. same_id h.current.session session ≡ b
    → Stays h (if b then record h { offset = offset } else measured_by (other_in session h) h offset now)
    ⊎ IsAt (if b then record h { offset = offset } else measured_by (other_in session h) h offset now) session offset)
    (same_id h.current.session session)
    (λ _ is. inr (sym (id_from_test h.current.session session is), refl))
    (λ _ _. found_gives (other_in session h) h session offset now refl) refl

-- ---- a tick ends no measurement with an offset

not_done : (life : Life) (now : ℤ) (xform : XForm) → tick_outcome life now ≡ Done xform → ⊥
unfolding tick_outcome
not_done life now xform =
    by_test
    (λ b. (if b then Idle else if nat_lt (silences_of life + 1) 6 then Again (record { host = now; previous = None }) else Failed Silence) ≡ Done xform → ⊥)
    (is_early life now) (λ _ is. cc)
    (λ _. by_test (λ b. (if b then Again (record { host = now; previous = None }) else Failed Silence) ≡ Done xform → ⊥) (nat_lt (silences_of life + 1) 6) (λ _ is. cc) (λ _ is. cc))

judged-stays : (outcome : Outcome) (session : NodeId) (m : Machine) → ((xform : XForm) → outcome ≡ Done xform → ⊥) → Remains m.sessions (judged outcome session m).sessions
judged-stays Idle session m never = remains m.sessions
judged-stays (Again ping) session m never = remains m.sessions
judged-stays (Done xform) session m never = absurd (never xform refl)
judged-stays (Failed fault) session m never =
    let is = unmeasured-remains session (record m { measuring = None }) in
    record { current = is.current; offset = is.offset }

tick_by-stays : (running : Option Life) (m : Machine) → Remains m.sessions (tick_by running m).sessions
tick_by-stays None m = remains m.sessions
tick_by-stays (Some life) m =
    let is = judged-stays (tick_outcome life m.moment) life.session (record m { measuring = Some (tick_after life m.moment) }) (not_done life m.moment) in
    record { current = is.current; offset = is.offset }

measurement-stays : (m : Machine) → Remains m.sessions (measurement_ticked m).sessions
unfolding measurement_ticked
measurement-stays m = tick_by-stays m.measuring m

ticked-stays : (m : Machine) → Remains m.sessions (ticked m).sessions
unfolding ticked begun_in
ticked-stays m =
    let a = cleared m in
    let b = measurement_ticked a in
    let c = remeasure_queued b in
    remains_then m.sessions a.sessions (ticked m).sessions (cleared-remains m)
    (remains_then a.sessions b.sessions (ticked m).sessions (measurement-stays a)
    (remains_then b.sessions c.sessions (ticked m).sessions (queued-remains b) (begun_from-remains c.waiting c)))

-- ---- a pong

-- by the outcome
abbrev GivenBy : Outcome → NodeId → History → History → Type 0
GivenBy outcome session h k = Stays h k ⊎ ((xform : XForm) × (outcome ≡ Done xform) × IsAt k session xform.offset)

judged-gives : (outcome : Outcome) (session : NodeId) (m : Machine) → GivenBy outcome session m.sessions (judged outcome session m).sessions
judged-gives Idle session m = inl (refl, refl)
judged-gives (Again ping) session m = inl (refl, refl)
judged-gives (Done xform) session m =
    subst (λ (k : History). GivenBy (Done xform) session m.sessions k) (sym (measured-sessions session xform.offset (record m { measuring = None })))
    (elim (measured_gives m.sessions session xform.offset m.moment)
    as (λ _. GivenBy (Done xform) session m.sessions (measured_after m.sessions session xform.offset m.moment)) [
      | inl stays ↦ inl stays
      | inr at ↦ inr (xform, refl, at)
    ])
judged-gives (Failed fault) session m =
    inl (stays_remains m.sessions (unmeasured session (record m { measuring = None })).sessions (unmeasured-remains session (record m { measuring = None })))

abbrev ByPong : Machine → Gate → Endpoint → Result MessageValue WireFault → History → Type 0
ByPong m gate from reading k =
    Stays m.sessions k
    ⊎ ((life : Life) × (pong : PongFields) × (xform : XForm) × (m.measuring ≡ Some life) × (reading ≡ Ok (message.Pong pong))
    × (pong_outcome life gate from pong m.moment ≡ Done xform) × (life.session ≡ k.current.session) × (xform.offset ≡ k.offset))

pong_by-gives : (running : Option Life) (gate : Gate) (from : Endpoint) (pong : PongFields) (m : Machine) → m.measuring ≡ running
    → ByPong m gate from (Ok (message.Pong pong)) (pong_by running gate from pong m).sessions
pong_by-gives None gate from pong m is = inl (refl, refl)
pong_by-gives (Some life) gate from pong m is =
    let next = record m { measuring = Some (pong_after life gate from pong m.moment) } in
    let after = judged (pong_outcome life gate from pong m.moment) life.session next in
    elim (judged-gives (pong_outcome life gate from pong m.moment) life.session next) as (λ _. ByPong m gate from (Ok (message.Pong pong)) after.sessions) [
      | inl stays ↦ inl stays
      | inr done ↦ inr (life, pong, done.0, is, refl, done.1, done.2.0, done.2.1)
    ]

pong-gives : (gate : Gate) (from : Endpoint) (pong : PongFields) (m : Machine) → ByPong m gate from (Ok (message.Pong pong)) (pong_heard gate from pong m).sessions
unfolding pong_heard
pong-gives gate from pong m = pong_by-gives m.measuring gate from pong m refl

-- ---- messages and commits

taken_by-stays : (found : Option Taking) (h : History) (told : NodeId) (seen : Timeline) → Stays h (taken_by found h told seen)
taken_by-stays (Some other) h told seen = (refl, refl)
taken_by-stays None h told seen =
    by_test (λ b. Stays h (if b then record h { others = h.others ++ begun told seen ∷ [] } else h)) (nat_lt (length h.others) 64) (λ _. (refl, refl)) (λ _. (refl, refl))

saw-stays : (h : History) (told : NodeId) (seen : Timeline) → Stays h (saw_after h told seen)
unfolding saw_after
saw-stays h told seen =
    by_test (λ b. Stays h (if b then record h { current = with_taken seen h.current } else taken_by (other_in told h) h told seen)) (is_current told h)
    (λ _. (refl, refl)) (λ _. taken_by-stays (other_in told h) h told seen)

fields-stay : (fields : PeerFields) (m : Machine) → Stays m.sessions (start_taken fields (timeline_taken fields m)).sessions
fields-stay fields m = subst (λ (k : History). Stays m.sessions k) (sym (fields-sessions fields m)) (saw-stays m.sessions fields.session (tidy_of fields.timeline))

listened-stays : (answer : Seen) (fields : PeerFields) (m : Machine) → Stays m.sessions (listened answer fields m).sessions
listened-stays seen.TableFull fields m = (refl, refl)
listened-stays seen.New fields m = fields-stay fields m
listened-stays seen.Known fields m = fields-stay fields m

heard-stays : (b : Bool) (gate : Gate) (msg : StateMsg) (m : Machine) → Stays m.sessions (if b then state_taken gate msg m else m).sessions
unfolding state_taken sighted
heard-stays true gate msg m = listened-stays (seen_of gate msg.from m.life) msg.fields (sighted gate msg m)
heard-stays false gate msg m = (refl, refl)

bye-stays : (b : Bool) (gate : Gate) (id : NodeId) (m : Machine) → Stays m.sessions (if b then record m { life = said_goodbye gate id m.life } else m).sessions
bye-stays true gate id m = (refl, refl)
bye-stays false gate id m = (refl, refl)

arrived-gives : (gate : Gate) (from : Endpoint) (reading : Result MessageValue WireFault) (m : Machine) → ByPong m gate from reading (arrived gate from reading m).sessions
arrived-gives gate from (Ok (message.Alive msg)) m = inl (heard-stays (is_heard msg.from msg.group m) gate msg m)
arrived-gives gate from (Ok (message.Response msg)) m = inl (heard-stays (is_heard msg.from msg.group m) gate msg m)
arrived-gives gate from (Ok (message.Bye id ttl group)) m = inl (bye-stays (is_heard id group m) gate id m)
arrived-gives gate from (Ok (message.Ping payload)) m = inl (refl, refl)
arrived-gives gate from (Ok (message.Pong pong)) m = pong-gives gate from pong m
arrived-gives gate from (Ok (message.OtherDiscovery kind)) m = inl (refl, refl)
arrived-gives gate from (Ok (message.OtherLink kind)) m = inl (refl, refl)
arrived-gives gate from (Err fault) m = inl (refl, refl)

committed_by-stays : (given : Option Timeline) (client : Timeline) (commit : Commit) (m : Machine) → Stays m.sessions (committed_by given client commit m).sessions
unfolding renewed
committed_by-stays None client commit m = (refl, refl)
committed_by-stays (Some given) client commit m =
    subst (λ (k : History). Stays m.sessions k) (sym (start_committed-sessions commit.start (client_taken (Some given) client m))) (refl, refl)

timeline_committed-stays : (client : Option Timeline) (commit : Commit) (m : Machine) → Stays m.sessions (timeline_committed client commit m).sessions
timeline_committed-stays None commit m = subst (λ (k : History). Stays m.sessions k) (sym (start_committed-sessions commit.start m)) (refl, refl)
timeline_committed-stays (Some client) commit m =
    committed_by-stays (session_from_client_of (timeline_in m) client commit.at (offset_in m)) client commit m

commit-stays : (commit : Commit) (m : Machine) → Stays m.sessions (commit_taken commit m).sessions
unfolding commit_taken
commit-stays commit m = timeline_committed-stays commit.timeline commit m

-- ---- the step

abbrev ComesBy : Machine → EventValue → History → Type 0
ComesBy m e k = Stays m.sessions k ⊎ IsMeasured m e k.current.session k.offset

pub midst-gives : (m : Machine) (e : EventValue) → ComesBy m e (midst m e).sessions
unfolding app_taken audio_taken
midst-gives m (Rx gate from bytes now) = arrived-gives gate from (reading_of bytes) (at_moment now m)
midst-gives m (Tick now) = inl (stays_remains m.sessions (ticked (at_moment now m)).sessions (ticked-stays (at_moment now m)))
midst-gives m (App commit now) = inl (commit-stays commit (record m { moment = (at_moment now m).moment; app = m.app + 1 }))
midst-gives m (Audio number commit now) = inl (commit-stays commit (record m { moment = (at_moment now m).moment; audio = number }))
midst-gives m (End now) = inl (refl, refl)

pub step-gives : (m : Machine) (e : EventValue) → (step_of m e).drawn ≡ m.drawn
    → ((session_in (step_of m e) ≡ session_in m) × (offset_in (step_of m e) ≡ offset_in m)) ⊎ IsMeasured m e (session_in (step_of m e)) (offset_in (step_of m e))
step-gives m e same = subst (λ (k : History). ComesBy m e k) (sym (sessions_stay m e same)) (midst-gives m e)
