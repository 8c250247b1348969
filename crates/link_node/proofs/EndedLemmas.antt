-- Which event ends a peer's row.
use Rattle.std.proofs.Common.{◌≡◌, ◌<ℤ◌, ℕ, ℤ, Bool, true, false, int_lt, List, [], ◌∷◌, ◌++◌, filter, Option, Some, None, Result, Ok, Err, refl, sym, ap, ◌∙◌, subst, arith}
use Rattle.std.proofs.lemmas.Bool.Decides.{nat_tests}
use Rattle.std.proofs.lemmas.Int.{ints}
use Rattle.std.proofs.lemmas.List.{append-nil}
use Rattle.std.specs.Prelude.{if◌then◌else◌, is_some, IsTrue}
use Rattle.std.specs.Int.{int_max}
use Rattle.lk_base.specs.IdOrder.{same_id}
use Rattle.lk_base.specs.declared.endpoint.Endpoint.{Endpoint}
use Rattle.lk_base.specs.declared.endpoint.Gate.{Gate}
use Rattle.lk_base.specs.declared.endpoint.Target.{Target}
use Rattle.lk_base.specs.declared.ids.NodeId.{NodeId}
use Rattle.link_payload.specs.declared.fields.PeerFields.{PeerFields}
use Rattle.link_payload.specs.declared.fields.PongFields.{PongFields}
use Rattle.asdp_messages.specs.Datagram.{MessageValue}
use Rattle.asdp_messages.specs.Datagram as message
use Rattle.asdp_messages.specs.Reading.{reading_of}
use Rattle.asdp_messages.specs.declared.fault.WireFault.{WireFault}
use Rattle.asdp_messages.specs.declared.message.StateMsg.{StateMsg}
use Rattle.peer_gateway.specs.Answers.{seen_of, target_of}
use Rattle.peer_gateway.specs.Happenings.{Happening, Ends, Has, life_after, lives, outlives, rows_of, said_goodbye, was_pruned}
use Rattle.peer_gateway.specs.Happenings.Happening.{sighting, goodbye, pruning}
use Rattle.peer_gateway.specs.declared.row.PeerRow.{PeerRow}
use Rattle.peer_gateway.specs.declared.row.Seen.{Seen}
use Rattle.peer_gateway.specs.declared.row.Seen.TheVariants as seen
use Rattle.peer_gateway.proofs.LawLemmas.{not_ended, outlived}
use Rattle.peer_gateway.proofs.LifeLemmas.{brought, rows_more}
use Rattle.peer_gateway.proofs.MemberLemmas.{filter_has, has_filter, has_left}
use Rattle.ping_measure.specs.Life.{Life, pong_after, pong_outcome, tick_after, tick_outcome}
use Rattle.ping_measure.specs.declared.outcome.Outcome.{Outcome}
use Rattle.ping_measure.specs.declared.outcome.Outcome.TheVariants.{Idle, Again, Done, Failed}
use Rattle.session_choice.specs.History.{forgotten, measured_after, measured_of, saw_after, saw_of}
use Rattle.session_choice.specs.declared.verdict.Saw.{Saw}
use Rattle.session_choice.specs.declared.verdict.Saw.TheVariants as saw
use Rattle.session_choice.specs.declared.verdict.Verdict.{Verdict}
use Rattle.session_choice.specs.declared.verdict.Verdict.TheVariants.{Joined, Stayed, Remeasured, Unknown}
use Rattle.timeline_math.specs.Tidying.{tidy_of}
use Rattle.link_node.specs.Arrival.{arrived, is_heard}
use Rattle.link_node.specs.Client.{renewed}
use Rattle.link_node.specs.Event.{EventValue, Rx, Tick, App, Audio, End}
use Rattle.link_node.specs.Machine.{Machine, session_in}
use Rattle.link_node.specs.Measuring.{chosen, judged, measured, measurement_ticked, pong_by, pong_heard, remeasured_later, tick_by, unmeasured}
use Rattle.link_node.specs.Quiet.{EndsRow, IsFrom}
use Rattle.link_node.specs.Settling.{counted, founded, is_left, settled}
use Rattle.link_node.specs.Step.{at_moment, step_of}
use Rattle.link_node.specs.Taking.{followed, is_current, listened, row_of, sighted, start_taken, state_taken, timeline_taken, with_start}
use Rattle.link_node.specs.Tick.{begun, begun_at, begun_from, begun_one, cleared, idle_forgotten, is_remeasured, pruned, remeasure_queued, ticked, waiting_with}
use Rattle.link_node.proofs.DueLemmas.{app-left, audio-left}
use Rattle.session_choice.proofs.Lists.{by_test}
use Rattle.link_node.proofs.MomentLemmas.{leads_step}
use Rattle.link_node.proofs.StayingLemmas.{midst, no_founding, not_left-settled, stands_step}

-- ---- what leaves the life as it is

followed-life : (answer : Saw) (session : NodeId) (m : Machine) → (followed answer session m).life ≡ m.life
unfolding renewed
followed-life saw.New session m = refl
followed-life saw.Taken session m = by_test (λ b. (if b then renewed m else m).life ≡ m.life) (is_current session m) (λ _. refl) (λ _. refl)
followed-life saw.Kept session m = refl
followed-life saw.Full session m = refl

timeline-life : (fields : PeerFields) (m : Machine) → (timeline_taken fields m).life ≡ m.life
unfolding timeline_taken
timeline-life fields m =
    followed-life (saw_of m.sessions fields.session (tidy_of fields.timeline)) fields.session
    (record m { sessions = saw_after m.sessions fields.session (tidy_of fields.timeline) })

start-life : (fields : PeerFields) (m : Machine) → (start_taken fields m).life ≡ m.life
unfolding start_taken
start-life fields m = by_test (λ b. (if b then with_start fields.start m else m).life ≡ m.life) (is_current fields.session m) (λ _. refl) (λ _. refl)

pub listened-life : (answer : Seen) (fields : PeerFields) (m : Machine) → (listened answer fields m).life ≡ m.life
listened-life seen.TableFull fields m = refl
listened-life seen.New fields m = start-life fields (timeline_taken fields m) ∙ timeline-life fields m
listened-life seen.Known fields m = start-life fields (timeline_taken fields m) ∙ timeline-life fields m

chosen-life : (verdict : Verdict) (m : Machine) → (chosen verdict m).life ≡ m.life
unfolding renewed
chosen-life Joined m = refl
chosen-life Remeasured m = refl
chosen-life Stayed m = refl
chosen-life Unknown m = refl

unmeasured-life : (session : NodeId) (m : Machine) → (unmeasured session m).life ≡ m.life
unfolding unmeasured
unmeasured-life session m =
    by_test (λ b. (if b then remeasured_later m else record m { sessions = forgotten session m.sessions }).life ≡ m.life) (same_id session (session_in m)) (λ _. refl) (λ _. refl)

judged-life : (outcome : Outcome) (session : NodeId) (m : Machine) → (judged outcome session m).life ≡ m.life
unfolding measured
judged-life Idle session m = refl
judged-life (Again ping) session m = refl
judged-life (Done xform) session m =
    chosen-life (measured_of m.sessions session xform.offset m.moment)
    (record m { measuring = None; sessions = measured_after m.sessions session xform.offset m.moment })
judged-life (Failed fault) session m = unmeasured-life session (record m { measuring = None })

pong_by-life : (o : Option Life) (gate : Gate) (from : Endpoint) (pong : PongFields) (m : Machine) → (pong_by o gate from pong m).life ≡ m.life
pong_by-life None gate from pong m = refl
pong_by-life (Some life) gate from pong m =
    judged-life (pong_outcome life gate from pong m.moment) life.session (record m { measuring = Some (pong_after life gate from pong m.moment) })

pong-life : (gate : Gate) (from : Endpoint) (pong : PongFields) (m : Machine) → (pong_heard gate from pong m).life ≡ m.life
unfolding pong_heard
pong-life gate from pong m = pong_by-life m.measuring gate from pong m

tick_by-life : (o : Option Life) (m : Machine) → (tick_by o m).life ≡ m.life
tick_by-life None m = refl
tick_by-life (Some life) m = judged-life (tick_outcome life m.moment) life.session (record m { measuring = Some (tick_after life m.moment) })

measurement-life : (m : Machine) → (measurement_ticked m).life ≡ m.life
unfolding measurement_ticked
measurement-life m = tick_by-life m.measuring m

queued-life : (m : Machine) → (remeasure_queued m).life ≡ m.life
unfolding remeasure_queued
queued-life m =
    by_test (λ b. (if b then record m { remeasure_at = None; waiting = waiting_with (session_in m) m.waiting } else m).life ≡ m.life)
    (is_remeasured m.remeasure_at m.moment) (λ _. refl) (λ _. refl)

begun_at-life : (target : Option Target) (session : NodeId) (m : Machine) → (begun_at target session m).life ≡ m.life
begun_at-life (Some target) session m = refl
begun_at-life None session m = unmeasured-life session m

begun_one-life : (session : NodeId) (m : Machine) → (begun_one session m).life ≡ m.life
unfolding begun_one
begun_one-life session m = begun_at-life (target_of session m.life) session m

begun_from-life : (waiting : List NodeId) (m : Machine) → (begun_from waiting m).life ≡ m.life
unfolding begun_from
begun_from-life [] m = refl
begun_from-life (session ∷ rest) m =
    let next = begun_one session (record m { waiting = rest }) in
    by_test (λ b. (if b then m else begun_from rest next).life ≡ m.life) (is_some m.measuring)
    (λ _. refl) (λ _. begun_from-life rest next ∙ begun_one-life session (record m { waiting = rest }))

cleared-life : (m : Machine) → (cleared m).life ≡ was_pruned m.moment m.life
unfolding cleared idle_forgotten pruned
cleared-life m = refl

ticked-life : (m : Machine) → (ticked m).life ≡ was_pruned m.moment m.life
unfolding ticked begun
ticked-life m =
    let a = cleared m in
    let b = measurement_ticked a in
    let c = remeasure_queued b in
    begun_from-life c.waiting c ∙ queued-life b ∙ measurement-life a ∙ cleared-life m

state-life : (gate : Gate) (msg : StateMsg) (m : Machine) → (state_taken gate msg m).life ≡ life_after (seen_of gate msg.from m.life) (row_of gate msg m) m.life
unfolding state_taken sighted
state-life gate msg m = listened-life (seen_of gate msg.from m.life) msg.fields (sighted gate msg m)

-- ---- one more happening

-- what doesn't end a row leaves it
has_more : (life : List Happening) (h : Happening) (row : PeerRow) → Has (rows_of life) row → (Ends h row → ⊥) → Has (rows_of (life ++ h ∷ [])) row
has_more life h row has goes =
    subst (λ (rows : List PeerRow). Has rows row) (sym (rows_more life h))
    (has_left (filter (λ r. outlives r h) (rows_of life)) (brought h) row
    (has_filter (λ r. outlives r h) (rows_of life) row has (outlived row h goes)))

bye-ends : (gate : Gate) (id : NodeId) (life : List Happening) (row : PeerRow) → Has (rows_of (said_goodbye gate id life)) row → outlives row (goodbye gate id) ≡ true
bye-ends gate id life row has =
    let others : List PeerRow = filter (λ r. outlives r (goodbye gate id)) (rows_of life) in
    let kept : Has others row =
    subst (λ (rows : List PeerRow). Has rows row) (rows_more life (goodbye gate id) ∙ append-nil others) has in
    (filter_has (λ r. outlives r (goodbye gate id)) (rows_of life) row kept).1

pruning-ends : (moment : ℤ) (life : List Happening) (row : PeerRow) → Has (rows_of (was_pruned moment life)) row → lives moment row ≡ true
pruning-ends moment life row has =
    let others : List PeerRow = filter (lives moment) (rows_of life) in
    let kept : Has others row =
    subst (λ (rows : List PeerRow). Has rows row) (rows_more life (pruning moment) ∙ append-nil others) has in
    (filter_has (lives moment) (rows_of life) row kept).1

-- ---- at the end of the event

-- a session that is founded has no rows
has-settled : (m : Machine) (row : PeerRow) → Has (rows_of (settled m).life) row → Has (rows_of m.life) row
unfolding settled founded renewed rows_of
has-settled m row =
    by_test (λ b. Has (rows_of (if b then founded (counted m) else counted m).life) row → Has (rows_of m.life) row) (is_left m)
    (λ _ has. absurd has) (λ _ has. has)

has-step : (m : Machine) (e : EventValue) (row : PeerRow) → Has (rows_of (step_of m e).life) row → Has (rows_of (midst m e).life) row
has-step m e row has =
    has-settled (midst m e) row (subst (λ (life : List Happening). Has (rows_of life) row) (stands_step m e).life has)

pub bye_ends : (m : Machine) (gate : Gate) (from : Endpoint) (bytes : List ℕ) (now : ℤ) (id : NodeId) (ttl group : ℕ) (row : PeerRow)
    → reading_of bytes ≡ Ok (message.Bye id ttl group) → IsTrue (is_heard id group m) → Has (rows_of (step_of m (Rx gate from bytes now)).life) row
    → gate ≡ row.gate → id ≡ row.id → ⊥
bye_ends m gate from bytes now id ttl group row is heard has same_gate same_peer =
    let at = at_moment now m in
    let e = Rx gate from bytes now in
    let life : (midst m e).life ≡ said_goodbye gate id m.life =
    ap (λ read. (arrived gate from read at).life) is
    ∙ ap (λ b. (let n : Machine = if b then record at { life = said_goodbye gate id m.life } else at in n).life) heard in
    not_ended row (goodbye gate id)
    (bye-ends gate id m.life row (subst (λ (life : List Happening). Has (rows_of life) row) life (has-step m e row has)))
    (same_gate, same_peer)

later : (a b : ℤ) → int_lt a b ≡ true → a <ℤ b
later a b t = grind (arith, ints, nat_tests)

pub limit_ends : (m : Machine) (now : ℤ) (row : PeerRow) → Has (rows_of (step_of m (Tick now)).life) row → (step_of m (Tick now)).moment <ℤ row.limit
limit_ends m now row has =
    let at = at_moment now m in
    let kept : Has (rows_of (was_pruned at.moment m.life)) row =
    subst (λ (life : List Happening). Has (rows_of life) row) (ticked-life at) (has-step m (Tick now) row has) in
    subst (λ (moment : ℤ). moment <ℤ row.limit) (sym (leads_step m (Tick now)).moment)
    (later at.moment row.limit (pruning-ends at.moment m.life row kept))

-- ---- other rows stay

-- a peer that is seen on the gate is another, or there was no room for it
seen-stays : (answer : Seen) (new row : PeerRow) (life : List Happening) → Has (rows_of life) row → ((new.gate ≡ row.gate) × (new.id ≡ row.id) → ⊥)
    → Has (rows_of (life_after answer new life)) row
seen-stays seen.TableFull new row life has goes = has
seen-stays seen.New new row life has goes = has_more life (sighting new) row has goes
seen-stays seen.Known new row life has goes = has_more life (sighting new) row has goes

state-stays : (b : Bool) (gate : Gate) (msg : StateMsg) (m : Machine) (row : PeerRow) → Has (rows_of m.life) row → ((gate ≡ row.gate) × (msg.from ≡ row.id) → ⊥)
    → Has (rows_of (if b then state_taken gate msg m else m).life) row
state-stays true gate msg m row has goes =
    subst (λ (life : List Happening). Has (rows_of life) row) (sym (state-life gate msg m))
    (seen-stays (seen_of gate msg.from m.life) (row_of gate msg m) row m.life has goes)
state-stays false gate msg m row has goes = has

bye-stays : (b : Bool) (gate : Gate) (id : NodeId) (m : Machine) (row : PeerRow) → Has (rows_of m.life) row → ((gate ≡ row.gate) × (id ≡ row.id) → ⊥)
    → Has (rows_of (if b then record m { life = said_goodbye gate id m.life } else m).life) row
bye-stays true gate id m row has goes = has_more m.life (goodbye gate id) row has goes
bye-stays false gate id m row has goes = has

arrived-stays : (gate : Gate) (from : Endpoint) (read : Result MessageValue WireFault) (m : Machine) (row : PeerRow) → Has (rows_of m.life) row
    → ((gate ≡ row.gate) × IsFrom read row.id → ⊥) → Has (rows_of (arrived gate from read m).life) row
arrived-stays gate from (Ok (message.Alive msg)) m row has goes = state-stays (is_heard msg.from msg.group m) gate msg m row has goes
arrived-stays gate from (Ok (message.Response msg)) m row has goes = state-stays (is_heard msg.from msg.group m) gate msg m row has goes
arrived-stays gate from (Ok (message.Bye id ttl group)) m row has goes = bye-stays (is_heard id group m) gate id m row has goes
arrived-stays gate from (Ok (message.Ping payload)) m row has goes = has
arrived-stays gate from (Ok (message.Pong pong)) m row has goes =
    subst (λ (life : List Happening). Has (rows_of life) row) (sym (pong-life gate from pong m)) has
arrived-stays gate from (Ok (message.OtherDiscovery kind)) m row has goes = has
arrived-stays gate from (Ok (message.OtherLink kind)) m row has goes = has
arrived-stays gate from (Err fault) m row has goes = has

midst-stays : (m : Machine) (e : EventValue) (row : PeerRow) → Has (rows_of m.life) row → (EndsRow m e row → ⊥) → Has (rows_of (midst m e).life) row
midst-stays m (Rx gate from bytes now) row has goes = arrived-stays gate from (reading_of bytes) (at_moment now m) row has goes
midst-stays m (Tick now) row has goes =
    subst (λ (life : List Happening). Has (rows_of life) row) (sym (ticked-life (at_moment now m)))
    (has_more m.life (pruning (int_max m.moment now)) row has goes)
midst-stays m (App commit now) row has goes =
    subst (λ (life : List Happening). Has (rows_of life) row) (sym (app-left commit (at_moment now m)).life) has
midst-stays m (Audio number commit now) row has goes =
    subst (λ (life : List Happening). Has (rows_of life) row) (sym (audio-left number commit (at_moment now m)).life) has
midst-stays m (End now) row has goes = has

pub row_stays : (m : Machine) (e : EventValue) (row : PeerRow) → (step_of m e).drawn ≡ m.drawn → Has (rows_of m.life) row → (EndsRow m e row → ⊥)
    → Has (rows_of (step_of m e).life) row
row_stays m e row same has goes =
    let life : (step_of m e).life ≡ (midst m e).life =
    (stands_step m e).life ∙ ap (λ (n : Machine). n.life) (not_left-settled (midst m e) (no_founding m e same)) in
    subst (λ (life : List Happening). Has (rows_of life) row) (sym life) (midst-stays m e row has goes)
