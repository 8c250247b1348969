-- What is sent, to the last field. It says more than link_node's law `best_timelines_are_told`: how long a state counts, in
-- which group, and where its sender answers.
use Rattle.std.proofs.Common.{ℕ, ℤ, ◌+◌, List, [], ◌∷◌, ◌++◌, ◌≡◌, length, map, Option, Some, None, Result, Ok, Err, refl}
use Rattle.std.specs.Prelude.{nat_lt, is_some, IfSome}
use Rattle.lk_base.specs.Endpoint.{IsEndpoint}
use Rattle.std.specs.List.{AllByRecursion}
use Rattle.ghost_xform.specs.GhostTime.{ghost_of}
use Rattle.lk_base.specs.declared.endpoint.Endpoint.{Endpoint}
use Rattle.lk_base.specs.declared.endpoint.Gate.{Gate}
use Rattle.lk_base.specs.declared.endpoint.Target.{Target}
use Rattle.lk_base.specs.declared.ids.NodeId.{NodeId}
use Rattle.link_payload.specs.declared.fields.PingFields.{PingFields}
use Rattle.link_payload.specs.declared.fields.PongFields.{PongFields}
use Rattle.asdp_messages.specs.Datagram.{MessageValue}
use Rattle.asdp_messages.specs.Datagram as message
use Rattle.asdp_messages.specs.Reading.{reading_of}
use Rattle.asdp_messages.specs.Spelling.{Written, spelled_of, sent}
use Rattle.asdp_messages.specs.Spelling as written
use Rattle.asdp_messages.specs.declared.fault.WireFault.{WireFault}
use Rattle.asdp_messages.specs.declared.message.StateMsg.{StateMsg}
use Rattle.peer_gateway.specs.Answers.{target_of}
use Rattle.ping_measure.specs.Life.{Life, pong_outcome, tick_outcome}
use Rattle.ping_measure.specs.declared.outcome.Outcome.{Outcome}
use Rattle.ping_measure.specs.declared.outcome.Outcome.TheVariants.{Idle, Again, Done, Failed}
use Rattle.link_node.specs.Arrival.{answers_to, pongs_to, is_heard}
use Rattle.link_node.specs.Broadcast.{broadcast_in, is_broadcast}
use Rattle.link_node.specs.Config.{GateValue}
use Rattle.link_node.specs.Event.{EventValue, Rx, Tick, App, Audio, End, SendingValue, moment_of}
use Rattle.link_node.specs.Machine.{Machine, session_in, offset_in}
use Rattle.link_node.specs.Measuring.{ping_to, pings_of, pings_by_pong, pings_after_pong, pings_by_tick, pings_after_tick, measurement_ticked}
use Rattle.link_node.specs.Step.{at_moment, answers, alives_by, before_broadcast, sends_of}
use Rattle.link_node.specs.Telling.{response_to, fields_in, local_of, alive_of, alives_in, bye_of, byes_in, sent_from}
use Rattle.link_node.specs.Tick.{pings_at, pings_from, pings_begun, begun_one, remeasure_queued, cleared, pings_of_tick}
use Rattle.link_world.specs.Stored.{IsStoredGate}
use Rattle.link_world.proofs.Lists.{all_append, all_map, all_either}
use Rattle.link_world.proofs.StepLemmas.{gate_stored}

-- a state from the machine, wherever it says that it answers
pub record IsStateOf (m : Machine) (msg : StateMsg) : Type 0 where
  pub endpoint : Option Endpoint
  pub stored : IfSome endpoint IsEndpoint
  pub is : msg ≡ sent m.id m.config.group (fields_in endpoint m)

abbrev pub IsSaid : Machine → EventValue → Written → Type 0
IsSaid m e (written.Alive msg) = IsStateOf (before_broadcast e m) msg
IsSaid m e (written.Response msg) = IsStateOf m msg
IsSaid m e (written.Bye id ttl group) = (id ≡ m.id) × (ttl ≡ 0) × (group ≡ m.config.group)
IsSaid m e (written.Ping ping) = Unit {0}
IsSaid m e (written.Pong session ghost_time echo) = Unit {0}

abbrev pub IsSaidIn : Machine → EventValue → SendingValue → Type 0
IsSaidIn m e sending = (message : Written) × (sending.bytes ≡ spelled_of message) × IsSaid m e message

-- what holds of each datagram of each gate holds of all
all_sent : (P : SendingValue → Type 0) (spelled : GateValue → List ℕ)
    → ((gate : Gate) (to : Endpoint) (setup : GateValue) → IsStoredGate setup → P (record { gate = gate; to = to; bytes = spelled setup }))
    → (k : ℕ) (gates : List GateValue) → AllByRecursion IsStoredGate gates → AllByRecursion P (sent_from spelled k gates)
unfolding sent_from
all_sent P spelled holds k [] stored = tt
all_sent P spelled holds k (setup ∷ gates) stored =
    let gate : Gate = record { 0 = k } in
    let one : Endpoint → SendingValue = λ to. record { gate = gate; to = to; bytes = spelled setup } in
    all_append P (map one setup.destinations) (sent_from spelled (k + 1) gates)
    (all_map P one (λ to. holds gate to setup stored.0) setup.destinations) (all_sent P spelled holds (k + 1) gates stored.1)

module _ (m : Machine) (e : EventValue) (own : AllByRecursion IsStoredGate m.config.gates) (own_after : AllByRecursion IsStoredGate (before_broadcast e m).config.gates) where
  -- ---- pings and pongs

  said_ping : (target : Target) (ping : PingFields) → IsSaidIn m e (ping_to target ping)
  unfolding ping_to
  said_ping target ping = (written.Ping ping, refl, tt)

  said_pongs : (gate : Gate) (to : Endpoint) (payload : List ℕ) → AllByRecursion (IsSaidIn m e) (pongs_to gate to payload (at_moment (moment_of e) m))
  unfolding pongs_to
  said_pongs gate to payload =
      let at = at_moment (moment_of e) m in
      let pong : Written = written.Pong (session_in at) (ghost_of (offset_in at) at.moment) payload in
      all_either (IsSaidIn m e) (nat_lt 32 (length payload)) [] (record { gate = gate; to = to; bytes = spelled_of pong } ∷ []) tt ((pong, refl, tt), tt)

  said_outcome : (outcome : Outcome) (target : Target) → AllByRecursion (IsSaidIn m e) (pings_of outcome target)
  said_outcome Idle target = tt
  said_outcome (Again ping) target = (said_ping target ping, tt)
  said_outcome (Done xform) target = tt
  said_outcome (Failed fault) target = tt

  said_by_pong : (running : Option Life) (gate : Gate) (from : Endpoint) (pong : PongFields) (now : ℤ) → AllByRecursion (IsSaidIn m e) (pings_by_pong running gate from pong now)
  said_by_pong None gate from pong now = tt
  said_by_pong (Some life) gate from pong now = said_outcome (pong_outcome life gate from pong now) life.target

  said_after_pong : (gate : Gate) (from : Endpoint) (pong : PongFields) (at : Machine) → AllByRecursion (IsSaidIn m e) (pings_after_pong gate from pong at)
  unfolding pings_after_pong
  said_after_pong gate from pong at = said_by_pong at.measuring gate from pong at.moment

  said_by_tick : (running : Option Life) (now : ℤ) → AllByRecursion (IsSaidIn m e) (pings_by_tick running now)
  said_by_tick None now = tt
  said_by_tick (Some life) now = said_outcome (tick_outcome life now) life.target

  said_at : (target : Option Target) (now : ℤ) → AllByRecursion (IsSaidIn m e) (pings_at target now)
  said_at None now = tt
  said_at (Some target) now = (said_ping target (record { host = now; previous = None }), tt)

  said_from : (waiting : List NodeId) (at : Machine) → AllByRecursion (IsSaidIn m e) (pings_from waiting at)
  unfolding pings_from
  said_from [] at = tt
  said_from (session ∷ rest) at =
      let next = begun_one session (record at { waiting = rest }) in
      let first = pings_at (target_of session at.life) at.moment in
      all_either (IsSaidIn m e) (is_some at.measuring) [] (first ++ pings_from rest next) tt
      (all_append (IsSaidIn m e) first (pings_from rest next) (said_at (target_of session at.life) at.moment) (said_from rest next))

  said_tick : (at : Machine) → AllByRecursion (IsSaidIn m e) (pings_of_tick at)
  unfolding pings_of_tick pings_after_tick pings_begun
  said_tick at =
      let next = remeasure_queued (measurement_ticked (cleared at)) in
      all_append (IsSaidIn m e) (pings_after_tick (cleared at)) (pings_begun next)
      (said_by_tick (cleared at).measuring (cleared at).moment) (said_from next.waiting next)

  said_byes : AllByRecursion (IsSaidIn m e) (byes_in (at_moment (moment_of e) m))
  unfolding byes_in
  said_byes =
      let at = at_moment (moment_of e) m in
      all_sent (IsSaidIn m e) (bye_of at) (λ gate to setup stored. (written.Bye at.id 0 at.config.group, refl, (refl, refl, refl))) 0 at.config.gates own

  -- ---- a response tells the state before the event

  said_response : (gate : Gate) (to : Endpoint) → IsSaidIn m e (response_to gate to (at_moment (moment_of e) m))
  unfolding response_to
  said_response gate to =
      let at = at_moment (moment_of e) m in
      (written.Response (sent at.id at.config.group (fields_in (local_of gate at) at)), refl, record { endpoint = local_of gate at; stored = gate_stored m.config.gates gate.0 own; is = refl })

  said_answers_to : (gate : Gate) (from : Endpoint) (reading : Result MessageValue WireFault)
      → AllByRecursion (IsSaidIn m e) (answers_to gate from reading (at_moment (moment_of e) m))
  said_answers_to gate from (Ok (message.Alive msg)) =
      let at = at_moment (moment_of e) m in
      all_either (IsSaidIn m e) (is_heard msg.from msg.group at) (response_to gate from at ∷ []) [] (said_response gate from, tt) tt
  said_answers_to gate from (Ok (message.Response msg)) = tt
  said_answers_to gate from (Ok (message.Bye id ttl group)) = tt
  said_answers_to gate from (Ok (message.Ping payload)) = said_pongs gate from payload
  said_answers_to gate from (Ok (message.Pong pong)) = said_after_pong gate from pong (at_moment (moment_of e) m)
  said_answers_to gate from (Ok (message.OtherDiscovery kind)) = tt
  said_answers_to gate from (Ok (message.OtherLink kind)) = tt
  said_answers_to gate from (Err fault) = tt

  -- ---- an alive tells the state after settling

  said_alives : AllByRecursion (IsSaidIn m e) (broadcast_in (before_broadcast e m))
  unfolding broadcast_in alives_in
  said_alives =
      let after = before_broadcast e m in
      all_either (IsSaidIn m e) (is_broadcast after) (alives_in after) []
      (all_sent (IsSaidIn m e) (alive_of after) (λ gate to setup stored. (written.Alive (sent after.id after.config.group (fields_in (Some setup.local) after)), refl, record { endpoint = Some setup.local; stored = stored; is = refl })) 0 after.config.gates own_after) tt

said_answers : (m : Machine) (e : EventValue) → AllByRecursion IsStoredGate m.config.gates → AllByRecursion IsStoredGate (before_broadcast e m).config.gates → AllByRecursion (IsSaidIn m e) (answers e (at_moment (moment_of e) m))
said_answers m (Rx gate from bytes now) own own_after = said_answers_to m (Rx gate from bytes now) own own_after gate from (reading_of bytes)
said_answers m (Tick now) own own_after = said_tick m (Tick now) own own_after (at_moment now m)
said_answers m (App commit now) own own_after = tt
said_answers m (Audio number commit now) own own_after = tt
said_answers m (End now) own own_after = said_byes m (End now) own own_after

said_after : (m : Machine) (e : EventValue) → AllByRecursion IsStoredGate m.config.gates → AllByRecursion IsStoredGate (before_broadcast e m).config.gates → AllByRecursion (IsSaidIn m e) (alives_by e (before_broadcast e m))
said_after m (Rx gate from bytes now) own own_after = tt
said_after m (Tick now) own own_after = said_alives m (Tick now) own own_after
said_after m (App commit now) own own_after = tt
said_after m (Audio number commit now) own own_after = tt
said_after m (End now) own own_after = tt

pub all_said : (m : Machine) (e : EventValue) → AllByRecursion IsStoredGate m.config.gates → AllByRecursion IsStoredGate (before_broadcast e m).config.gates → AllByRecursion (IsSaidIn m e) (sends_of m e)
unfolding sends_of
all_said m e own own_after =
    all_append (IsSaidIn m e) (answers e (at_moment (moment_of e) m)) (alives_by e (before_broadcast e m)) (said_answers m e own own_after) (said_after m e own own_after)
