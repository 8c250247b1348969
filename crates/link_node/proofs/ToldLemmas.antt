-- What the messages that are sent tell.
use Rattle.std.proofs.Common.{ℕ, ℤ, ◌+◌, List, [], ◌∷◌, ◌++◌, length, map, Option, Some, None, Result, Ok, Err, refl}
use Rattle.std.specs.Prelude.{nat_lt, is_some}
use Rattle.std.specs.List.{AllByRecursion}
use Rattle.ghost_xform.specs.GhostTime.{ghost_of}
use Rattle.lk_base.specs.declared.endpoint.Endpoint.{Endpoint}
use Rattle.lk_base.specs.declared.endpoint.Gate.{Gate}
use Rattle.lk_base.specs.declared.endpoint.Target.{Target}
use Rattle.lk_base.specs.declared.ids.NodeId.{NodeId}
use Rattle.link_payload.specs.declared.fields.PingFields.{PingFields}
use Rattle.link_payload.specs.declared.fields.PongFields.{PongFields}
use Rattle.asdp_messages.specs.Datagram.{MessageValue}
use Rattle.asdp_messages.specs.Datagram as message
use Rattle.asdp_messages.specs.Reading.{reading_of}
use Rattle.asdp_messages.specs.Spelling.{Written, spelled_of, sent}
use Rattle.asdp_messages.specs.Spelling as written
use Rattle.asdp_messages.specs.declared.fault.WireFault.{WireFault}
use Rattle.peer_gateway.specs.Answers.{target_of}
use Rattle.ping_measure.specs.Life.{Life, pong_outcome, tick_outcome}
use Rattle.ping_measure.specs.declared.outcome.Outcome.{Outcome}
use Rattle.ping_measure.specs.declared.outcome.Outcome.TheVariants.{Idle, Again, Done, Failed}
use Rattle.link_node.specs.Arrival.{answers_to, pongs_to, is_heard}
use Rattle.link_node.specs.Broadcast.{broadcast_in, is_broadcast}
use Rattle.link_node.specs.Brought.{IsToldIn}
use Rattle.link_node.specs.Config.{GateValue}
use Rattle.link_node.specs.Event.{EventValue, Rx, Tick, App, Audio, End, SendingValue, moment_of}
use Rattle.link_node.specs.Machine.{Machine, session_in, offset_in}
use Rattle.link_node.specs.Measuring.{ping_to, pings_of, pings_by_pong, pings_after_pong, pings_by_tick, pings_after_tick, measurement_ticked}
use Rattle.link_node.specs.Step.{at_moment, answers, alives_by, before_broadcast, sends_of}
use Rattle.link_node.specs.Telling.{response_to, fields_in, local_of, alive_of, alives_in, bye_of, byes_in, sent_from}
use Rattle.link_node.specs.Tick.{pings_at, pings_from, pings_begun, begun_one, remeasure_queued, cleared, pings_of_tick}
use Rattle.session_choice.proofs.Lists.{all_append}
use Rattle.link_node.proofs.Lists.{all_map, all_either}

-- what holds of each datagram of each gate holds of all
all_sent : (P : SendingValue → Type 0) (spelled : GateValue → List ℕ)
    → ((gate : Gate) (to : Endpoint) (setup : GateValue) → P (record { gate = gate; to = to; bytes = spelled setup }))
    → (k : ℕ) (gates : List GateValue) → AllByRecursion P (sent_from spelled k gates)
unfolding sent_from
all_sent P spelled holds k [] = tt
all_sent P spelled holds k (setup ∷ gates) =
    let gate : Gate = record { 0 = k } in
    let one : Endpoint → SendingValue = λ to. record { gate = gate; to = to; bytes = spelled setup } in
    all_append P (map one setup.destinations) (sent_from spelled (k + 1) gates)
    (all_map P one (λ to. holds gate to setup) setup.destinations) (all_sent P spelled holds (k + 1) gates)

module _ (m : Machine) (e : EventValue) where
  -- ---- pings and pongs tell nothing of it

  told_ping : (target : Target) (ping : PingFields) → IsToldIn m e (ping_to target ping)
  unfolding ping_to
  told_ping target ping = (written.Ping ping, refl, tt)

  told_pongs : (gate : Gate) (to : Endpoint) (payload : List ℕ) → AllByRecursion (IsToldIn m e) (pongs_to gate to payload (at_moment (moment_of e) m))
  unfolding pongs_to
  told_pongs gate to payload =
      let at = at_moment (moment_of e) m in
      let pong : Written = written.Pong (session_in at) (ghost_of (offset_in at) at.moment) payload in
      all_either (IsToldIn m e) (nat_lt 32 (length payload)) [] (record { gate = gate; to = to; bytes = spelled_of pong } ∷ []) tt ((pong, refl, (refl, refl)), tt)

  told_outcome : (outcome : Outcome) (target : Target) → AllByRecursion (IsToldIn m e) (pings_of outcome target)
  told_outcome Idle target = tt
  told_outcome (Again ping) target = (told_ping target ping, tt)
  told_outcome (Done xform) target = tt
  told_outcome (Failed fault) target = tt

  told_by_pong : (running : Option Life) (gate : Gate) (from : Endpoint) (pong : PongFields) (now : ℤ) → AllByRecursion (IsToldIn m e) (pings_by_pong running gate from pong now)
  told_by_pong None gate from pong now = tt
  told_by_pong (Some life) gate from pong now = told_outcome (pong_outcome life gate from pong now) life.target

  told_after_pong : (gate : Gate) (from : Endpoint) (pong : PongFields) (at : Machine) → AllByRecursion (IsToldIn m e) (pings_after_pong gate from pong at)
  unfolding pings_after_pong
  told_after_pong gate from pong at = told_by_pong at.measuring gate from pong at.moment

  told_by_tick : (running : Option Life) (now : ℤ) → AllByRecursion (IsToldIn m e) (pings_by_tick running now)
  told_by_tick None now = tt
  told_by_tick (Some life) now = told_outcome (tick_outcome life now) life.target

  told_at : (target : Option Target) (now : ℤ) → AllByRecursion (IsToldIn m e) (pings_at target now)
  told_at None now = tt
  told_at (Some target) now = (told_ping target (record { host = now; previous = None }), tt)

  told_from : (waiting : List NodeId) (at : Machine) → AllByRecursion (IsToldIn m e) (pings_from waiting at)
  unfolding pings_from
  told_from [] at = tt
  told_from (session ∷ rest) at =
      let next = begun_one session (record at { waiting = rest }) in
      let first = pings_at (target_of session at.life) at.moment in
      all_either (IsToldIn m e) (is_some at.measuring) [] (first ++ pings_from rest next) tt
      (all_append (IsToldIn m e) first (pings_from rest next) (told_at (target_of session at.life) at.moment) (told_from rest next))

  told_tick : (at : Machine) → AllByRecursion (IsToldIn m e) (pings_of_tick at)
  unfolding pings_of_tick pings_after_tick pings_begun
  told_tick at =
      let next = remeasure_queued (measurement_ticked (cleared at)) in
      all_append (IsToldIn m e) (pings_after_tick (cleared at)) (pings_begun next)
      (told_by_tick (cleared at).measuring (cleared at).moment) (told_from next.waiting next)

  told_byes : AllByRecursion (IsToldIn m e) (byes_in (at_moment (moment_of e) m))
  unfolding byes_in
  told_byes =
      let at = at_moment (moment_of e) m in
      all_sent (IsToldIn m e) (bye_of at) (λ gate to setup. (written.Bye at.id 0 at.config.group, refl, (refl, refl))) 0 at.config.gates

  -- ---- a response tells the state before the event

  told_response : (gate : Gate) (to : Endpoint) → IsToldIn m e (response_to gate to (at_moment (moment_of e) m))
  unfolding response_to
  told_response gate to =
      let at = at_moment (moment_of e) m in
      (written.Response (sent at.id at.config.group (fields_in (local_of gate at) at)), refl, record { from = refl; group = refl; session = refl; timeline = refl; start = refl })

  told_answers_to : (gate : Gate) (from : Endpoint) (reading : Result MessageValue WireFault)
      → AllByRecursion (IsToldIn m e) (answers_to gate from reading (at_moment (moment_of e) m))
  told_answers_to gate from (Ok (message.Alive msg)) =
      let at = at_moment (moment_of e) m in
      all_either (IsToldIn m e) (is_heard msg.from msg.group at) (response_to gate from at ∷ []) [] (told_response gate from, tt) tt
  told_answers_to gate from (Ok (message.Response msg)) = tt
  told_answers_to gate from (Ok (message.Bye id ttl group)) = tt
  told_answers_to gate from (Ok (message.Ping payload)) = told_pongs gate from payload
  told_answers_to gate from (Ok (message.Pong pong)) = told_after_pong gate from pong (at_moment (moment_of e) m)
  told_answers_to gate from (Ok (message.OtherDiscovery kind)) = tt
  told_answers_to gate from (Ok (message.OtherLink kind)) = tt
  told_answers_to gate from (Err fault) = tt

  -- ---- an alive tells the state after settling

  told_alives : AllByRecursion (IsToldIn m e) (broadcast_in (before_broadcast e m))
  unfolding broadcast_in alives_in
  told_alives =
      let after = before_broadcast e m in
      all_either (IsToldIn m e) (is_broadcast after) (alives_in after) []
      (all_sent (IsToldIn m e) (alive_of after) (λ gate to setup. (written.Alive (sent after.id after.config.group (fields_in (Some setup.local) after)), refl, record { from = refl; group = refl; session = refl; timeline = refl; start = refl })) 0 after.config.gates) tt

told_answers : (m : Machine) (e : EventValue) → AllByRecursion (IsToldIn m e) (answers e (at_moment (moment_of e) m))
told_answers m (Rx gate from bytes now) = told_answers_to m (Rx gate from bytes now) gate from (reading_of bytes)
told_answers m (Tick now) = told_tick m (Tick now) (at_moment now m)
told_answers m (App commit now) = tt
told_answers m (Audio number commit now) = tt
told_answers m (End now) = told_byes m (End now)

told_after : (m : Machine) (e : EventValue) → AllByRecursion (IsToldIn m e) (alives_by e (before_broadcast e m))
told_after m (Rx gate from bytes now) = tt
told_after m (Tick now) = told_alives m (Tick now)
told_after m (App commit now) = tt
told_after m (Audio number commit now) = tt
told_after m (End now) = tt

pub all_told : (m : Machine) (e : EventValue) → AllByRecursion (IsToldIn m e) (sends_of m e)
unfolding sends_of
all_told m e =
    all_append (IsToldIn m e) (answers e (at_moment (moment_of e) m)) (alives_by e (before_broadcast e m)) (told_answers m e) (told_after m e)
