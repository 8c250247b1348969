use Rattle.std.proofs.Common.{ℤ, ◌<◌, [], ◌∷◌, map, refl, sym, ap, ◌∙◌, append-nil, arith, w64, to_z, of_z}
use Rattle.std.proofs.lemmas.Int.{to_z-of_z}
use Rattle.std.proofs.lemmas.List.{length-map}
use Rattle.link_node.specs.Config.{config_value, gate_value}
use Rattle.link_node.specs.Event.{EventValue, Rx, Tick, End, event_value}
use Rattle.link_node.specs.Machine.{Machine}
use Rattle.link_node.specs.Opening.{opened}
use Rattle.link_node.specs.Standing.{gates_of, app_of, audio_of}
use Rattle.link_shared.specs.Hub.{got_events}
use Rattle.link_shared.specs.declared.got.Got.{Got}
use Rattle.link_shared.proofs.TurnLemmas.{first_after, read_after, one_read, took_events, offered_nothing, on_gate, fits_datagram}
use Rattle.link_shared.proofs.hub.Hub.take_got.Goals as goal

pub offer-requires-clause-event : goal.offer-requires-clause-event
offer-requires-clause-event g c κs within =
    let node = c.self.inside.keeper.node in
    let gate = c.in-Datagram.gate in
    let on : gate.0 < gates_of node =
    omega (arith, length-map node.config.gates.items gate_value, on_gate _ _ c.args.got gate c.in-Datagram.from c.in-Datagram.bytes c.self.view_is c.in-Datagram.is c.requires.gate) in
    fits_datagram (gates_of node) (app_of node) (audio_of node) gate c.in-Datagram.from _ _ _ c.args.now (to_z-of_z w64 c.args.now c.ranges.now) c.requires.moment on c.deref.ensures.0 c.are_bytes.ensures c.deref.ensures.1

pub invariant_of-self : goal.invariant_of-self
invariant_of-self g c =
    let i = c.self.invariant in
    let k = c.self.inside.keeper in
    let offer = c.offer.ensures in
    let opening : Machine = opened (config_value k.node.config) k.opened_at in
    let e : EventValue = Rx c.in-Datagram.gate c.in-Datagram.from c.in-Datagram.bytes.items (to_z w64 (of_z w64 c.args.now)) in (
      i.0,
      i.1,
      i.2,
      i.3,
      first_after opening _ _ (e ∷ []) k.journal.items c.offer.new.self.journal.items _ _ _ _ _ offer.offered i.4 offer.opening.1 (sym (append-nil _)),
      read_after opening _ (e ∷ []) (map event_value k.journal.items) (map event_value c.offer.new.self.journal.items) _ _ _ _ _ _ offer.offered i.5 (sym (append-nil _)) (one_read _ e tt),
      i.6,
      i.7,
    )

pub invariant_of-self-in-Tick : goal.invariant_of-self-in-Tick
invariant_of-self-in-Tick g c =
    let i = c.self.invariant in
    let k = c.self.inside.keeper in
    let offer = c.offer-in-Tick.ensures in
    let opening : Machine = opened (config_value k.node.config) k.opened_at in
    let e : EventValue = Tick (to_z w64 (of_z w64 c.args.now)) in (
      i.0,
      i.1,
      i.2,
      i.3,
      first_after opening _ _ (e ∷ []) k.journal.items c.offer-in-Tick.new.self.journal.items _ _ _ _ _ offer.offered i.4 offer.opening.1 (sym (append-nil _)),
      read_after opening _ (e ∷ []) (map event_value k.journal.items) (map event_value c.offer-in-Tick.new.self.journal.items) _ _ _ _ _ _ offer.offered i.5 (sym (append-nil _)) (one_read _ e tt),
      i.6,
      i.7,
    )

pub invariant_of-self-in-End : goal.invariant_of-self-in-End
invariant_of-self-in-End g c =
    let i = c.self.invariant in
    let k = c.self.inside.keeper in
    let offer = c.offer-in-End.ensures in
    let opening : Machine = opened (config_value k.node.config) k.opened_at in
    let e : EventValue = End (to_z w64 (of_z w64 c.args.now)) in (
      i.0,
      i.1,
      i.2,
      i.3,
      first_after opening _ _ (e ∷ []) k.journal.items c.offer-in-End.new.self.journal.items _ _ _ _ _ offer.offered i.4 offer.opening.1 (sym (append-nil _)),
      read_after opening _ (e ∷ []) (map event_value k.journal.items) (map event_value c.offer-in-End.new.self.journal.items) _ _ _ _ _ _ offer.offered i.5 (sym (append-nil _)) (one_read _ e tt),
      i.6,
      i.7,
    )

pub returns-in-Nothing : goal.returns-in-Nothing
returns-in-Nothing g c =
    let k = c.self.inside.keeper in record {
      taken = offered_nothing _ _ _ _ c.self.view_is (ap (λ (g : Got). got_events c.args.now g) (sym c.in-Nothing.is)) (omega (arith, length-map k.journal.items event_value, k.room.few_events));
    }

pub returns-in-Datagram : goal.returns-in-Datagram
returns-in-Datagram g c =
    let offer = c.offer.ensures in
    let same = to_z-of_z w64 c.args.now c.ranges.now in record {
      taken = took_events _ _ _ _ _ _ _ _ c.self.view_is (ap (λ (n : ℤ). Rx c.in-Datagram.gate c.in-Datagram.from c.in-Datagram.bytes.items n ∷ []) same ∙ ap (λ (g : Got). got_events c.args.now g) (sym c.in-Datagram.is))
          offer.config.0 offer.opening.0 offer.opening.1 refl refl refl refl offer.offered;
    }

pub returns-in-Tick : goal.returns-in-Tick
returns-in-Tick g c =
    let offer = c.offer-in-Tick.ensures in
    let same = to_z-of_z w64 c.args.now c.ranges.now in record {
      taken = took_events _ _ _ _ _ _ _ _ c.self.view_is (ap (λ (n : ℤ). Tick n ∷ []) same ∙ ap (λ (g : Got). got_events c.args.now g) (sym c.in-Tick.is))
          offer.config.0 offer.opening.0 offer.opening.1 refl refl refl refl offer.offered;
    }

pub returns-in-End : goal.returns-in-End
returns-in-End g c =
    let offer = c.offer-in-End.ensures in
    let same = to_z-of_z w64 c.args.now c.ranges.now in record {
      taken = took_events _ _ _ _ _ _ _ _ c.self.view_is (ap (λ (n : ℤ). End n ∷ []) same ∙ ap (λ (g : Got). got_events c.args.now g) (sym c.in-End.is))
          offer.config.0 offer.opening.0 offer.opening.1 refl refl refl refl offer.offered;
    }
