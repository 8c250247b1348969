use Rattle.std.proofs.Common.{ℕ, ℤ, List, map, w64, to_z, of_z, refl, ◌∙◌}
use Rattle.std.proofs.lemmas.Int.{to_z-of_z}
use Rattle.audio_handoff.specs.Cell.{Pair}
use Rattle.link_node.specs.Config.{config_value}
use Rattle.link_node.specs.Event.{EventValue, event_value}
use Rattle.link_node.specs.Machine.{Machine}
use Rattle.link_node.specs.Opening.{opened}
use Rattle.link_node.specs.Runs.{machine_after}
use Rattle.link_shared.specs.Hub.{read_events}
use Rattle.link_shared.proofs.TurnLemmas.{first_after, read_after, read_read, read_pops_nothing, took_audio}
use Rattle.link_shared.proofs.hub.Hub.take_audio.Goals as goal

pub invariant_of-self : goal.invariant_of-self
invariant_of-self g c =
    let i = c.self.invariant in
    let k = c.self.inside.keeper in
    let offer = c.offer_audio.ensures in
    let read = c.read-read.ensures in
    let now : ℤ = to_z w64 (of_z w64 c.args.now) in
    let pair : Pair = (c.read-read.result.number, c.read-read.result.row) in
    let opening : Machine = opened (config_value k.node.config) k.opened_at in
    let before : List EventValue = map event_value k.journal.items in
    let after : List EventValue = map event_value c.offer_audio.new.self.journal.items in
    let audio : ℕ = (machine_after opening before).audio in (
      read.cell ∙ i.0,
      i.1,
      i.2,
      i.3,
      first_after opening _ _ (read_events now audio pair) k.journal.items c.offer_audio.new.self.journal.items _ _ _ _ _ offer.offered i.4 offer.opening.1 (read_pops_nothing now audio pair _),
      read_after opening _ (read_events now audio pair) before after _ _ _ _ _ _ offer.offered i.5 read.read.seen (read_read now audio pair _),
      i.6,
      i.7,
    )

pub returns : goal.returns
returns g c =
    let read = c.read-read.result in
    let offer = c.offer_audio.ensures in record {
      taken = took_audio _ _ _ (read.number, read.row) _ _ _ _ _ c.self.view_is (to_z-of_z w64 c.args.now c.ranges.now)
          offer.config.0 offer.opening.0 offer.opening.1 refl refl refl c.read-read.ensures.read.seen offer.offered offer.sends;
    }
