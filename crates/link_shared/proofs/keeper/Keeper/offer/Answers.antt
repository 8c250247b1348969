use Rattle.std.proofs.Common.{◌≡◌, List, [], ◌∷◌, ◌++◌, map, sym, ap, subst, ◌∙◌, arith}
use Rattle.std.proofs.lemmas.List.{length-map}
use Rattle.link_node.specs.Config.{config_value, IsConfig}
use Rattle.link_node.specs.Event.{EventValue, event_value}
use Rattle.link_node.specs.Machine.{Machine}
use Rattle.link_node.specs.Opening.{opened}
use Rattle.link_node.specs.Runs.{machine_after, replayed}
use Rattle.link_node.specs.Standing.{StandsFor, gates_of, app_of, audio_of}
use Rattle.link_node.specs.declared.event.Event.{Event}
use Rattle.link_node.specs.declared.node.Node.{Node}
use Rattle.link_shared.specs.Journal.{last_audio_in}
use Rattle.link_shared.proofs.JournalLemmas.{offered_refused}
use Rattle.link_shared.proofs.KeeperLemmas.{journal_grows, config_stays, sends_are, offered_as, stands_more, shown_more, shown_as, numbered_more, fitting_more_events, fitting_as}
use Rattle.link_shared.proofs.keeper.Keeper.offer.Goals as goal

pub returns-then-len-self-clause-offered : goal.returns-then-len-self-clause-offered
returns-then-len-self-clause-offered g c =
    let k = c.args.self.now in
    offered_refused _ k.most _ (map event_value k.journal.items) _ (omega (arith, length-map k.journal.items event_value, k.room.few_events))

pub returns-clause-config : goal.returns-clause-config
returns-clause-config g c = (
  config_stays c.args.self.now.node c.step-change.new.self _ (event_value c.args.event) c.args.self.now.stands c.step-change.ensures.stands c.moments_never_fall.ensures.config,
  c.step-change.ensures.gates,
)

pub returns-clause-offered : goal.returns-clause-offered
returns-clause-offered g c =
    let k = c.args.self.now in
    let e : EventValue = event_value c.args.event in
    let opening : Machine = opened (config_value k.node.config) k.opened_at in
    let journal : List EventValue = map event_value k.journal.items in
    let grown : List Event = c.push_reserved.new.self.items in
    offered_as opening k.most e journal (map event_value grown) c.args.sends.now _ (omega (arith, length-map k.journal.items event_value))
    (journal_grows k.journal.items c.args.event grown c.push_reserved.ensures.items)
    (sends_are k.node (machine_after opening journal) e c.args.sends.now _ k.stands c.step-change.ensures.sends)

pub invariant_of-self-2-clause-config : goal.invariant_of-self-2-clause-config
invariant_of-self-2-clause-config g c =
    let k = c.args.self.now in
    subst IsConfig (sym (config_stays k.node c.step-change.new.self _ (event_value c.args.event) k.stands c.step-change.ensures.stands c.moments_never_fall.ensures.config)) k.config

pub invariant_of-self-2-clause-stands : goal.invariant_of-self-2-clause-stands
invariant_of-self-2-clause-stands g c =
    let k = c.args.self.now in
    let e : EventValue = event_value c.args.event in
    let node : Node = c.step-change.new.self in
    let same : config_value node.config ≡ config_value k.node.config = config_stays k.node node (replayed (config_value k.node.config) k.opened_at (map event_value k.journal.items)) e k.stands c.step-change.ensures.stands c.moments_never_fall.ensures.config in
    let grown : List Event = c.push_reserved.new.self.items in
    subst (λ (l : List EventValue). ∥ StandsFor node (replayed (config_value node.config) k.opened_at l) ∥₁)
    (sym (journal_grows k.journal.items c.args.event grown c.push_reserved.ensures.items))
    (stands_more (config_value k.node.config) (config_value node.config) k.opened_at (map event_value k.journal.items) e k.node node same k.stands c.step-change.ensures.stands)

pub invariant_of-self-2-clause-shown : goal.invariant_of-self-2-clause-shown
invariant_of-self-2-clause-shown g c =
    let k = c.args.self.now in
    let e : EventValue = event_value c.args.event in
    let opening : Machine = opened (config_value k.node.config) k.opened_at in
    let journal : List EventValue = map event_value k.journal.items in
    let node : Node = c.step-change.new.self in
    let same : config_value node.config ≡ config_value k.node.config = config_stays k.node node (machine_after opening journal) e k.stands c.step-change.ensures.stands c.moments_never_fall.ensures.config in
    let grown : List Event = c.push_reserved.new.self.items in
    shown_as (config_value k.node.config) (config_value node.config) k.opened_at journal (map event_value grown) e _ _ _ same (journal_grows k.journal.items c.args.event grown c.push_reserved.ensures.items)
    (shown_more opening journal e k.node node c.step-change.result c.state-state.result _ _ _ _ _ _
    k.stands c.step-change.ensures.stands c.step-change.ensures.change c.state-state.ensures.value c.state-state.ensures.tidy c.show.ensures.peers c.show.ensures.session
    c.show.ensures.published c.show.ensures.app_rows c.show.ensures.audio_rows k.shown)

pub invariant_of-self-2-clause-fitting : goal.invariant_of-self-2-clause-fitting
invariant_of-self-2-clause-fitting g c =
    let k = c.args.self.now in
    let e : EventValue = event_value c.args.event in
    let journal : List EventValue = map event_value k.journal.items in
    let grown : List Event = c.push_reserved.new.self.items in
    fitting_as (gates_of k.node) (gates_of c.step-change.new.self) (journal ++ e ∷ []) (map event_value grown) c.step-change.ensures.gates (journal_grows k.journal.items c.args.event grown c.push_reserved.ensures.items)
    (fitting_more_events (gates_of k.node) (app_of k.node) (audio_of k.node) journal e
    (omega (arith, length-map k.journal.items event_value, k.room.few_events, k.room.most_fits)) k.numbered k.fitting c.requires.event)

pub invariant_of-self-2-clause-numbered : goal.invariant_of-self-2-clause-numbered
invariant_of-self-2-clause-numbered g c =
    let k = c.args.self.now in
    let e : EventValue = event_value c.args.event in
    let grown : List Event = c.push_reserved.new.self.items in
    numbered_more (map event_value k.journal.items) e (audio_of k.node) (audio_of c.step-change.new.self) k.numbered c.step-change.ensures.audio
    ∙ ap (λ (l : List EventValue). last_audio_in 0 l) (sym (journal_grows k.journal.items c.args.event grown c.push_reserved.ensures.items))
