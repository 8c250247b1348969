use Rattle.std.proofs.Common.{◌≡◌, ℕ, List, [], ◌∷◌, map, refl, sym, ap, subst, ◌∙◌, append-nil, arith, w64, to_z, of_z}
use Rattle.std.proofs.lemmas.Int.{to_z-of_z}
use Rattle.std.proofs.lemmas.List.{length-map}
use Rattle.crossbeam_queue.specs.Passes.{view as hand_of}
use Rattle.client_state.specs.declared.commit.Commit.{Commit}
use Rattle.link_node.specs.Config.{config_value}
use Rattle.link_node.specs.Event.{EventValue, App, event_value}
use Rattle.link_node.specs.Machine.{Machine}
use Rattle.link_node.specs.Opening.{opened}
use Rattle.link_shared.specs.Keeper.{AreFirstOf}
use Rattle.link_shared.specs.Queue.{Popped, after_pop}
use Rattle.link_shared.specs.declared.queue.Hand.{Hand}
use Rattle.link_shared.specs.declared.queue.Item.{Item}
use Rattle.link_shared.specs.declared.queue.Item.TheVariants as item
use Rattle.link_shared.proofs.TurnLemmas.{first_after, read_after, one_read, took_commit, took_quit, took_nothing}
use Rattle.link_shared.proofs.hub.Hub.take_item.Goals as goal

popped_as : (before after : Hand) (popped is : Item) → Popped before popped after → popped ≡ is → Popped before is after
popped_as before after popped is told same = subst (λ (x : Item). Popped before x after) same told

first_as : (most events : ℕ) (taken popped popped' : List Commit) → popped' ≡ popped → AreFirstOf most events taken popped → AreFirstOf most events taken popped'
first_as most events taken popped popped' same first = subst (λ (l : List Commit). AreFirstOf most events taken l) (sym same) first

pub invariant_of-self : goal.invariant_of-self
invariant_of-self g c =
    let i = c.self.invariant in
    let k = c.self.inside.keeper in
    let queue = c.pop_item.ensures.queue in
    let offer = c.offer_app-full.ensures in
    let before : Hand = hand_of c.self.inside.pass in
    let after : Hand = hand_of c.pop_item.new.pass in
    let commit : Commit = c.in-Some-Commit.commit in
    let popped : after ≡ after_pop before (item.Commit commit) = (popped_as before after _ (item.Commit commit) c.in-Some-Commit.ensures.popped c.in-Some-Commit.field-0-is).0 in
    let opening : Machine = opened (config_value k.node.config) k.opened_at in
    let e : EventValue = App commit (to_z w64 (of_z w64 c.args.now)) in (
      i.0,
      queue.0 ∙ i.1,
      queue.2 ∙ i.2,
      ap (λ (h : Hand). h.pops) popped ∙ i.3,
      first_after opening _ _ (e ∷ []) k.journal.items c.offer_app-full.new.self.journal.items _ _ _ _ _ offer.offered i.4 offer.opening.1 (ap (λ (h : Hand). h.popped) popped),
      read_after opening _ (e ∷ []) (map event_value k.journal.items) (map event_value c.offer_app-full.new.self.journal.items) _ _ _ _ _ _ offer.offered i.5 (sym (append-nil _)) (one_read _ e tt),
      i.6,
      i.7,
    )

pub invariant_of-self-in-Some-Quit : goal.invariant_of-self-in-Some-Quit
invariant_of-self-in-Some-Quit g c =
    let i = c.self.invariant in
    let queue = c.pop_item.ensures.queue in
    let before : Hand = hand_of c.self.inside.pass in
    let after : Hand = hand_of c.pop_item.new.pass in
    let popped : after ≡ after_pop before item.Quit = (popped_as before after _ item.Quit c.in-Some-Quit.ensures.popped c.in-Some-Quit.field-0-is).0 in
    (i.0, queue.0 ∙ i.1, queue.2 ∙ i.2, ap (λ (h : Hand). h.pops) popped ∙ i.3, first_as _ _ _ _ _ (ap (λ (h : Hand). h.popped) popped) i.4, i.5, i.6, i.7)

pub invariant_of-self-in-None : goal.invariant_of-self-in-None
invariant_of-self-in-None g c =
    let i = c.self.invariant in
    let queue = c.pop_item.ensures.queue in
    let before : Hand = hand_of c.self.inside.pass in
    let after : Hand = hand_of c.pop_item.new.pass in
    let same : after ≡ before = c.in-None.ensures.popped.0 in
    (i.0, queue.0 ∙ i.1, queue.2 ∙ i.2, ap (λ (h : Hand). h.pops) same ∙ i.3, first_as _ _ _ _ _ (ap (λ (h : Hand). h.popped) same) i.4, i.5, i.6, i.7)

pub returns-in-Some-Commit : goal.returns-in-Some-Commit
returns-in-Some-Commit g c =
    let offer = c.offer_app-full.ensures in
    let before : Hand = hand_of c.self.inside.pass in
    let after : Hand = hand_of c.pop_item.new.pass in
    let commit : Commit = c.in-Some-Commit.commit in
    let popped : after ≡ after_pop before (item.Commit commit) = (popped_as before after _ (item.Commit commit) c.in-Some-Commit.ensures.popped c.in-Some-Commit.field-0-is).0 in record {
      taken = took_commit _ _ _ commit _ _ _ _ _ c.self.view_is (to_z-of_z w64 c.args.now c.ranges.now) c.commits_are_counted.ensures.audio
          offer.config.0 offer.opening.0 offer.opening.1 refl refl (ap (λ (h : Hand). h.popped) popped) (ap (λ (h : Hand). h.quits_popped) popped) offer.offered offer.sends;
    }

pub returns-in-Some-Quit : goal.returns-in-Some-Quit
returns-in-Some-Quit g c =
    let k = c.self.inside.keeper in
    let before : Hand = hand_of c.self.inside.pass in
    let after : Hand = hand_of c.pop_item.new.pass in
    let popped : after ≡ after_pop before item.Quit = (popped_as before after _ item.Quit c.in-Some-Quit.ensures.popped c.in-Some-Quit.field-0-is).0 in record {
      taken = took_quit _ _ _ _ _ c.self.view_is (omega (arith, length-map k.journal.items event_value, k.room.few_events)) refl
          (ap (λ (h : Hand). h.popped) popped) (ap (λ (h : Hand). h.quits_popped) popped);
    }

pub returns-in-None : goal.returns-in-None
returns-in-None g c =
    let k = c.self.inside.keeper in
    let before : Hand = hand_of c.self.inside.pass in
    let after : Hand = hand_of c.pop_item.new.pass in
    let same : after ≡ before = c.in-None.ensures.popped.0 in record {
      taken = took_nothing _ _ _ _ _ c.self.view_is (omega (arith, length-map k.journal.items event_value, k.room.few_events)) refl
          (ap (λ (h : Hand). h.popped) same) (ap (λ (h : Hand). h.quits_popped) same);
    }
