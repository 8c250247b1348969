use Rattle.std.proofs.Common.{◌≡◌, Some, List, refl, sym, subst, ◌∙◌, rules, ℤ, w64, SFits}
use Rattle.std.proofs.lemmas.Int.{to_z-of_z}
use Rattle.std.proofs.lemmas.Option.{slice_get_read}
use Rattle.std.specs.List.{slice_get}
use Rattle.link_node.specs.declared.sends.Sending.{Sending}
use Rattle.link_node.specs.Event.{EventValue, Rx}
use Rattle.link_world.specs.Standing.{IsOffered}
use Rattle.link_world.specs.World.{Deliver, Happens, turn_value}
use Rattle.link_world.specs.declared.turn.Turn.{Turn}
use Rattle.link_world.proofs.TurnLemmas.{on_ok, happens_offered, delivered}
use Rattle.link_world.proofs.world.World.take.Goals as goal

pub returns-in-Some-clause-happens : goal.returns-in-Some-clause-happens
returns-in-Some-clause-happens c =
    on_ok _ _ c.offer-in-Deliver.result c.offer-in-Deliver.ensures.offered (λ offered w stands.
    let made = offered w stands in
    let d = c.in-Deliver in
    let fits : SFits w64 d.now = search rules in
    let event : ℤ → EventValue = λ now. Rx d.gate d.from c.copied.result.items now in
    let taken = subst (λ (now : ℤ). IsOffered d.peer (event now) w made.0) (to_z-of_z w64 _ fits) made.1 in
    let looked = c.in-Some.ensures.lookup in
    let there =
    subst (λ (l : List Sending). slice_get l d.index ≡ Some c.in-Some.sending.now) c.deref.ensures.value
    (slice_get_read c.deref.result.now _ d.index c.in-Some.sending.now refl looked.3.0 looked.1) in
    let brought = delivered c.args.self.now.sent.items w.sent d.index d.peer d.gate d.from d.now c.in-Some.sending.now c.copied.result.items stands.sent there (c.copied.ensures.items ∙ c.deref-in-Deliver.ensures.0) in
    (made.0, subst (λ (t : Turn). Happens (turn_value t) w made.0) (sym d.is) (happens_offered (Deliver d.index d.peer d.gate d.from d.now) (event d.now) w made.0 brought taken), made.2))
