use Rattle.std.proofs.Common.{rules, refl, ◌∙◌, ap, ℤ, Some, w64}
use Rattle.std.proofs.lemmas.Int.{to_z-of_z}
use Rattle.link_clients.specs.declared.seat.Seat.{Seat}
use Rattle.link_clients.proofs.SeatLemmas.{get_other, get_set}
use Rattle.link_clients.proofs.TakenLemmas.{index_is}
use Rattle.link_clients.proofs.piece.mark_heard.Goals as goal

pub returns : goal.returns
returns c = record {
  marked = λ seat there.
      let same = c.index_mut-place.ensures.value ∙ index_is c.args.hall.now.seats.items c.args.seat seat c.index_mut-place.result.now there in
      get_set c.args.hall.now.seats.items c.args.seat _ seat there
      ∙ ap (λ (z : ℤ). Some (record c.index_mut-place.result.now { heard_at = z; eager = 0 })) (to_z-of_z w64 c.args.hall.now.last (search rules))
      ∙ ap (λ (x : Seat). Some (record x { heard_at = c.args.hall.now.last; eager = 0 })) same;
  others = λ t other. get_other c.args.hall.now.seats.items c.args.seat t _ other;
  last = refl;
  newest = refl;
  sighted = refl;
}
