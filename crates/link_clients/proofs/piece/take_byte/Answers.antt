use Rattle.std.proofs.Common.{refl, sym, ◌∙◌, ap}
use Rattle.link_clients.specs.declared.seat.Seat.{Seat}
use Rattle.link_clients.proofs.PieceLemmas.{byte_kept}
use Rattle.link_clients.proofs.SeatLemmas.{get_other, get_set}
use Rattle.link_clients.proofs.TakenLemmas.{index_is}
use Rattle.link_clients.proofs.piece.take_byte.Goals as goal

pub returns-then-byte-ne10-clause-taken : goal.returns-then-byte-ne10-clause-taken
returns-then-byte-ne10-clause-taken g c = λ start first left was.
    let same = c.index_mut.ensures.value ∙ index_is c.args.hall.now.seats.items c.args.seat was.seat c.index_mut.result.now was.there in
    byte_kept _ _ start _ first _ _ _ _ left _ (record c.index_mut.result.now { line = c.keep.new.line }) was c.if-byte-ne10.true
    (λ whole is. c.keep.ensures whole (ap (λ (x : Seat). x.line.items) same ∙ is))
    (λ seated. record {
      here = seated.here ∙ ap (λ (x : Seat). x.here) (sym same);
      watching = seated.watching ∙ ap (λ (x : Seat). x.watching) (sym same);
      told = seated.told ∙ ap (λ (x : Seat). x.told) (sym same);
      told_at = seated.told_at ∙ ap (λ (x : Seat). x.told_at) (sym same);
      heard_at = seated.heard_at ∙ ap (λ (x : Seat). x.heard_at) (sym same);
    })
    (ap (λ (x : Seat). x.here) same) refl refl refl
    (λ t other. get_other c.args.hall.now.seats.items c.args.seat t _ other) (get_set c.args.hall.now.seats.items c.args.seat _ was.seat was.there)
