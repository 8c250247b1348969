use Rattle.std.proofs.Common.{◌∙◌, ap}
use Rattle.link_clients.specs.declared.seat.Seat.{Seat}
use Rattle.link_clients.proofs.ComingLemmas.{not_both}
use Rattle.link_clients.proofs.SeatLemmas.{at_place}
use Rattle.link_clients.proofs.telling.is_news.Goals as goal

pub returns : goal.returns
returns c = λ yes.
    let watches = c.is_watching.ensures c.if-not-is_watching.false in
    record {
      seat = watches.0;
      there = watches.1;
      here = watches.2;
      watching = watches.3;
      differs = λ e. not_both _ c.if-is_told.false (c.is_told.ensures (ap (λ (x : Seat). x.told) (c.index-told.ensures ∙ at_place c.args.hall.now.seats.items c.args.seat watches.0 c.index-told.result.now watches.1) ∙ e));
      spaced = watches.4;
    }
