use Rattle.std.proofs.Common.{refl}
use Rattle.link_clients.proofs.ComingLemmas.{free_seat, let_go}
use Rattle.link_clients.proofs.SeatLemmas.{get_other, get_set}
use Rattle.link_clients.proofs.coming.drop_one.Goals as goal

pub returns-clause-goes : goal.returns-clause-goes
returns-clause-goes g c = λ terms late pass start first was.
    let seats = c.args.hall.now.seats.items in
    let silent = c.requires.silent in
    let_go terms late start _ _ first pass c.args.hall.now _ c.args.seat silent.0 c.free.result c.requires.seat
    c.if-not-shut.ensures.opened c.if-not-shut.ensures.cause refl refl refl silent.1 (get_set seats c.args.seat c.free.result silent.0 silent.1)
    (λ t other. get_other seats c.args.seat t c.free.result other) was silent.2 silent.3 c.if-not-shut.ensures.passed
    (free_seat c.free.result c.free.ensures.flags c.free.ensures.line c.free.ensures.told)
