use Rattle.std.proofs.Common.{◌≡◌, ◌∙◌, refl, sym, subst, List, Some}
use Rattle.std.specs.Prelude.{slice_get}
use Rattle.link_clients.specs.declared.seat.Seat.{Seat}
use Rattle.link_clients.proofs.ComingLemmas.{came, goes_came, newcomer_seat}
use Rattle.link_clients.proofs.LookLemmas.{stored_moment}
use Rattle.link_clients.proofs.SeatLemmas.{at_most_fifteen, get_other, get_set}
use Rattle.link_clients.proofs.coming.admit.Goals as goal

pub returns-in-Came-clause-goes : goal.returns-in-Came-clause-goes
returns-in-Came-clause-goes g c = λ terms late pass start first was.
    let seats = c.args.hall.now.seats.items in
    let found = c.in-Some.ensures in
    let there = subst (λ (l : List Seat). slice_get l c.in-Some.seat ≡ Some found.0) c.deref.ensures.value found.1 in
    goes_came terms late start _ first pass _ _ c.in-Came.is
    (came terms late start _ _ first pass c.args.hall.now _ c.in-Some.seat found.0 c.taken.result
    (at_most_fifteen seats c.in-Some.seat found.0 (sym c.args.hall.now.seats.ok.0 ∙ c.args.hall.now.count) there)
    c.in-Came.ensures.opened c.in-Came.ensures.cause refl refl refl there (get_set seats c.in-Some.seat c.taken.result found.0 there)
    (λ t other. get_other seats c.in-Some.seat t c.taken.result other) was found.2 c.in-Came.ensures.passed
    (newcomer_seat c.args.hall.now.last c.taken.result c.taken.ensures.flags c.taken.ensures.line
    (c.taken.ensures.told.0, c.taken.ensures.told.1, c.taken.ensures.told.2 ∙ stored_moment _ c.args.hall.now.moment)))
