use Rattle.std.proofs.Common.{◌∙◌, refl}
use Rattle.link_clients.proofs.ComingLemmas.{free_seat, goes_left, goes_said, told_left, told_seat, told_taken}
use Rattle.link_clients.proofs.LookLemmas.{stored_moment}
use Rattle.link_clients.proofs.SeatLemmas.{at_place, get_other, get_set}
use Rattle.link_clients.proofs.telling.tell_one.Goals as goal

pub returns-in-Taken-clause-goes : goal.returns-in-Taken-clause-goes
returns-in-Taken-clause-goes g c = λ terms late pass start first was.
    let seats = c.args.hall.now.seats.items in
    let news = c.requires.news in
    goes_said terms late start _ first pass _ _ c.in-Taken.is
    (told_taken terms late start _ _ first pass c.args.hall.now _ c.args.seat news.seat c.note_told.new.seat c.requires.seat
    c.in-Taken.ensures.opened c.in-Taken.ensures.cause refl refl refl news.there (get_set seats c.args.seat c.note_told.new.seat news.seat news.there)
    (λ t other. get_other seats c.args.seat t c.note_told.new.seat other) was c.args.view c.args.newest.now.number c.args.newest.now c.requires.newest.0 c.requires.newest.1 refl
    news.here news.watching news.differs news.spaced _ (c.deref.ensures.0 ∙ c.put_changed.ensures) c.in-Taken.ensures.passed
    (λ v is. told_seat v news.seat c.note_told.new.seat c.args.view c.args.newest.now c.args.hall.now.last c.requires.newest.1
    c.index_mut.result.now (c.index_mut.ensures.value ∙ at_place seats c.args.seat news.seat c.index_mut.result.now news.there) c.note_told.ensures.told.0 (c.note_told.ensures.told.1 ∙ stored_moment _ c.args.hall.now.moment) c.note_told.ensures.stays is))

pub returns-in-Left-clause-goes : goal.returns-in-Left-clause-goes
returns-in-Left-clause-goes g c = λ terms late pass start first was.
    let seats = c.args.hall.now.seats.items in
    let news = c.requires.news in
    goes_left terms late start _ first pass _ _ c.in-Left.is
    (told_left terms late start _ _ first pass c.args.hall.now _ c.args.seat news.seat c.free.result c.requires.seat
    c.in-Left.ensures.opened c.in-Left.ensures.cause refl refl refl news.there (get_set seats c.args.seat c.free.result news.seat news.there)
    (λ t other. get_other seats c.args.seat t c.free.result other) was c.args.view c.args.newest.now.number c.args.newest.now c.requires.newest.0 c.requires.newest.1 refl
    news.here news.watching news.differs news.spaced _ (c.deref.ensures.0 ∙ c.put_changed.ensures) c.in-Left.ensures.passed
    (free_seat c.free.result c.free.ensures.flags c.free.ensures.line c.free.ensures.told))
