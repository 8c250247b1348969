use Rattle.std.proofs.Common.{refl, ◌∙◌, ap}
use Rattle.link_clients.specs.Standing.{sight_of}
use Rattle.link_clients.specs.declared.hall.Hall.{Hall}
use Rattle.link_clients.proofs.PieceLemmas.{answered_amid, if_none, line_read, made_from, read_there, seated_shown, seats_count, stored_moment, without_memory}
use Rattle.link_clients.proofs.piece.answer_line.Goals as goal

pub returns-in_default-clause-taken : goal.returns-in_default-clause-taken
returns-in_default-clause-taken g c = λ start first left was. without_memory _ _ _ _ _ _ _ _ _ _ c.in_default.ensures.refused was

pub returns-clause-taken : goal.returns-clause-taken
returns-clause-taken g c = λ start first left was.
    let at = read_there c.args.hall.now.seats.items _ c.args.seat was.seat c.index.result.now refl was.there c.index.ensures in
    let read = line_read c.args.hall.now c.args.seat was.seat c.index.result.now _ was.amid.front was.there at c.deref.ensures.0 was.amid.line in
    let seats = ap (λ v. v.items) c.note.ensures.stays.0 ∙ ap (λ (h : Hall). h.seats.items) c.put_line.ensures.stays in
    answered_amid _ _ _ _ _ _ _ _ _ _ _ _ c.in-Ok.made c.requires.seat (seats_count c.args.hall.now) was
    (made_from _ c.args.hall.now.last _ _ _ _ c.in-Ok.made (stored_moment c.args.hall.now.last c.args.hall.now.moment) c.in-Ok.ensures.done)
    _ _ _ c.note.new.hall.seats.items c.index_mut.result.now c.settle.new.seat _ _ c.go_on.ensures
    (c.asked_in-asked.ensures.asked _ read) (if_none _ _ (c.asked_in-asked.ensures.reason _ read))
    (c.deref-2.ensures.0 ∙ ap (λ l. l.items) c.note.ensures.stays.2 ∙ c.put_line.ensures.line)
    c.say-said.ensures.passed c.say-said.ensures.opened c.say-said.ensures.cause c.note.ensures.last c.note.ensures.newest
    (ap sight_of c.note.ensures.stays.1 ∙ ap (λ (h : Hall). sight_of h.sighted) c.put_line.ensures.stays) seats
    (read_there c.args.hall.now.seats.items _ c.args.seat was.seat c.index_mut.result.now seats was.there c.index_mut.ensures.value) refl
    c.settle.ensures.line c.settle.ensures.here (seated_shown _ _ _ _ _ _ c.view_of.ensures c.settle.ensures.taken) c.settle.ensures.gone
