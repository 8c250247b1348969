use Rattle.std.proofs.Common.{sym, subst}
use Rattle.audio_handoff.specs.Cell.{NumbersNeverFall}
use Rattle.link_shared.proofs.DeskLemmas.{rests_as_before, rests_after_read, rests_after_calls}
use Rattle.link_shared.proofs.desk.read_anew.Goals as goal

pub returns-in_err-new-clause-rests : goal.returns-in_err-new-clause-rests
returns-in_err-new-clause-rests g c =
    let kept = c.note_of_reader.ensures.reader in
    rests_after_calls (g.C.StateCell.reading c.args.reader.now) (g.C.StateCell.reading c.tell.new.reader) (g.C.StateCell.reading c.read-read.new.reader) (g.C.StateCell.reading c.note_of_reader.new.reader) _ _
    c.requires.rests c.tell.ensures.seen c.tell.ensures.number c.read-read.ensures.read c.read-read.ensures.number c.read-read.ensures.never_falls.0 kept.seen kept.number

pub returns-clause-rests : goal.returns-clause-rests
returns-clause-rests g c =
    let kept = c.note_of_reader.ensures.reader in
    rests_after_calls (g.C.StateCell.reading c.args.reader.now) (g.C.StateCell.reading c.tell.new.reader) (g.C.StateCell.reading c.read-read.new.reader) (g.C.StateCell.reading c.note_of_reader.new.reader) _ _
    c.requires.rests c.tell.ensures.seen c.tell.ensures.number c.read-read.ensures.read c.read-read.ensures.number c.read-read.ensures.never_falls.0 kept.seen kept.number

pub returns-clause-never_falls : goal.returns-clause-never_falls
returns-clause-never_falls g c =
    let told = rests_as_before (g.C.StateCell.reading c.args.reader.now) (g.C.StateCell.reading c.tell.new.reader) c.requires.rests c.tell.ensures.seen c.tell.ensures.number in
    let read = rests_after_read (g.C.StateCell.reading c.tell.new.reader) (g.C.StateCell.reading c.read-read.new.reader) _ _ told c.read-read.ensures.read c.read-read.ensures.number c.read-read.ensures.never_falls.0 in
    subst NumbersNeverFall (sym c.in_ok-new.ensures.note.2) read.0
