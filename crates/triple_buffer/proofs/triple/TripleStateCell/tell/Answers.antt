use Rattle.std.proofs.Common.{arith}
use Rattle.triple_buffer.proofs.NoteSteps.{tells}
use Rattle.triple_buffer.proofs.triple.TripleStateCell.tell.Goals as goal

pub join_seat-requires : goal.join_seat-requires
join_seat-requires g c =
    let wide = c.args.self.now.wide in
    let words = wide.words in
    (c.requires.cell, c.requires.note, c.args.note.rests.bare, omega arith, tells _ _ _ _ _ c.args.reader.now.rests.is c.args.note.rests.is c.args.reader.now.rests.idle)
