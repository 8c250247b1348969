use Rattle.std.proofs.Common.{arith}
use Rattle.triple_buffer.proofs.NoteSteps.{copies_note}
use Rattle.triple_buffer.proofs.triple.TripleStateCell.copy_note.Goals as goal

pub split_seat-requires : goal.split_seat-requires
split_seat-requires g c =
    let wide = c.args.self.now.wide in
    let words = wide.words in
    (c.requires, omega arith, copies_note _ _ _ c.args.note.now.rests.is)
