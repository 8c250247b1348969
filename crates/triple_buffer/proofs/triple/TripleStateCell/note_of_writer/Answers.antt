use Rattle.std.proofs.Common.{arith}
use Rattle.triple_buffer.proofs.NoteSteps.{notes_of_writer}
use Rattle.triple_buffer.proofs.triple.TripleStateCell.note_of_writer.Goals as goal

pub split_seat-requires : goal.split_seat-requires
split_seat-requires g c =
    let wide = c.args.self.now.wide in
    let words = wide.words in
    (c.requires, omega arith, notes_of_writer _ _ _ c.args.writer.now.rests.is)
