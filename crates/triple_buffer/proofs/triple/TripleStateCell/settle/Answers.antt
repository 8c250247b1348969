use Rattle.std.proofs.Common.{◌≡◌, ◌∙◌, ◌<◌, ℕ, length, arith, ap, sym, subst}
use Rattle.std.proofs.lemmas.List.{length-replicate}
use Rattle.std.specs.Prelude.{slice_index, replicate}
use Rattle.std.specs.Mem.Slots.{slots_items}
use Rattle.triple_buffer.specs.Views.{writer_in, reader_in, writer_stepped}
use Rattle.triple_buffer.specs.Rule.{word_at}
use Rattle.triple_buffer.proofs.NoteSteps.{settles}
use Rattle.triple_buffer.proofs.RowLists.{index_of}
use Rattle.triple_buffer.proofs.Endings.{closes, lawful_at_end, place_at_end, last_at_end}
use Rattle.triple_buffer.proofs.triple.TripleStateCell.settle.Goals as goal

pub join_seat-requires : goal.join_seat-requires
join_seat-requires g c =
    let wide = c.args.self.wide in
    let words = wide.words in
    (c.requires.writer, c.requires.reader, c.args.reader.rests.bare, omega arith, settles _ _ _ _ _ c.args.writer.rests.is c.args.reader.rests.is)

pub copy_row-requires : goal.copy_row-requires
copy_row-requires g c =
    let wide = c.args.self.wide in
    let words = wide.words in
    let few = wide.few_words in
    let counts = c.close_with-closed.ensures.counts.0 in
    let long : length (replicate {A = ℕ} g.row.W 0) ≡ g.row.W = length-replicate g.row.W 0 in
    let rests = c.args.reader.rests in
    let closed = closes _ _ _ _ _ (writer_stepped (writer_in c.args.writer.seat.me.0)) (reader_in c.args.reader.seat.me.0) c.close_with-closed.ensures.values.2 (ap (λ m. m.0) c.join_seat.ensures.2) in record {
      table = (omega arith, c.close_with-closed.ensures.values.0);
      width = omega arith;
      place = place_at_end _ _ _ _ _ closed.1 c.word.result c.args.reader.place c.args.reader.number c.newest-last.result.0 c.newest-last.result.1 (index_of _ 0 _ c.word.ensures) (sym rests.place_is) (sym rests.number_is)
          c.newest-last.ensures.fresh c.newest-last.ensures.own;
    }

pub returns-clause-last : goal.returns-clause-last
returns-clause-last g c =
    let wide = c.args.self.wide in
    let rests = c.args.reader.rests in
    let long : length (replicate {A = ℕ} g.row.W 0) ≡ g.row.W = length-replicate g.row.W 0 in
    let copy_long : length c.copy_row.new.row ≡ length c.args.self.table.shared.key = c.copy_row.auto.row ∙ (long ∙ sym wide.key) in
    let copied : (i : ℕ) → i < length c.args.self.table.shared.key
    → slice_index c.copy_row.new.row i ≡ slice_index (slots_items c.close_with-closed.result.words) (word_at (length c.args.self.table.shared.key) c.newest-last.result.0 i) =
    subst (λ w. (i : ℕ) → i < w → slice_index c.copy_row.new.row i ≡ slice_index (slots_items c.close_with-closed.result.words) (word_at w c.newest-last.result.0 i)) (long ∙ sym wide.key) c.copy_row.ensures in
    let closed = closes _ _ _ _ _ (writer_stepped (writer_in c.args.writer.seat.me.0)) (reader_in c.args.reader.seat.me.0) c.close_with-closed.ensures.values.2 (ap (λ m. m.0) c.join_seat.ensures.2) in
    last_at_end _ _ _ _ _ closed.1 c.word.result c.args.reader.place c.args.reader.number c.newest-last.result.0 c.newest-last.result.1 (index_of _ 0 _ c.word.ensures) (sym rests.place_is) (sym rests.number_is) c.newest-last.ensures.fresh
    c.newest-last.ensures.own c.copy_row.new.row copy_long copied

pub returns-clause-lawful : goal.returns-clause-lawful
returns-clause-lawful g c =
    let closed = closes _ _ _ _ _ (writer_stepped (writer_in c.args.writer.seat.me.0)) (reader_in c.args.reader.seat.me.0) c.close_with-closed.ensures.values.2 (ap (λ m. m.0) c.join_seat.ensures.2) in
    lawful_at_end _ _ _ _ _ closed.1 c.args.reader.rests.idle
