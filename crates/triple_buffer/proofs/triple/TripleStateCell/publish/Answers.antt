use Rattle.std.proofs.Common.{arith, ◌∙◌}
use Rattle.triple_buffer.specs.Views.{writer_in, after_stores}
use Rattle.triple_buffer.proofs.WriterSteps.{shows}
use Rattle.triple_buffer.proofs.triple.TripleStateCell.publish.Goals as goal

pub swap-found-requires : goal.swap-found-requires
swap-found-requires g c =
    let wide = c.args.self.now.wide in
    let rests = c.args.writer.now.rests in
    let words = wide.words in
    let room = c.requires.room in
    let count = rests.made_is in (
      c.store.ensures.table.0 ∙ c.requires.cell,
      omega arith,
      shows _ _ _ _ _ (after_stores (writer_in c.args.writer.now.seat.me.0) c.args.row.now g.row.W) g.row.W c.args.writer.now.made c.args.writer.now.place wide.key c.store.ensures.stored c.told-row rests.made_is rests.place_is (omega arith) c.pack.ensures,
    )
