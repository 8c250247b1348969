use Rattle.std.proofs.Common.{length}
use Rattle.std.specs.Prelude.{slice_index}
use Rattle.std.specs.Mem.Slots.{slots_items}
use Rattle.triple_buffer.specs.Rule.{word_at}
use Rattle.triple_buffer.proofs.RowLists.{index_of, copied_more}
use Rattle.triple_buffer.proofs.triple.settle.copy_row.Goals as goal

pub loop-i-preserved : goal.loop-i-preserved
loop-i-preserved c =
    copied_more c.loop-i.row c.loop-i.i (length c.args.row.now) c.word.result (λ k. slice_index (slots_items c.args.closed.now.words) (word_at (length c.args.row.now) c.args.place k)) c.loop-i.auto.row c.loop-i-test.true
    (index_of (slots_items c.args.closed.now.words) _ _ c.word.ensures) c.loop-i.invariant
