use Rattle.std.proofs.Common.{◌≡◌, ℕ, ◌<◌, length}
use Rattle.std.specs.Prelude.{slice_index}
use Rattle.std.specs.Mem.Slots.{slots_items}
use Rattle.triple_buffer.specs.Rule.{word_at}
use Rattle.triple_buffer.proofs.triple.settle.copy_row.Given as goal

abbrev pub invariant-loop-i : goal.invariant-loop-i
invariant-loop-i l = (k : ℕ) → k < l.i → slice_index l.row k ≡ slice_index (slots_items l.closed.words) (word_at (length l.initial.row) l.place k)
