-- The ids that a source gives, by the words of its generator.
use Rattle.std.specs.Prelude.{ℕ, zero, suc, ◌+◌, ◌%◌, map}
use Rattle.std.specs.List.{range_with_len}
use Rattle.rand_pcg.specs.Lcg.{Lcg}
use Rattle.rand_pcg.specs.Pcg.{pcg32}
use Rattle.lk_base.specs.declared.ids.NodeId.{NodeId}

-- the source after so many words
unfoldable pub source_after : ℕ → Lcg → Lcg
source_after zero source = source
source_after (suc count) source = (pcg32 (source_after count source)).1

-- the k-th of the words to come, from 0
unfoldable pub word_at : ℕ → Lcg → ℕ
word_at k source = (pcg32 (source_after k source)).0

-- Rule: An id is drawn from eight words of the PCG generator: its k-th character is 33 plus the remainder by 94 of the k-th word.
abbrev pub drawn_id : Lcg → NodeId
drawn_id source = record { 0 = map (λ k. 33 + word_at k source % 94) (range_with_len 0 8) }
