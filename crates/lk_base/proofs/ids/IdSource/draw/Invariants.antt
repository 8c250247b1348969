use Rattle.std.proofs.Common.{◌≡◌, ℕ, ◌+◌, ◌%◌, ◌<◌, length, get_or}
use Rattle.lk_base.specs.Ids.{source_after, word_at}
use Rattle.lk_base.proofs.ids.IdSource.draw.Given as goal

abbrev pub invariant-loop-k : goal.invariant-loop-k
invariant-loop-k l = record {
  eight : length l.characters ≡ 8;
  source : l.self ≡ source_after l.k l.initial.self;
  drawn : (j : ℕ) → j < l.k → get_or l.characters j 0 ≡ 33 + word_at j l.initial.self % 94;
}
