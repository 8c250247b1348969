-- Text on its way to a sink: some of it is written, its last bytes are kept.
use Rattle.std.specs.Prelude.{◌≡◌, ◌≤◌, ◌⊎◌, ℕ, List, [], Option, ◌++◌, length}
use Rattle.lk_outside.specs.Sink.{Appends}
use Rattle.lk_outside.specs.Transfer.{AppendsPrefix}

-- The text was handed over behind what was kept: of both, the front was written and the rest is kept now. Nothing was written, or
-- many bytes were.
pub record HandsOver (text : List ℕ) (before : Option (List ℕ)) (kept : List ℕ) (after : Option (List ℕ)) (kept' : List ℕ) : Type 0 where
  pub done : List ℕ
  pub appended : Appends before done after
  pub whole : kept ++ text ≡ done ++ kept'
  pub large : (done ≡ []) ⊎ (64_337 ≤ length done)

-- The sink failed while the text was handed over: a prefix of what was kept and the text was written.
abbrev pub HandsPart : List ℕ → Option (List ℕ) → List ℕ → Option (List ℕ) → Type 0
HandsPart text before kept after = AppendsPrefix before (kept ++ text) after
