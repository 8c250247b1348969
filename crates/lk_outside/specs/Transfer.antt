-- What the calls that move a whole text do to the bytes left and to the bytes written.
use Rattle.std.specs.Prelude.{ℕ, ◌+◌, ◌<◌, ◌≤◌, List, length, take, Option}
use Rattle.lk_outside.specs.Source.{Takes, IsAtEnd}
use Rattle.lk_outside.specs.Sink.{Appends}

-- all that was left was taken
pub record ReadsWhole (before : Option (List ℕ)) (bytes : List ℕ) (after : Option (List ℕ)) : Type 0 where
  pub taken : Takes before bytes after
  pub ended : IsAtEnd after

-- more than `limit` bytes were taken, and at most a piece of 65,536 more
pub record TakesOver (limit : ℕ) (before after : Option (List ℕ)) : Type 0 where
  pub bytes : List ℕ
  pub more : limit < length bytes
  pub few : length bytes ≤ limit + 65_536
  pub taken : Takes before bytes after

-- at most so many bytes as the limit were taken
abbrev pub TakesWithin : ℕ → Option (List ℕ) → Option (List ℕ) → Type 0
TakesWithin limit before after = (bytes : List ℕ) × (length bytes ≤ limit) × Takes before bytes after

-- some of the bytes were appended, from the first on
abbrev pub AppendsPrefix : Option (List ℕ) → List ℕ → Option (List ℕ) → Type 0
AppendsPrefix before bytes after = (n : ℕ) × (n ≤ length bytes) × Appends before (take n bytes) after
