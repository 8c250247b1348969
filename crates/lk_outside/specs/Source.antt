-- What a read does to the bytes left and to the count of faults.
use Rattle.std.specs.Prelude.{◌≡◌, ℕ, ◌≤◌, List, [], ◌++◌, length, take, drop, Option, Some, None, IfSome}
use Rattle.std.specs.Option.{option_map}
use Rattle.lk_outside.specs.Faults.{Rose}
use Rattle.lk_outside.specs.declared.source.Taken.{Taken}
use Rattle.lk_outside.specs.declared.source.Taken.TheVariants.{Got, End, Failed}

-- where told, these bytes were taken from the front; both tell or neither does
abbrev pub Takes : Option (List ℕ) → List ℕ → Option (List ℕ) → Type 0
Takes before bytes after = before ≡ option_map (λ rest. bytes ++ rest) after

-- Rule: A source that tells its contents is at its end only where nothing is left.
abbrev pub IsAtEnd : Option (List ℕ) → Type 0
IsAtEnd left = IfSome left (λ rest. rest ≡ [])

-- what the answer says of the bytes left, before and after, and of the buffer
abbrev pub Gives : Option (List ℕ) → Option (List ℕ) → List ℕ → Taken → Type 0
Gives before after buf (Got n) = (1 ≤ n) × (n ≤ length buf) × Takes before (take n buf) after
Gives before after buf End = (after ≡ before) × IsAtEnd before
Gives before after buf Failed = after ≡ before

-- where the bytes are told, nothing is written into the buffer but those that were got, at its front
abbrev pub KeepsRest : Option (List ℕ) → List ℕ → List ℕ → Taken → Type 0
KeepsRest None old new taken = Unit {0}
KeepsRest (Some left) old new (Got n) = drop n new ≡ drop n old
KeepsRest (Some left) old new End = new ≡ old
KeepsRest (Some left) old new Failed = new ≡ old

-- a failure is counted, and nothing else is
abbrev pub HasReadCause : ℕ → ℕ → Taken → Type 0
HasReadCause before now (Got n) = now ≡ before
HasReadCause before now End = now ≡ before
HasReadCause before now Failed = Rose before now

-- a fact of the number of bytes that were taken, if some were
abbrev pub IfGot : Taken → (ℕ → Type 0) → Type 0
IfGot (Got n) P = P n
IfGot End P = Unit {0}
IfGot Failed P = Unit {0}
