-- What a write does to the bytes written and to the count of faults.
use Rattle.std.specs.Prelude.{◌≡◌, ℕ, ◌≤◌, List, ◌++◌, length, take, Option}
use Rattle.std.specs.Option.{option_map}
use Rattle.lk_outside.specs.Faults.{Rose}
use Rattle.lk_outside.specs.declared.sink.Put.{Put}
use Rattle.lk_outside.specs.declared.sink.Put.TheVariants.{Took, Failed}

-- Rule: A sink that tells its contents appends the bytes that it takes, and no others.
abbrev pub Appends : Option (List ℕ) → List ℕ → Option (List ℕ) → Type 0
Appends before bytes after = after ≡ option_map (λ old. old ++ bytes) before

-- what the answer says of the bytes written, before and after
abbrev pub Accepts : Option (List ℕ) → Option (List ℕ) → List ℕ → Put → Type 0
Accepts before after bytes (Took n) = (1 ≤ n) × (n ≤ length bytes) × Appends before (take n bytes) after
Accepts before after bytes Failed = after ≡ before

-- a failure is counted, and nothing else is
abbrev pub HasWriteCause : ℕ → ℕ → Put → Type 0
HasWriteCause before now (Took n) = now ≡ before
HasWriteCause before now Failed = Rose before now

-- a fact of the number of bytes that were appended, if some were
abbrev pub IfTook : Put → (ℕ → Type 0) → Type 0
IfTook (Took n) P = P n
IfTook Failed P = Unit {0}
