-- What waits for the guest in a seat.
use Rattle.std.specs.Prelude.{◌≡◌, ℕ, List, ◌++◌, drop, Option, None, Some}
use Rattle.serve_adapters.specs.declared.telling.Parting.{Parting}
use Rattle.serve_adapters.specs.declared.telling.Parting.TheVariants as parting

-- some of the bytes at the front went out, and the others still wait
pub record SendsOn (before after : List ℕ) : Type 0 where
  pub count : ℕ
  pub rest : after ≡ drop count before

-- Rule: What is said to a client goes out behind all that was said to it before.
-- what isn't told to part has all of it on its way
abbrev pub IsSaidTo : List ℕ → List ℕ → List ℕ → Option Parting → Type 0
IsSaidTo before bytes after None = SendsOn (before ++ bytes) after
IsSaidTo before bytes after (Some (parting.Broke error)) = SendsOn (before ++ bytes) after
IsSaidTo before bytes after (Some parting.Full) = after ≡ before
IsSaidTo before bytes after (Some parting.Left) = ⊥
IsSaidTo before bytes after (Some parting.Shut) = ⊥
