-- What is seen of a source or a sink.
use Rattle.std.specs.Prelude.{ℕ, List, Option}

-- its contents where it tells them, and its count of failures
pub record Stream : Type 0 where
  pub told : Option (List ℕ)
  pub faults : ℕ
