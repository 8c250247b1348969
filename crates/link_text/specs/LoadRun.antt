-- How far a load has come, as plain data.
use Rattle.std.specs.Prelude.{ℕ}

-- its seed, and how many events were made
pub record LoadRun : Type 0 where
  pub seed : ℕ
  pub made : ℕ
