-- What is kept of the sessions: of each its id and the timeline that counts.
use Rattle.std.specs.Prelude.{◌≡◌, ℤ, List, [], ◌∷◌}
use Rattle.std.specs.List.{AllByRecursion}
use Rattle.lk_base.specs.Timeline.{IsTidy}
use Rattle.session_choice.specs.declared.known.Known.{Known}

pub record Table : Type 0 where
  pub current : Known
  pub offset : ℤ
  pub others : List Known

-- no two have the same key
abbrev pub AreDistinctBy : {A B : Type 0} → (A → B) → List A → Type 0
AreDistinctBy key [] = Unit {0}
AreDistinctBy key (a ∷ rest) = AllByRecursion (λ other. key other ≡ key a → ⊥) rest × AreDistinctBy key rest

abbrev pub AreDistinct : List Known → Type 0
AreDistinct rows = AreDistinctBy (λ known. known.session) rows

abbrev pub HasDistinctIds : Table → Type 0
HasDistinctIds table = AreDistinct (table.current ∷ table.others)

-- each timeline that counts is tidy
pub record HasTidyTimelines (table : Table) : Type 0 where
  pub current : IsTidy table.current.timeline
  pub others : AllByRecursion (λ known. IsTidy known.timeline) table.others
