-- Which of the timelines that a session has taken counts.
use Rattle.std.specs.Prelude.{◌≡◌, ◌<ℤ◌, ◌≤ℤ◌, int_le, Bool, List, ◌∷◌, ◌++◌, unwrap_or}
use Rattle.std.specs.List.{AllByRecursion, find, list_all}
use Rattle.lk_base.specs.declared.timeline.Timeline.{Timeline}

-- the beat origin is at least that of each in the list
abbrev pub is_greatest_in : List Timeline → Timeline → Bool
is_greatest_in list tl = list_all (λ other. int_le other.beat tl.beat) list

-- Rule: Of the timelines that a session has taken the one of greatest beat origin counts, of equal ones the first.
-- the first of these, of a list that isn't empty
unfoldable pub best_of : Timeline → List Timeline → Timeline
best_of first later = unwrap_or (find (is_greatest_in (first ∷ later)) (first ∷ later)) first

-- the same as a relation: those before it have lesser beat origins, those after it no greater ones
pub record IsBest (list : List Timeline) (best : Timeline) : Type 0 where
  pub before : List Timeline
  pub after : List Timeline
  pub split : list ≡ before ++ best ∷ after
  pub above : AllByRecursion (λ tl. tl.beat <ℤ best.beat) before
  pub least : AllByRecursion (λ tl. tl.beat ≤ℤ best.beat) after
