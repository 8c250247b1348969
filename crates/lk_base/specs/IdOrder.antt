-- When two ids are the same, and which comes first.
use Rattle.std.specs.Prelude.{ℕ, ◌==◌, ◌&&◌, ◌||◌, nat_eq, nat_lt, Bool, true, false, List, [], ◌∷◌}
use Rattle.std.specs.Ordering.{is_lt, nat_cmp}
use Rattle.std.specs.Cmp.Lexicographic.{slice_cmp}
use lib.Pointwise.{pointwise}
use Rattle.lk_base.specs.declared.ids.NodeId.{NodeId}

-- all eight bytes are the same
abbrev pub same_id : NodeId → NodeId → Bool
same_id a b = pointwise nat_eq a.0 b.0

-- a comes first in the order of byte texts
abbrev pub id_lt : NodeId → NodeId → Bool
id_lt a b = is_lt (slice_cmp nat_cmp a.0 b.0)

-- Rule: Of two ids the lesser is the one with the lesser byte at the first place where they differ.
-- what that order says: the first byte in which they differ is less, or there is none and the first text is shorter
unfoldable pub bytes_lt : List ℕ → List ℕ → Bool
bytes_lt bytes [] = false
bytes_lt [] (b ∷ bytes) = true
bytes_lt (a ∷ bytes) (b ∷ others) = nat_lt a b || ((a == b) && bytes_lt bytes others)
