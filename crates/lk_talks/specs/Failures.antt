-- How talks in memory count their calls and their failures.
use Rattle.std.specs.Prelude.{ℕ, ◌+◌, ◌-◌, ◌^◌, min, List, slice_index}

-- one more; a count stays at its type's last value
abbrev pub one_more : ℕ → ℕ
one_more count = min (count + 1) (2 ^ 64 - 1)

-- the number of the next call of a kind
abbrev pub next_call_in : List ℕ → ℕ → ℕ
next_call_in calls kind = one_more (slice_index calls kind)
