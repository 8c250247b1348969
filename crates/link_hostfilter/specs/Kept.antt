-- Which pairs a filter keeps, and which it refuses.
use Rattle.std.specs.Prelude.{ℕ, ◌-◌, ◌^◌, ◌≤◌, pos, ◌-ℤ◌, ◌<ℤ◌, ◌≤ℤ◌, unsigned_abs, nat_lt, int_lt, int_le, if◌then◌else◌, Bool, false, ◌||◌, List, [], ◌∷◌, ◌++◌, length, drop, Option, Some, None}
use Rattle.lk_base.specs.Ranges.{IsWithinLimit}
use Rattle.link_hostfilter.specs.Fit.{newest_of}
use Rattle.link_hostfilter.specs.declared.pair.Pair.{Pair}
use Rattle.link_hostfilter.specs.declared.fault.FilterFault.{FilterFault}
use Rattle.link_hostfilter.specs.declared.fault.FilterFault.TheVariants.{NotLater, TooFar}

-- the last n of a list
unfoldable pub last : {A : Type 0} → ℕ → List A → List A
last n xs = drop (length xs - n) xs

-- Rule: The filter refuses a pair as far whose sample count or host time is over 2^31 from that of one of the last 511 pairs.
unfoldable pub is_far : Pair → Pair → Bool
is_far new pair =
    int_lt (pos (2 ^ 31)) (new.sample -ℤ pair.sample) || nat_lt (2 ^ 31) (unsigned_abs (new.host -ℤ pair.host))

-- the oldest pair that is too far from a new one
unfoldable pub first_far : Pair → List Pair → Option Pair
first_far new [] = None
first_far new (pair ∷ pairs) = if is_far new pair then Some pair else first_far new pairs

-- the refusal for such a pair
abbrev pub far_fault : Option Pair → Option FilterFault
far_fault None = None
far_fault (Some pair) = Some (TooFar pair.sample pair.host)

-- Rule: The filter refuses a pair as late where its sample count isn't greater than that of the newest pair.
unfoldable pub is_late : Pair → List Pair → Bool
is_late new [] = false
is_late new (pair ∷ pairs) = int_le new.sample (newest_of (pair ∷ pairs)).sample

-- Rule: A pair that isn't later is refused as late, else one that is far from a pair that would stay as far from the oldest such one.
-- Those that would stay are the last 511.
unfoldable pub fault_of : Pair → List Pair → Option FilterFault
fault_of new pairs =
    if is_late new pairs then Some (NotLater (newest_of pairs).sample) else far_fault (first_far new (last 511 pairs))

-- Rule: An accepted pair goes last, and of more than 512 pairs the oldest goes.
unfoldable pub with_new : Pair → List Pair → List Pair
with_new new pairs = last 512 (pairs ++ new ∷ [])

-- how two pairs that are kept lie to one another, the earlier one first
pub record Reaches (earlier later : Pair) : Type 0 where
  pub rises : earlier.sample <ℤ later.sample
  pub near : (later.sample -ℤ earlier.sample) ≤ℤ pos (2 ^ 31)
  pub alike : unsigned_abs (later.host -ℤ earlier.host) ≤ 2 ^ 31

unfoldable pub ReachesAll : Pair → List Pair → Type 0
ReachesAll base [] = Unit {0}
ReachesAll base (pair ∷ pairs) = Reaches base pair × ReachesAll base pairs

-- the samples rise, and any two pairs are within 2^31 of each other in both numbers
unfoldable pub AreNear : List Pair → Type 0
AreNear [] = Unit {0}
AreNear (pair ∷ pairs) = ReachesAll pair pairs × AreNear pairs

-- both numbers are within the limit
unfoldable pub AreWithin : List Pair → Type 0
AreWithin [] = Unit {0}
AreWithin (pair ∷ pairs) = IsWithinLimit pair.sample × IsWithinLimit pair.host × AreWithin pairs

pub record AreKept (pairs : List Pair) : Type 0 where
  pub few : length pairs ≤ 512
  pub near : AreNear pairs
  pub limits : AreWithin pairs
