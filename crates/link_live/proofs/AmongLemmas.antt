-- Pairs that stand among others, each at a place of its own and in order.
use Rattle.std.proofs.Common.{◌≡◌, refl, ap, inl, inr, ⊎_elim, zero, suc, List, [], ◌∷◌, ◌++◌}
use Rattle.std.specs.List.{AllByRecursion}
use mathlib.Core.Option.{some}
use Rattle.audio_handoff.specs.Cell.{Pair}
use Rattle.link_live.specs.ScriptRun.{AreAmong}
use Rattle.link_live.specs.TakingRun.{IsIn}

-- what comes before them keeps none of them away
pub among_behind : (front all pairs : List Pair) → AreAmong pairs all → AreAmong pairs (front ++ all)
among_behind [] all pairs among = among
among_behind (first ∷ front) all [] among = tt
among_behind (first ∷ front) all (pair ∷ pairs) among = inr (among_behind front all (pair ∷ pairs) among)

pub among_more : (all more pairs further : List Pair) → AreAmong pairs all → AreAmong further more → AreAmong (pairs ++ further) (all ++ more)
among_more [] more [] further among then_among = then_among
among_more [] more (pair ∷ pairs) further among then_among = absurd among
among_more (first ∷ all) more [] further among then_among = among_behind (first ∷ all) more further then_among
among_more (first ∷ all) more (pair ∷ pairs) further among then_among =
    ⊎_elim
    (λ (h : (first ≡ pair) × AreAmong pairs all). inl (h.0, among_more all more pairs further h.1 then_among))
    (λ (h : AreAmong (pair ∷ pairs) all). inr (among_more all more (pair ∷ pairs) further h then_among))
    among

pub last_among : (between : List Pair) (last : Pair) → AreAmong (last ∷ []) (between ++ last ∷ [])
last_among between last = among_behind between (last ∷ []) (last ∷ []) (inl (refl, tt))

-- what is in a list is in it behind one more
in_later : (first : Pair) (all pairs : List Pair) → AllByRecursion (IsIn all) pairs → AllByRecursion (IsIn (first ∷ all)) pairs
in_later first all [] each = tt
in_later first all (pair ∷ pairs) each = ((suc each.0.0, each.0.1), in_later first all pairs each.1)

pub among_in : (all pairs : List Pair) → AreAmong pairs all → AllByRecursion (IsIn all) pairs
among_in all [] among = tt
among_in [] (pair ∷ pairs) among = absurd among
among_in (first ∷ all) (pair ∷ pairs) among =
    ⊎_elim
    (λ (here : (first ≡ pair) × AreAmong pairs all). ((zero, ap (λ (p : Pair). some p) here.0), in_later first all pairs (among_in all pairs here.1)))
    (λ (there : AreAmong (pair ∷ pairs) all). in_later first all (pair ∷ pairs) (among_in all (pair ∷ pairs) there))
    among
