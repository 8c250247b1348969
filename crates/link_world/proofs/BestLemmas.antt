-- The first timeline of greatest beat origin, and who holds which.
use Rattle.std.proofs.Common.{◌≡◌, ◌≤ℤ◌, ◌<ℤ◌, inl, inr, ℤ, List, ◌∷◌, refl, sym, subst, arith}
use Rattle.std.proofs.lemmas.Int.{ints}
use Rattle.std.specs.Prelude.{◌↔◌}
use Rattle.lk_base.specs.declared.timeline.Timeline.{Timeline}
use Rattle.peer_gateway.specs.Happenings.{Has}
use Rattle.session_choice.specs.Best.{IsBest}
use Rattle.link_world.specs.Agreement.{HaveOwnOrigins}
use Rattle.link_world.proofs.Lists.{has_parts, has_right, each}

le_refl : (a : ℤ) → a ≤ℤ a
le_refl a = omega (arith, ints)

lt_le : (a b : ℤ) → a <ℤ b → a ≤ℤ b
lt_le a b p = omega (arith, ints)

pub le_both : (a b : ℤ) → a ≤ℤ b → b ≤ℤ a → a ≡ b
le_both a b p q = omega (arith, ints)

pub best_there : (list : List Timeline) (best : Timeline) → IsBest list best → Has list best
best_there list best is =
    subst (λ (l : List Timeline). Has l best) (sym is.split) (has_right is.before (best ∷ is.after) best (inl refl))

pub best_greatest : (list : List Timeline) (best tl : Timeline) → IsBest list best → Has list tl → tl.beat ≤ℤ best.beat
best_greatest list best tl is there =
    elim (has_parts is.before (best ∷ is.after) tl (subst (λ (l : List Timeline). Has l tl) is.split there)) as (λ _. tl.beat ≤ℤ best.beat) [
      | inl h ↦ lt_le tl.beat best.beat (each (λ (t : Timeline). t.beat <ℤ best.beat) is.before tl is.above h)
      | inr h ↦ elim h as (λ _. tl.beat ≤ℤ best.beat) [
        | inl e ↦ subst (λ (t : Timeline). t.beat ≤ℤ best.beat) e (le_refl best.beat)
        | inr later ↦ each (λ (t : Timeline). t.beat ≤ℤ best.beat) is.after tl is.least later
      ]
    ]

-- of the same timelines with own origins one is the best
pub one_of_same : (list others : List Timeline) (best other : Timeline) → IsBest list best → IsBest others other
    → ((tl : Timeline) → Has list tl ↔ Has others tl) → HaveOwnOrigins (Has list) → best ≡ other
one_of_same list others best other is is_other same own =
    let in_other = (same best).0 (best_there list best is) in
    let in_list = (same other).1 (best_there others other is_other) in
    own best other (best_there list best is) in_list
    (le_both best.beat other.beat (best_greatest others other best is_other in_other) (best_greatest list best other is in_list))
