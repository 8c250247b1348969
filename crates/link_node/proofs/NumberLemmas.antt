-- Numbers of 64 bits, and moments among them.
use Rattle.std.proofs.Common.{arith, ◌≡◌, ◌≤◌, ◌<◌, ◌≤ℤ◌, ◌^◌, ℕ, ℤ, pos, ◌+ℤ◌, w64, to_z, of_z, Option, Some, None, refl, sym, ap, ◌∙◌, subst}
use lib.Signed.{mag}
use Rattle.std.proofs.lemmas.Int.{ints, clamps, to_z-of_z}
use Rattle.std.specs.Int.{int_max}
use Rattle.std.specs.Int.RustNames.{FitsSigned}
use Rattle.std.specs.Option.{ForSome}
use Rattle.std.specs.Prelude.{unwrap_or}
use Rattle.lk_base.specs.Ranges.{IsMoment, IsQuantum, IsWithin}

pub number-back : (z : ℤ) → mag z < 9_223_372_036_854_775_808 → to_z w64 (of_z w64 z) ≡ z
number-back z less = to_z-of_z w64 z (record { sfits = less })

pub moment-fits : (z : ℤ) → IsMoment z → FitsSigned w64 z
moment-fits z inside = grind (arith, ints)

-- what comes back of a moment is it
pub moment-back : (z : ℤ) → IsMoment z → to_z w64 (of_z w64 z) ≡ z
moment-back z inside = to_z-of_z w64 z (moment-fits z inside)

pub greater-is : (a b r : ℤ) → IsMoment a → IsMoment b → r ≡ int_max (to_z w64 (of_z w64 a)) (to_z w64 (of_z w64 b)) → r ≡ int_max a b
greater-is a b r of_a of_b e = simp (moment-back a of_a, moment-back b of_b) at e

pub greater-moment : (a b r : ℤ) → IsMoment a → IsMoment b → r ≡ int_max a b → IsMoment r
greater-moment a b r of_a of_b e = omega (arith, ints, clamps, of_a, of_b, e)

-- and of one that is a little later
pub later-back : (z : ℤ) (n : ℕ) → IsMoment z → n ≤ 250_000 → to_z w64 (of_z w64 (to_z w64 (of_z w64 z) +ℤ pos n)) ≡ z +ℤ pos n
later-back z n inside few = rw (moment-back z inside) (to_z-of_z w64 (z +ℤ pos n) (grind (arith, ints)))

pub within-back : (z : ℤ) → IsWithin (2 ^ 60) z → to_z w64 (of_z w64 z) ≡ z
within-back z inside = to_z-of_z w64 z (grind (arith, ints))

-- a tempo in its range comes back
pub mpb-back : (z : ℤ) → pos 60_060 ≤ℤ z → z ≤ℤ pos 3_000_000 → to_z w64 (of_z w64 z) ≡ z
mpb-back z slow fast = to_z-of_z w64 z (grind (arith, ints))

-- and so does a quantum
pub quantum-back : (z : ℤ) → IsQuantum z → to_z w64 (of_z w64 z) ≡ z
quantum-back z range = to_z-of_z w64 z (grind (arith, ints))

pub given-range : (given : Option ℤ) (held : ℤ) → ForSome given IsQuantum → IsQuantum held → IsQuantum (unwrap_or given held)
given-range None held of_given of_held = of_held
given-range (Some quantum) held of_given of_held = of_given quantum refl

-- the quantum that is given, or else the one held
pub quantum-given : (given : Option ℤ) (held result : ℤ) → ForSome given IsQuantum → IsQuantum held → result ≡ unwrap_or given (to_z w64 (of_z w64 held))
    → IsQuantum (to_z w64 (of_z w64 result)) × (to_z w64 (of_z w64 result) ≡ unwrap_or given held)
quantum-given given held result of_given of_held e =
    let is : result ≡ unwrap_or given held = e ∙ ap (λ (z : ℤ). unwrap_or given z) (quantum-back held of_held) in
    let range : IsQuantum result = subst (λ (z : ℤ). IsQuantum z) (sym is) (given-range given held of_given of_held) in
    let back = quantum-back result range in
    (subst (λ (z : ℤ). IsQuantum z) (sym back) range, back ∙ is)
