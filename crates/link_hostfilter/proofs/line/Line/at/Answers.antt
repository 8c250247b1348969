use Rattle.std.proofs.Common.{◌≡◌, ℤ, pos, ◌+◌, ◌*◌, ◌^◌, ◌≤◌, ◌+ℤ◌, ◌*ℤ◌, ◌≤ℤ◌, unsigned_abs, FitsSigned, to_z, of_z, w64, ap, ◌∙◌, arith}
use Rattle.std.proofs.lemmas.Int.{ints}
use mir.Syntax.{w128}
use Rattle.lk_base.specs.Rounding.{nearest_of}
use Rattle.link_hostfilter.specs.Fit.{value_at}
use Rattle.link_hostfilter.proofs.NearLemmas.{nearest_of-most}
use Rattle.link_hostfilter.proofs.ReadLemmas.{read, read_short}
use Rattle.link_hostfilter.proofs.line.Line.at.Goals as goal

-- the value without the steps of reading
value : (at_zero rise unit sample risen near : ℤ) → unsigned_abs at_zero ≤ 2 ^ 114 → unsigned_abs rise ≤ 2 ^ 83 → unsigned_abs unit ≤ 2 ^ 83
    → unsigned_abs sample ≤ 2 ^ 31 → unsigned_abs risen ≤ 2 ^ 114 → risen ≡ to_z w128 (of_z w128 rise) *ℤ to_z w64 (of_z w64 sample)
    → near ≡ nearest_of (to_z w128 (of_z w128 (to_z w128 (of_z w128 at_zero) +ℤ to_z w128 (of_z w128 risen)))) (to_z w128 (of_z w128 unit))
    → near ≡ nearest_of (at_zero +ℤ rise *ℤ sample) unit
value at_zero rise unit sample risen near a b c d e f g =
    let rises = simp (read rise (omega arith), read_short sample (omega arith)) at f in
    let sum = simp (read at_zero (omega arith), read risen (omega arith), read (at_zero +ℤ risen) (omega (arith, ints)), read unit (omega arith)) at g in
    sum ∙ ap (λ z. nearest_of (at_zero +ℤ z) unit) rises

small : (n d near : ℤ) → pos 1 ≤ℤ d → near ≡ nearest_of n d → unsigned_abs n ≤ (2 ^ 31 + 2 ^ 36) * unsigned_abs d → unsigned_abs near ≤ 2 ^ 37
small n d near positive e most =
    let high = nearest_of-most n d (2 ^ 31 + 2 ^ 36) (omega (arith, ints)) most in
    let same = ap unsigned_abs e in
    omega arith

fits : (z : ℤ) → unsigned_abs z ≤ 2 ^ 37 → FitsSigned w64 (to_z w128 (of_z w128 z))
fits z h = simp (read z (omega arith)) (omega (arith, ints))

kept : (z : ℤ) → unsigned_abs z ≤ 2 ^ 37 → to_z w64 (of_z w64 (to_z w128 (of_z w128 z))) ≡ z
kept z h = ap (λ y. to_z w64 (of_z w64 y)) (read z (omega arith)) ∙ read_short z (omega arith)

-- what is divided, and by what
sum_kept : (a b : ℤ) → unsigned_abs a ≤ 2 ^ 114 → unsigned_abs b ≤ 2 ^ 114
    → unsigned_abs (to_z w128 (of_z w128 (to_z w128 (of_z w128 a) +ℤ to_z w128 (of_z w128 b)))) ≤ 2 ^ 125
sum_kept a b h k =
    rw (read a (omega arith), read b (omega arith), read (a +ℤ b) (omega (arith, ints))) (omega (arith, ints))

unit_kept : (d : ℤ) → pos 1 ≤ℤ d → d ≤ℤ pos (2 ^ 83)
    → (pos 1 ≤ℤ to_z w128 (of_z w128 d)) × (to_z w128 (of_z w128 d) ≤ℤ pos (2 ^ 100))
unit_kept d positive small = rw (read d (omega (arith, ints))) (positive, omega (arith, ints))

pub near_wide-requires : goal.near_wide-requires
near_wide-requires c =
    let line = c.args.self.now in
    let unit = unit_kept line.unit c.requires.positive c.requires.small in
    record { bounded = sum_kept line.at_zero c.risen.result c.requires.at_zero c.risen.ensures.within; positive = unit.0; small = unit.1 }

pub overflow_cast-result : goal.overflow_cast-result
overflow_cast-result c =
    let line = c.args.self.now in
    let same = value line.at_zero line.rise line.unit c.args.sample c.risen.result c.near_wide.result c.requires.at_zero c.requires.rise
    (omega (arith, ints, c.requires.positive, c.requires.small)) c.requires.sample c.risen.ensures.within c.risen.ensures.value c.near_wide.ensures.value in
    fits c.near_wide.result (small (line.at_zero +ℤ line.rise *ℤ c.args.sample) line.unit c.near_wide.result c.requires.positive same c.requires.near)

pub returns-clause-value : goal.returns-clause-value
unfolding value_at
returns-clause-value c =
    let line = c.args.self.now in
    let same = value line.at_zero line.rise line.unit c.args.sample c.risen.result c.near_wide.result c.requires.at_zero c.requires.rise
    (omega (arith, ints, c.requires.positive, c.requires.small)) c.requires.sample c.risen.ensures.within c.risen.ensures.value c.near_wide.ensures.value in
    kept c.near_wide.result (small (line.at_zero +ℤ line.rise *ℤ c.args.sample) line.unit c.near_wide.result c.requires.positive same c.requires.near) ∙ same

pub returns-clause-within : goal.returns-clause-within
returns-clause-within c =
    let line = c.args.self.now in
    let same = value line.at_zero line.rise line.unit c.args.sample c.risen.result c.near_wide.result c.requires.at_zero c.requires.rise
    (omega (arith, ints, c.requires.positive, c.requires.small)) c.requires.sample c.risen.ensures.within c.risen.ensures.value c.near_wide.ensures.value in
    let most = small (line.at_zero +ℤ line.rise *ℤ c.args.sample) line.unit c.near_wide.result c.requires.positive same c.requires.near in
    let here = ap unsigned_abs (kept c.near_wide.result most) in
    omega arith
