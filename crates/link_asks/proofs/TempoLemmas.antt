-- Tempos in beats per minute.
use Rattle.std.proofs.Common.{lit≤, IfSome, ◌≡◌, inl, inr, sym, ◌∙◌, ap, subst, arith, ℤ, pos, negsuc, ℕ, zero, suc, ◌+◌, ◌-◌, ◌*◌, ◌/◌, ◌^◌, ◌<◌, ◌≤◌, List, ◌∷◌, ◌++◌, length, Option, Some, None, IfNone}
use Rattle.std.specs.Fmt.{decimal}
use Rattle.std.specs.List.{Contains}
use Rattle.std.specs.Str.Parse.{AllDigits, IsNumeral, digits_value}
use Rattle.std.proofs.Math.Nat.{div-mul-le_self, mul-le-mul_right, pow-le-pow_right}
use Rattle.std.proofs.lemmas.Fmt.{decimal_injective, length-decimal-le}
use Rattle.std.proofs.lemmas.List.{length-append}
use Rattle.std.proofs.lemmas.Int.{ints}
use Rattle.std.proofs.lemmas.Int.Digits.{digits_value-lt}
use Rattle.lk_base.specs.Rounding.{nearest_of, rounded_of}
use Rattle.link_lines.proofs.NumberLemmas.{decimal_lacks}
use Rattle.link_lines.proofs.WordLemmas.{cut_as, not_cut}
use Rattle.link_script.specs.LiveScript.{IsTempo}
use Rattle.link_asks.specs.TempoText.{IsBeatsPerMinute, SaysMillionths}

-- ---- places

pub value_small : (ds : List ℕ) → AllDigits 10 ds → length ds ≤ 6 → digits_value 10 ds < 1_000_000
value_small ds digits few =
    let some : 0 < 10 = omega arith in
    let most : 10 ^ length ds ≤ 10 ^ 6 = pow-le-pow_right some few in
    omega (arith, digits_value-lt 10 ds digits)

-- a number of k digits, with as many noughts as make six digits
product_small : (v k : ℕ) → k ≤ 6 → v < 10 ^ k → v * 10 ^ (6 - k) < 1_000_000
product_small v zero few small = omega arith
product_small v (suc zero) few small = omega arith
product_small v (suc (suc zero)) few small = omega arith
product_small v (suc (suc (suc zero))) few small = omega arith
product_small v (suc (suc (suc (suc zero)))) few small = omega arith
product_small v (suc (suc (suc (suc (suc zero))))) few small = omega arith
product_small v (suc (suc (suc (suc (suc (suc zero)))))) few small = omega arith
product_small v (suc (suc (suc (suc (suc (suc (suc k))))))) few small = absurd (omega arith)

pub parts_small : (ds : List ℕ) → AllDigits 10 ds → length ds ≤ 6 → digits_value 10 ds * 10 ^ (6 - length ds) < 1_000_000
parts_small ds digits few = product_small (digits_value 10 ds) (length ds) few (digits_value-lt 10 ds digits)

pub parts_some : (ds : List ℕ) (v w : ℕ) → 0 < length ds → length ds ≤ 6 → AllDigits 10 ds → digits_value 10 ds ≡ v → w ≡ 10 ^ (6 - length ds)
    → IsNumeral 10 ds × (length ds ≤ 6) × (v * w ≡ digits_value 10 ds * 10 ^ (6 - length ds)) × (v * w < 1_000_000)
parts_some ds v w some few digits value weight =
    let same : v * w ≡ digits_value 10 ds * 10 ^ (6 - length ds) = cc (value, weight) in
    ((some, digits), few, same, rw same (parts_small ds digits few))

-- ---- millionths

no_whole : (most : ℕ) (word : List ℕ) (n : ℕ) → (Contains word 46 → ⊥) → ((whole : ℕ) → whole ≤ most → word ≡ decimal whole → ⊥)
    → n < (most + 1) * 1_000_000 → SaysMillionths word n → ⊥
no_whole most word n lacks none small (inl (whole, is, value)) = none whole (omega arith) is
no_whole most word n lacks none small (inr (whole, places, is, numeral, few, value)) = not_cut word (decimal whole) places 46 lacks is

-- a word without a point says whole numbers alone
pub whole_only : (most : ℕ) (word : List ℕ) (r : Option ℕ) → (Contains word 46 → ⊥) → IfNone r ((whole : ℕ) → whole ≤ most → word ≡ decimal whole → ⊥)
    → IfNone r ((n : ℕ) → n < (most + 1) * 1_000_000 → SaysMillionths word n → ⊥)
whole_only most word (Some r) lacks none = tt
whole_only most word None lacks none = λ n small says. no_whole most word n lacks none small says

-- what a word with a point says
pub cut_says : (most : ℕ) (word a b : List ℕ) (n : ℕ) → most ≤ 1_000_000 → word ≡ a ++ 46 ∷ b → (Contains a 46 → ⊥) → n < (most + 1) * 1_000_000 → SaysMillionths word n
    → (whole : ℕ) × (whole ≤ most) × (a ≡ decimal whole) × IsNumeral 10 b × (length b ≤ 6) × (n ≡ whole * 1_000_000 + digits_value 10 b * 10 ^ (6 - length b))
cut_says most word a b n few_wholes cut lacks small (inl (whole, is, value)) =
    absurd (not_cut word a b 46 (subst (λ (l : List ℕ). Contains l 46 → ⊥) (sym is) (decimal_lacks whole 46 (omega arith) (inl (omega arith)))) cut)
cut_says most word a b n few_wholes cut lacks small (inr (whole, places, is, numeral, few, value)) =
    let same = cut_as word a (decimal whole) b places 46 cut lacks (decimal_lacks whole 46 (omega arith) (inl (omega arith))) is in
    let places_are : places ≡ b = sym same.1 in (
      whole,
      omega arith,
      same.0,
      subst (IsNumeral 10) places_are numeral,
      subst (λ (l : List ℕ). length l ≤ 6) places_are few,
      subst (λ (l : List ℕ). n ≡ whole * 1_000_000 + digits_value 10 l * 10 ^ (6 - length l)) places_are value,
    )

-- the parts of a word that are no number, or no places, say nothing
pub no_number : (most : ℕ) (word a b : List ℕ) → most ≤ 1_000_000 → word ≡ a ++ 46 ∷ b → (Contains a 46 → ⊥) → ((n : ℕ) → n ≤ most → a ≡ decimal n → ⊥)
    → (n : ℕ) → n < (most + 1) * 1_000_000 → SaysMillionths word n → ⊥
no_number most word a b few_wholes cut lacks none n small says =
    let parts = cut_says most word a b n few_wholes cut lacks small says in
    none parts.0 parts.1 parts.2

pub no_places : (most : ℕ) (word a b : List ℕ) → most ≤ 1_000_000 → word ≡ a ++ 46 ∷ b → (Contains a 46 → ⊥) → (IsNumeral 10 b → length b ≤ 6 → ⊥)
    → (n : ℕ) → n < (most + 1) * 1_000_000 → SaysMillionths word n → ⊥
no_places most word a b few_wholes cut lacks none n small says =
    let parts = cut_says most word a b n few_wholes cut lacks small says in
    none parts.3 parts.4

-- a word says one number
pub millionths_one : (most : ℕ) (word : List ℕ) (m n : ℕ) → most ≤ 1_000_000 → m < (most + 1) * 1_000_000 → n < (most + 1) * 1_000_000 → SaysMillionths word m → SaysMillionths word n → m ≡ n
millionths_one most word m n few_wholes small_m small_n (inl (v, is, value)) (inl (w, same, other)) =
    let e : v ≡ w = decimal_injective v w (omega arith) (omega arith) (sym is ∙ same) in
    omega arith
millionths_one most word m n few_wholes small_m small_n (inl (v, is, value)) (inr (w, places, same, numeral, few, other)) =
    absurd (not_cut (decimal v) (decimal w) places 46 (decimal_lacks v 46 (omega arith) (inl (omega arith))) (sym is ∙ same))
millionths_one most word m n few_wholes small_m small_n (inr (w, places, same, numeral, few, other)) (inl (v, is, value)) =
    absurd (not_cut (decimal v) (decimal w) places 46 (decimal_lacks v 46 (omega arith) (inl (omega arith))) (sym is ∙ same))
millionths_one most word m n few_wholes small_m small_n (inr (v, places, is, numeral, few, value)) (inr (w, others, same, numeral', few', other)) =
    let parts = cut_says most word (decimal v) places n few_wholes is (decimal_lacks v 46 (omega arith) (inl (omega arith))) small_n (inr (w, others, same, numeral', few', other)) in
    let e : v ≡ parts.0 = decimal_injective v parts.0 (omega arith) (omega (arith, parts.1)) parts.2 in
    cc (value, e, parts.5)

pub sole_said : (most : ℕ) (word : List ℕ) (r : Option ℕ) → most ≤ 1_000_000 → IfSome r (λ n. (n < (most + 1) * 1_000_000) × SaysMillionths word n)
    → IfSome r (λ n. (m : ℕ) → m < (most + 1) * 1_000_000 → SaysMillionths word m → m ≡ n)
sole_said most word None few_wholes some = tt
sole_said most word (Some n) few_wholes some = λ m small says. millionths_one most word m n few_wholes small some.0 says some.1

-- ---- tempos

-- what a tempo says is some number below 1,000
pub record IsBelow1000 (n : ℕ) : Type 0 where
  pub some : 0 < n
  pub low : n < 1_000_000_000

quotient : (n q : ℕ) → q ≡ (2 * 60_000_000_000_000 + n) / (2 * n) → 60_060 ≤ q → IsBelow1000 n
quotient zero q is fast = absurd (omega arith)
quotient (suc n) q is fast =
    let most : q * (2 * suc n) ≤ 2 * 60_000_000_000_000 + suc n = rw is (div-mul-le_self _ _) in
    let least : 60_060 * (2 * suc n) ≤ q * (2 * suc n) = mul-le-mul_right (2 * suc n) fast in
    record { some = omega arith; low = omega arith }

pub tempo_range : (mpb : ℤ) (n : ℕ) → IsTempo mpb → mpb ≡ nearest_of (pos 60_000_000_000_000) (pos n) → IsBelow1000 n
unfolding nearest_of rounded_of
tempo_range (pos q) n is same = quotient n q (cc same) (omega (arith, ints, is.fastest))
tempo_range (negsuc q) n is same = absurd (omega (arith, ints, is.fastest))

pub tempo_one : (word : List ℕ) (m n : ℤ) → IsTempo m → IsTempo n → IsBeatsPerMinute word m → IsBeatsPerMinute word n → m ≡ n
tempo_one word m n is_m is_n says_m says_n =
    let below_m = tempo_range m says_m.millionths is_m says_m.mpb_is in
    let below_n = tempo_range n says_n.millionths is_n says_n.mpb_is in
    says_m.mpb_is
    ∙ ap (λ (k : ℕ). nearest_of (pos 60_000_000_000_000) (pos k)) (millionths_one 999 word _ _ (lit≤ tt) below_m.low below_n.low says_m.said says_n.said)
    ∙ sym says_n.mpb_is

-- no tempo where nothing is said, and none but that of what is said
pub no_tempo : (word : List ℕ) → ((n : ℕ) → n < 1_000_000_000 → SaysMillionths word n → ⊥) → (mpb : ℤ) → IsTempo mpb → IsBeatsPerMinute word mpb → ⊥
no_tempo word none mpb is says = none says.millionths (tempo_range mpb says.millionths is says.mpb_is).low says.said

pub tempo_said : (word : List ℕ) (n : ℕ) → n < 1_000_000_000 → SaysMillionths word n → (mpb : ℤ) → IsTempo mpb → IsBeatsPerMinute word mpb
    → (0 < n) × (mpb ≡ nearest_of (pos 60_000_000_000_000) (pos n))
tempo_said word n small said mpb is says =
    let below = tempo_range mpb says.millionths is says.mpb_is in
    let same : says.millionths ≡ n = millionths_one 999 word says.millionths n (lit≤ tt) below.low small says.said said in
    (subst (λ (k : ℕ). 0 < k) same below.some, says.mpb_is ∙ ap (λ (k : ℕ). nearest_of (pos 60_000_000_000_000) (pos k)) same)

-- such a word is short
decimal_short : (n : ℕ) → n ≤ 999 → length (decimal n) ≤ 3
decimal_short n low = omega (arith, length-decimal-le 3 n (omega arith) (omega arith) (omega arith))

says_short : (word : List ℕ) (n : ℕ) → n < 1_000_000_000 → SaysMillionths word n → length word ≤ 10
says_short word n small (inl (whole, is, value)) = omega (arith, ap length is, decimal_short whole (omega arith))
says_short word n small (inr (whole, places, is, numeral, few, value)) =
    omega (arith, ap length is, length-append (decimal whole) (46 ∷ places), decimal_short whole (omega arith))

pub text_short : (word : List ℕ) (mpb : ℤ) → IsTempo mpb → IsBeatsPerMinute word mpb → length word ≤ 10
text_short word mpb is says = says_short word says.millionths (tempo_range mpb says.millionths is says.mpb_is).low says.said
