-- The spelling of numbers.
use Rattle.std.proofs.Common.{◌≡◌, ◌⊎◌, inl, inr, refl, sym, ◌∙◌, ap, subst, arith, w64, to_z, of_z, SFits, Bool, false, IsTrue, ℤ, pos, negsuc, ◌≤ℤ◌, ℕ, zero, suc, ◌+◌, ◌*◌, ◌^◌, ◌<◌, ◌≤◌, List, [], ◌∷◌, ◌++◌, length, get_or, take}
use Rattle.link_lines.proofs.WordLemmas.{cut_as}
use Rattle.std.specs.Char.{digit_value}
use Rattle.std.specs.Str.Parse.{AllDigits, digits_value}
use Rattle.std.specs.Fmt.{decimal, signed_decimal}
use Rattle.std.proofs.lemmas.List.{get_or_default}
use Rattle.std.proofs.lemmas.Int.{ints, to_z-of_z}
use Rattle.std.specs.List.{Contains}
use Rattle.std.specs.Int.{IsInRange}
use Rattle.lk_base.specs.Ranges.{IsWithin}
use Rattle.std.proofs.lemmas.Int.Digits.{digits_value_more}
use Rattle.std.proofs.lemmas.Str.Parse.{IsNumeralModel, numerals_by_value, tells_digits, digits_value-take-le, not_in_digits}
use Rattle.std.proofs.lemmas.Fmt.{decimal_is_IsNumeral, decimal-digits_value, first_decimal, decimal_digit, decimal_injective}

own : IsNumeralModel (AllDigits 10) (digits_value 10)
own = numerals_by_value (AllDigits 10) tells_digits

-- each digit of digits is one
pub digit_below : (ds : List ℕ) (i : ℕ) → AllDigits 10 ds → i < length ds → digit_value (get_or ds i 0) < 10
digit_below (c ∷ cs) zero h l = h.0
digit_below (c ∷ cs) (suc i) h l = digit_below cs i h.1 (omega arith)
digit_below [] i h l = absurd (omega arith)

-- what the first digits and the next one make is at most what all of them make
pub too_many : (ds : List ℕ) (i value : ℕ) → i < length ds → digits_value 10 (take i ds) ≡ value
    → 2 ^ 64 ≤ value * 10 + digit_value (get_or ds i 0) → 2 ^ 64 ≤ digits_value 10 ds
too_many ds i value l v big =
    omega (arith, digits_value_more 10 ds i l, digits_value-take-le 10 ds (i + 1) (omega arith))

-- digits without a leading zero are what `decimal` writes of their value
pub is_decimal : (ds : List ℕ) (n : ℕ) → n < 2 ^ 64 → 0 < length ds → AllDigits 10 ds
    → digits_value 10 ds ≡ n → (get_or ds 0 0 ≡ 48 → length ds ≡ 1) → ds ≡ decimal n
is_decimal ds n fits some digits value plain =
    sym (ap decimal (sym value) ∙ decimal-digits_value own ds digits some plain (omega arith))

-- what `decimal` writes
pub record IsDecimalOf (ds : List ℕ) (n : ℕ) : Type 0 where
  pub some : 0 < length ds
  pub digits : AllDigits 10 ds
  pub value : digits_value 10 ds ≡ n
  pub plain : get_or ds 0 0 ≡ 48 → length ds ≡ 1

-- `decimal` writes no leading zero
plain_decimal : (n : ℕ) → n < 2 ^ 64 → get_or (decimal n) 0 0 ≡ 48 → length (decimal n) ≡ 1
plain_decimal zero fits zero_first = ap length (decimal_digit 0 (omega arith))
plain_decimal (suc n) fits zero_first = absurd (omega (arith, first_decimal (suc n) (omega arith) fits))

pub decimal_parts : (ds : List ℕ) (n : ℕ) → n < 2 ^ 64 → ds ≡ decimal n → IsDecimalOf ds n
decimal_parts ds n fits e =
    let numeral = decimal_is_IsNumeral n fits in
    let of_decimal : IsDecimalOf (decimal n) n = record {
      some = numeral.0.0;
      digits = numeral.0.1;
      value = numeral.1;
      plain = plain_decimal n fits;
    } in
    subst (λ (xs : List ℕ). IsDecimalOf xs n) (sym e) of_decimal

-- where a first zero and a second digit don't stand together, a first zero stands alone
pub not_padded : (first len : ℕ) (r : Bool) → r ≡ false → ((first ≡ 48) × (1 < len) → IsTrue r) → 0 < len
    → first ≡ 48 → len ≡ 1
not_padded first zero r is_false padded some zero_first = absurd (omega arith)
not_padded first (suc zero) r is_false padded some zero_first = refl
not_padded first (suc (suc n)) r is_false padded some zero_first = cc (padded (zero_first, omega arith))

-- a byte that is no digit doesn't stand in a number
pub decimal_lacks : (n e : ℕ) → n < 2 ^ 64 → (e < 48) ⊎ (57 < e) → Contains (decimal n) e → ⊥
decimal_lacks n e fits other found =
    let digits = (decimal_is_IsNumeral n fits).0.1 in
    let outside : ¬ (IsInRange 48 57 e) = λ within. elim other [ inl low ↦ omega arith | inr high ↦ omega arith ] in
    not_in_digits own (decimal n) e digits outside found.0 found.1
    (get_or_default (decimal n) found.0 0 e found.1 ∙ found.2)

-- a number below the least one is no other
pub amount_low : (ds : List ℕ) (least limit value : ℕ) → ds ≡ decimal value → value < least → value ≤ limit → limit < 2 ^ 63
    → (n : ℤ) → pos least ≤ℤ n → n ≤ℤ pos limit → ds ≡ signed_decimal n → ⊥
amount_low ds least limit value is low within fits (pos n) above below same =
    omega (arith, ints, decimal_injective n value (omega (arith, ints)) (omega arith) (sym same ∙ is))
amount_low ds least limit value is low within fits (negsuc n) above below same = omega (arith, ints)

-- a number before a byte that is no digit is cut in one way
pub number_cut : (bytes rest tail : List ℕ) (n m e : ℕ) → (e < 48) ⊎ (57 < e) → n < 2 ^ 64 → m < 2 ^ 64
    → bytes ≡ decimal n ++ e ∷ rest → bytes ≡ decimal m ++ e ∷ tail → rest ≡ tail
number_cut bytes rest tail n m e other fits_n fits_m is same =
    (cut_as bytes (decimal n) (decimal m) rest tail e is (decimal_lacks n e fits_n other) (decimal_lacks m e fits_m other) same).1

-- an amount is what is stored of it
pub stored : (z : ℤ) (limit : ℕ) → pos 0 ≤ℤ z → z ≤ℤ pos limit → limit < 2 ^ 63 → to_z w64 (of_z w64 z) ≡ z
stored z limit low high fits =
    let within : SFits w64 z = omega (arith, ints) in
    to_z-of_z w64 z within

-- ---- signed numbers

-- a minus sign begins no number from 0 on
minus_first : (n : ℕ) (digits : List ℕ) → n < 2 ^ 64 → 45 ∷ digits ≡ decimal n → ⊥
minus_first n digits fits e = decimal_lacks n 45 fits (inl (omega arith)) (0, within, first)
  where
    within : 0 < length (decimal n)
    within = rw (← e) (omega arith)

    first : get_or (decimal n) 0 45 ≡ 45
    first = rw (← e) refl

-- a minus sign before digits that are no number says none
pub no_minus : (word digits : List ℕ) → word ≡ 45 ∷ digits → ((n : ℕ) → n ≤ 2 ^ 60 → digits ≡ decimal n → ⊥)
    → (n : ℤ) → IsWithin (2 ^ 60) n → word ≡ signed_decimal n → ⊥
no_minus word digits is other (pos n) small same = minus_first n digits (omega arith) (sym is ∙ same)
no_minus word digits is other (negsuc n) small same = other (suc n) (omega arith) (cc (sym is ∙ same))

-- nor does one before 0
pub no_minus_nought : (word digits : List ℕ) (value : ℕ) → word ≡ 45 ∷ digits → digits ≡ decimal value → value ≡ 0
    → (n : ℤ) → IsWithin (2 ^ 60) n → word ≡ signed_decimal n → ⊥
no_minus_nought word digits value is digits_are nought (pos n) small same = minus_first n digits (omega arith) (sym is ∙ same)
no_minus_nought word digits value is digits_are nought (negsuc n) small same =
    let e : digits ≡ decimal (suc n) = cc (sym is ∙ same) in
    let differ = decimal_injective (suc n) value (omega arith) (omega arith) (sym e ∙ digits_are) in
    omega arith
