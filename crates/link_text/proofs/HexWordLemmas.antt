-- The word for the bytes of a datagram.
use Rattle.std.proofs.Common.{◌≡◌, refl, sym, ◌∙◌, ap, subst, arith, ℕ, ◌+◌, ◌-◌, ◌*◌, ◌%◌, ◌/◌, ◌<◌, ◌≤◌, true, false, Bool, ◌&&◌, List, [], ◌∷◌, length, take, drop, slice_index, Some, Ok}
use Rattle.std.specs.Bool.{OnTrue, OnFalse}
use Rattle.std.specs.List.{AllPass}
use Rattle.std.specs.Result.{result_unwrap_or}
use Rattle.std.proofs.lemmas.List.{take_all, take_rest}
use Rattle.std.proofs.lemmas.List.Elements.{All-more, All-same}
use Rattle.hex.specs.Hex.{decode_of, hex_digit_value, is_hex_digit, pair_value}
use Rattle.hex.proofs.HexLemmas.{decode_of-ok, decode_of-digits}
use Rattle.link_payload.specs.Entries.{AreBytes}
use Rattle.link_text.specs.HexWord.{IsHexWord, hex_bytes}
use Rattle.link_lines.specs.LineWords.{words_left, words_of}
use Rattle.link_script.specs.ReplayScript.{IsHexOf}
use Rattle.link_lines.specs.Words.{joined}
use Rattle.link_text.proofs.EventLemmas.{hex_lacks, joined_words}
use Rattle.link_lines.proofs.LineWordLemmas.{words_last}

-- ---- digits

-- the first n characters of a word are looked at: all of them are hex digits, or one of the word is none
pub record HasSeen (word : List ℕ) (n : ℕ) (all : Bool) : Type 0 where
  pub good : OnTrue all (AllPass is_hex_digit (take n word))
  pub bad : OnFalse all (AllPass is_hex_digit word → ⊥)

-- one character more
pub seen_more : (word : List ℕ) (n : ℕ) (all digit : Bool) → HasSeen word n all → n < length word
    → digit ≡ is_hex_digit (slice_index word n) → HasSeen word (n + 1) (all && digit)
seen_more word n true true seen within is = record {
  good = All-more (λ c. is_hex_digit c ≡ true) word n 0 within seen.good (sym is);
  bad = tt;
}
seen_more word n true false seen within is = record { good = tt; bad = λ every. differ (sym (every n 0 within) ∙ sym is) }
  where
    differ : true ≡ false → ⊥
    differ h = cc
seen_more word n false digit seen within is = record { good = tt; bad = seen.bad }

pub seen_all : (word : List ℕ) (n : ℕ) (all : Bool) → HasSeen word n all → length word ≤ n → OnTrue all (AllPass is_hex_digit word)
seen_all word n true seen whole = All-same (λ c. is_hex_digit c ≡ true) word (take n word) (sym (take_all n word whole)) seen.good
seen_all word n false seen whole = tt

-- the byte of two digits
pub pair_is : (high low i x y : ℕ) → hex_digit_value high ≡ Some x → hex_digit_value low ≡ Some y → pair_value high low i ≡ Ok (x * 16 + y)
pair_is high low i x y is_x is_y = rw (is_x, is_y) refl

-- ---- words

pub bytes_are : (hex bytes : List ℕ) → decode_of hex ≡ Ok bytes → hex_bytes hex ≡ bytes
unfolding hex_bytes
bytes_are hex bytes e = rw e refl

hyphen_bytes : hex_bytes (45 ∷ []) ≡ []
unfolding hex_bytes
hyphen_bytes = refl

abbrev SaysBytes : List ℕ → List ℕ → Type 0
SaysBytes hex bytes = IsHexOf hex bytes × AreBytes bytes × (length bytes ≤ 513)

pub no_bytes : (hex : List ℕ) → hex ≡ 45 ∷ [] → hex_bytes hex ≡ []
no_bytes hex is = ap hex_bytes is ∙ hyphen_bytes

pub hyphen_word : (hex : List ℕ) → hex ≡ 45 ∷ [] → IsHexWord hex
hyphen_word hex is = subst (SaysBytes hex) (sym (no_bytes hex is)) (is, λ i. omega arith, omega arith)

says_bytes : (hex bytes : List ℕ) → decode_of hex ≡ Ok bytes → 0 < length hex → length hex ≤ 1026 → SaysBytes hex bytes
says_bytes hex [] e some short = absurd (omega (arith, (decode_of-ok hex [] e).2))
says_bytes hex (b ∷ bytes) e some short =
    let ok = decode_of-ok hex (b ∷ bytes) e in
    (e, ok.3, omega (arith, ok.2))

pub digits_word : (hex : List ℕ) → 0 < length hex → length hex ≤ 1026 → length hex % 2 ≡ 0 → AllPass is_hex_digit hex → IsHexWord hex
digits_word hex some short even digits =
    let r = decode_of-digits hex even digits in
    subst (SaysBytes hex) (sym (bytes_are hex r.0 r.1)) (says_bytes hex r.0 r.1 some short)

pub good_word : (hex : List ℕ) (all : Bool) → OnTrue all (AllPass is_hex_digit hex) → 2 ≤ length hex → length hex ≤ 1026 → length hex % 2 ≡ 0
    → OnTrue all (IsHexWord hex)
good_word hex true digits some short even = digits_word hex (omega arith) short even digits
good_word hex false digits some short even = tt

-- a word that isn't a hyphen says bytes where it is so many digits
pub record AreSomeDigits (hex : List ℕ) : Type 0 where
  pub some : 0 < length hex
  pub short : length hex ≤ 1026
  pub even : length hex % 2 ≡ 0
  pub digits : AllPass is_hex_digit hex

pub says_digits : (hex bytes : List ℕ) → length bytes ≤ 513 → IsHexOf hex bytes → (hex ≡ 45 ∷ [] → ⊥) → AreSomeDigits hex
says_digits hex [] short is other = absurd (other is)
says_digits hex (b ∷ bytes) short is other =
    let ok = decode_of-ok hex (b ∷ bytes) is in
    record { some = omega (arith, ok.2); short = omega (arith, ok.2); even = ok.0; digits = ok.1 }

pub bad_word : (hex : List ℕ) (all : Bool) → OnFalse all (AllPass is_hex_digit hex → ⊥) → (hex ≡ 45 ∷ [] → ⊥)
    → OnFalse all ((bytes : List ℕ) → length bytes ≤ 513 → IsHexOf hex bytes → ⊥)
bad_word hex true none other = tt
bad_word hex false none other = λ bytes short is. none (says_digits hex bytes short is other).digits

-- ---- a word that is all that is left

pub words_behind : (left : List ℕ) → 0 < length left → words_left left ≡ words_of (take (length left - 1) (drop 1 left))
words_behind [] some = absurd (omega arith)
words_behind (b ∷ left) some = ap words_of (sym (take_rest (b ∷ left) 1))

pub only_hex : (hex : List ℕ) → IsHexWord hex → words_of hex ≡ hex ∷ []
only_hex hex is = words_last hex (hex_lacks hex (hex_bytes hex) is.0)

pub only_word : (left hex : List ℕ) → words_of left ≡ hex ∷ [] → left ≡ hex
only_word left hex e = sym (joined_words left) ∙ ap joined e
