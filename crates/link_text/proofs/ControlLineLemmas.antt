-- The words of a client's line.
use Rattle.std.proofs.Common.{◌≡◌, refl, sym, ◌∙◌, ap, arith, ℤ, pos, negsuc, ℕ, ◌+◌, ◌*◌, ◌<◌, ◌≤◌, ◌^◌, ◌==◌, false, List, [], ◌∷◌, length, codes, get_or, Option, Some, None, IfSome, IfNone}
use Rattle.std.specs.Fmt.{signed_decimal}
use Rattle.std.specs.Int.Signed.{mag}
use Rattle.std.proofs.lemmas.Int.{ints}
use Rattle.std.proofs.lemmas.Bool.Decides.{nat_tests}
use Rattle.std.proofs.lemmas.Fmt.{length_signed_le}
use Rattle.std.proofs.lemmas.List.{length-append}
use Rattle.lk_base.specs.Ranges.{IsWithinLimit}
use Rattle.link_text.specs.ControlLine.{Asks, IsAsked, IsControlLine, control_words}
use Rattle.link_lines.specs.LineWords.{words_of}
use Rattle.link_script.specs.LiveScript.{IsTempo}
use Rattle.link_lines.specs.Words.{joined}
use Rattle.link_text.specs.declared.control_line.ControlLine.{ControlLine}
use Rattle.link_text.specs.declared.control_line.ControlLine.TheVariants.{Status, Tempo, Play, Stop, Beat, Time}
use Rattle.link_text.proofs.EventLemmas.{Lacks, joined_words, lacks_by_test, signed_lacks, tempo_within, words_joined}
use Rattle.link_text.proofs.EventUniqueLemmas.{signed_one}
use Rattle.link_text.proofs.HeadLemmas.{mag_less}

-- ---- the words of a line

-- a word, and a word and a number
one_word : (word : List ℕ) → Lacks word → words_of (joined (word ∷ [])) ≡ word ∷ []
one_word word lacks = words_joined word [] (lacks, tt)

two_words : (word : List ℕ) (n : ℤ) → Lacks word → IsWithinLimit n → words_of (joined (word ∷ signed_decimal n ∷ [])) ≡ word ∷ signed_decimal n ∷ []
two_words word n lacks within = words_joined word (signed_decimal n ∷ []) (lacks, (signed_lacks n within, tt))

words_are : (asked : ControlLine) → IsControlLine asked → words_of (joined (control_words asked)) ≡ control_words asked
words_are Status is = one_word (codes "status") (lacks_by_test (codes "status") refl)
words_are (Tempo mpb) is = two_words (codes "tempo") mpb (lacks_by_test (codes "tempo") refl) (tempo_within mpb is.fastest is.slowest)
words_are Play is = one_word (codes "play") (lacks_by_test (codes "play") refl)
words_are Stop is = one_word (codes "stop") (lacks_by_test (codes "stop") refl)
words_are (Beat time) is = two_words (codes "beat") time (lacks_by_test (codes "beat") refl) is
words_are (Time beat) is = two_words (codes "time") beat (lacks_by_test (codes "time") refl) is

words_asked : (line : List ℕ) (asked : ControlLine) → Asks line asked → words_of line ≡ control_words asked
words_asked line asked is = ap words_of is.said ∙ words_are asked is.range

pub asked_by_words : (line : List ℕ) (r : Option ControlLine)
    → IfSome r (λ asked. IsControlLine asked × (words_of line ≡ control_words asked))
    → IfNone r ((asked : ControlLine) → IsControlLine asked → words_of line ≡ control_words asked → ⊥) → IsAsked line r
asked_by_words line (Some asked) some none = record { range = some.0; said = sym (joined_words line) ∙ ap joined some.1 }
asked_by_words line None some none = λ asked is. none asked is.range (words_asked line asked is)

-- ---- a line asks for one thing at most

-- what tells the words apart: the second byte and the third of the first one
abbrev kind : List (List ℕ) → ℕ
kind [] = 0
kind (word ∷ words) = get_or word 1 0 * 256 + get_or word 2 0

apart : (a b : ℕ) → (a == b) ≡ false → a ≡ b → ⊥
apart a b test same = grind (arith, nat_tests)

words_one : (asked other : ControlLine) → IsControlLine asked → IsControlLine other → control_words asked ≡ control_words other → asked ≡ other
words_one Status Status is_a is_b same = refl
words_one (Tempo m) (Tempo n) is_a is_b same =
    ap (λ (z : ℤ). Tempo z) (signed_one m n (tempo_within m is_a.fastest is_a.slowest) (tempo_within n is_b.fastest is_b.slowest) (cc same))
words_one Play Play is_a is_b same = refl
words_one Stop Stop is_a is_b same = refl
words_one (Beat m) (Beat n) is_a is_b same = ap (λ (z : ℤ). Beat z) (signed_one m n is_a is_b (cc same))
words_one (Time m) (Time n) is_a is_b same = ap (λ (z : ℤ). Time z) (signed_one m n is_a is_b (cc same))
words_one asked other is_a is_b same =
    absurd (apart (kind (control_words asked)) (kind (control_words other)) refl (ap kind same))

pub asked_one : (line : List ℕ) (asked other : ControlLine) → Asks line asked → Asks line other → asked ≡ other
asked_one line asked other one two =
    words_one asked other one.range two.range (sym (words_asked line asked one) ∙ words_asked line other two)

-- ---- such a line is short

tempo_small : (n : ℤ) → IsTempo n → mag n + 1 < 10 ^ 7
tempo_small (pos n) is = omega (arith, ints, is.slowest)
tempo_small (negsuc n) is = omega (arith, ints, is.fastest)

within_small : (n : ℤ) → IsWithinLimit n → mag n + 1 < 10 ^ 19
within_small (pos n) is = omega arith
within_small (negsuc n) is = omega arith

two_long : (word : List ℕ) (n : ℤ) (k : ℕ) → IsWithinLimit n → mag n + 1 < 10 ^ k
    → length (joined (word ∷ signed_decimal n ∷ [])) ≤ length word + k + 2
two_long word n k within small =
    omega (arith, length-append word (32 ∷ signed_decimal n), length_signed_le k n small (mag_less n within))

words_short : (asked : ControlLine) → IsControlLine asked → length (joined (control_words asked)) ≤ 25
words_short Status is = omega arith
words_short (Tempo mpb) is =
    omega (arith, two_long (codes "tempo") mpb 7 (tempo_within mpb is.fastest is.slowest) (tempo_small mpb is))
words_short Play is = omega arith
words_short Stop is = omega arith
words_short (Beat time) is = omega (arith, two_long (codes "beat") time 19 is (within_small time is))
words_short (Time beat) is = omega (arith, two_long (codes "time") beat 19 is (within_small beat is))

pub asked_short : (line : List ℕ) (asked : ControlLine) → Asks line asked → length line ≤ 25
asked_short line asked is = omega (arith, ap length is.said, words_short asked is.range)

-- a longer one asks for nothing
pub none_asked : (line : List ℕ) → 25 < length line → IsAsked line None
none_asked line long = λ asked is. omega (arith, asked_short line asked is)
