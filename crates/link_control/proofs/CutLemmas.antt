-- The whole lines of bytes that are taken one after another, and what is kept of the line behind them.
use Rattle.std.proofs.Common.{◌≡◌, ◌≢◌, refl, sym, ◌∙◌, ap, subst, arith, ℕ, ◌<◌, ◌≤◌, ◌==◌, if◌then◌else◌, Bool, true, false, List, [], ◌∷◌, ◌++◌, length, take, Option, Some, None, IfSome, append_assoc, append-nil, length-append, length-take}
use Rattle.std.specs.List.{AllByRecursion}
use Rattle.std.proofs.lemmas.Bool.Decides.{nat_tests}
use Rattle.std.proofs.lemmas.List.{take_all, take-append-le}
use Rattle.audio_handoff.specs.Cell.{Grows}
use Rattle.link_text.specs.ControlLine.{AreControlLines, Asks, IsAsked, IsControlLine}
use Rattle.link_text.specs.declared.control_line.ControlLine.{ControlLine}
use Rattle.link_control.specs.Lines.{onto_whole, whole_lines_of}
use Rattle.link_control.specs.ServingNow.{AreCut}

-- ---- a list that begins with another

pub grows_then : {A : Type 0} (xs ys zs : List A) → Grows xs ys → Grows ys zs → Grows xs zs
grows_then {A} xs ys zs first second =
    (first.0 ++ second.0, second.1 ∙ ap (λ (l : List A). l ++ second.0) first.1 ∙ append_assoc xs first.0 second.0)

pub grows_length : {A : Type 0} (xs ys : List A) → Grows xs ys → length xs ≤ length ys
grows_length xs ys grown = omega (arith, ap length grown.1, length-append xs grown.0)

-- ---- the whole lines

not_feed : (b : ℕ) (xs ys : List (List ℕ)) → (b ≡ 10 → ⊥) → (if b == 10 then xs else ys) ≡ ys
not_feed b xs ys other = grind (arith, nat_tests)

-- a line feed ends the line before it
line_ends : (rest more : List ℕ) → AllByRecursion (λ (b : ℕ). b ≢ 10) rest → whole_lines_of (rest ++ 10 ∷ more) ≡ rest ∷ whole_lines_of more
unfolding whole_lines_of
line_ends [] more lacks = refl
line_ends (b ∷ rest) more lacks = not_feed b _ _ lacks.0 ∙ ap (onto_whole b) (line_ends rest more lacks.1)

-- without one there is no whole line
none_ends : (rest : List ℕ) → AllByRecursion (λ (b : ℕ). b ≢ 10) rest → whole_lines_of rest ≡ []
unfolding whole_lines_of
none_ends [] lacks = refl
none_ends (b ∷ rest) lacks = not_feed b _ _ lacks.0 ∙ ap (onto_whole b) (none_ends rest lacks.1)

pub nothing_cut : AreCut [] [] []
nothing_cut = record { goes_on = λ more. refl; lacks = tt }

-- a line feed closes the rest
pub cut_closed : (bytes rest : List ℕ) (lines : List (List ℕ)) → AreCut bytes lines rest → AreCut (bytes ++ 10 ∷ []) (lines ++ rest ∷ []) []
cut_closed bytes rest lines cut = record {
  goes_on = λ more.
      ap whole_lines_of (append_assoc bytes (10 ∷ []) more)
      ∙ cut.goes_on (10 ∷ more)
      ∙ ap (λ (l : List (List ℕ)). lines ++ l) (line_ends rest more cut.lacks)
      ∙ sym (append_assoc lines (rest ∷ []) (whole_lines_of more));
  lacks = tt;
}

lacks_more : (rest : List ℕ) (b : ℕ) → AllByRecursion (λ (x : ℕ). x ≢ 10) rest → (b ≡ 10 → ⊥) → AllByRecursion (λ (x : ℕ). x ≢ 10) (rest ++ b ∷ [])
lacks_more [] b lacks other = (other, tt)
lacks_more (x ∷ rest) b lacks other = (lacks.0, lacks_more rest b lacks.1 other)

-- another byte goes to the rest
pub cut_longer : (bytes rest : List ℕ) (lines : List (List ℕ)) (b : ℕ) → (b ≡ 10 → ⊥) → AreCut bytes lines rest → AreCut (bytes ++ b ∷ []) lines (rest ++ b ∷ [])
cut_longer bytes rest lines b other cut = record {
  goes_on = λ more.
      ap whole_lines_of (append_assoc bytes (b ∷ []) more)
      ∙ cut.goes_on (b ∷ more)
      ∙ ap (λ (l : List ℕ). lines ++ whole_lines_of l) (sym (append_assoc rest (b ∷ []) more));
  lacks = lacks_more rest b cut.lacks other;
}

-- the lines of the bytes as they are
pub lines_cut : (bytes rest : List ℕ) (lines : List (List ℕ)) → AreCut bytes lines rest → whole_lines_of bytes ≡ lines
lines_cut bytes rest lines cut =
    ap whole_lines_of (sym (append-nil bytes))
    ∙ cut.goes_on []
    ∙ ap (λ (l : List ℕ). lines ++ whole_lines_of l) (append-nil rest)
    ∙ ap (λ (l : List (List ℕ)). lines ++ l) (none_ends rest cut.lacks)
    ∙ append-nil lines

-- the lines of longer bytes begin with theirs
pub lines_grow : (bytes more : List ℕ) → Grows (whole_lines_of bytes) (whole_lines_of (bytes ++ more))
unfolding whole_lines_of
lines_grow [] more = (whole_lines_of more, refl)
lines_grow (b ∷ bytes) more = by_test (b == 10) b (whole_lines_of bytes) (whole_lines_of (bytes ++ more)) (lines_grow bytes more)
  where
    onto : (b : ℕ) (xs rest ys : List (List ℕ)) → ys ≡ xs ++ rest → Grows (onto_whole b xs) (onto_whole b ys)
    onto b [] rest ys e = (onto_whole b ys, refl)
    onto b (line ∷ lines) rest ys e = (rest, ap (onto_whole b) e)

    by_test : (t : Bool) (b : ℕ) (xs ys : List (List ℕ)) → Grows xs ys → Grows (if t then [] ∷ xs else onto_whole b xs) (if t then [] ∷ ys else onto_whole b ys)
    by_test true b xs ys grown = (grown.0, ap (λ (l : List (List ℕ)). [] ∷ l) grown.1)
    by_test false b xs ys grown = onto b xs grown.0 ys grown.1

-- ---- what is kept

-- a further byte, where fewer than all that are kept were there
pub kept_more : (most : ℕ) (whole kept : List ℕ) (byte : ℕ) → length kept < most → kept ≡ take most whole → kept ++ byte ∷ [] ≡ take most (whole ++ byte ∷ [])
kept_more most whole kept byte room is =
    let len : length kept ≡ length (take most whole) = ap length is in
    let short : length whole < most = omega (arith, len, length-take most whole) in
    let fits : length (whole ++ byte ∷ []) ≤ most = omega (arith, length-append whole (byte ∷ []), short) in
    ap (λ (l : List ℕ). l ++ byte ∷ []) (is ∙ take_all most whole (omega (arith, short)))
    ∙ sym (take_all most (whole ++ byte ∷ []) fits)

-- and where all were there
pub kept_full : (most : ℕ) (whole kept : List ℕ) (byte : ℕ) → most ≤ length kept → kept ≡ take most whole → kept ≡ take most (whole ++ byte ∷ [])
kept_full most whole kept byte full is =
    let len : length kept ≡ length (take most whole) = ap length is in
    let long : most ≤ length whole = omega (arith, len, length-take most whole) in
    is ∙ sym (take-append-le most whole (byte ∷ []) long)

-- what is kept of a line asks for the same
pub asked_of_kept : AreControlLines → (whole kept : List ℕ) (asked : Option ControlLine) → kept ≡ take 65 whole → IsAsked kept asked → IsAsked whole asked
asked_of_kept laws whole kept None is none = λ asked asks.
    let short = laws.short whole asked asks in
    none asked (subst (λ (l : List ℕ). Asks l asked) (sym (is ∙ take_all 65 whole (omega (arith, short)))) asks)
asked_of_kept laws whole kept (Some asked) is asks =
    let short = laws.short kept asked asks in
    let len : length kept ≡ length (take 65 whole) = ap length is in
    let fits : length whole ≤ 65 = omega (arith, short, len, length-take 65 whole) in
    subst (λ (l : List ℕ). Asks l asked) (is ∙ take_all 65 whole fits) asks

pub asked_range : (line : List ℕ) (asked : Option ControlLine) → IsAsked line asked → IfSome asked IsControlLine
asked_range line None none = tt
asked_range line (Some asked) asks = asks.range
