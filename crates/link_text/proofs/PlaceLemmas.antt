-- Places in a text.
use Rattle.std.proofs.Common.{◌≡◌, ◌⊎◌, inl, inr, refl, sym, ◌∙◌, ap, arith, ℕ, ◌+◌, ◌<◌, ◌≤◌, ◌==◌, Bool, true, false, not, List, [], ◌∷◌, ◌++◌, if◌then◌else◌, length, drop, slice_index}
use Rattle.std.proofs.lemmas.List.{append_assoc, length_push, length-append, length-drop, drop_more}
use Rattle.std.proofs.lemmas.Bool.Decides.{nat_tests}
use Rattle.std.proofs.lemmas.List.Elements.{filter-append}
use Rattle.link_lines.specs.Lines.{lines_of, is_passed, counting_in}
use Rattle.link_text.specs.Places.{HasWalked, HasPassed, IsAhead, HasLine, StopsAt, counting_from}
use Rattle.link_text.specs.declared.place.Place.{Place}
use Rattle.link_lines.proofs.LineLemmas.{line_begins, line_empty, lines_end, lines_some}

counts : List ℕ → Bool
counts line = not (is_passed line)

pub counting-append : (xs ys : List (List ℕ)) → counting_in (xs ++ ys) ≡ counting_in xs ++ counting_in ys
counting-append xs ys = filter-append (λ line. not (is_passed line)) xs ys

-- a line that is passed over, and one that counts
one_passed : (line : List ℕ) (t : Bool) → t ≡ true → (rest : List (List ℕ)) → (if not t then line ∷ rest else rest) ≡ rest
one_passed line true is rest = refl
one_passed line false is rest = cc

one_counted : (line : List ℕ) (t : Bool) → t ≡ false → (rest : List (List ℕ)) → (if not t then line ∷ rest else rest) ≡ line ∷ rest
one_counted line false is rest = refl
one_counted line true is rest = cc

pub counting_passed : (line : List ℕ) (rest : List (List ℕ)) → is_passed line ≡ true → counting_in (line ∷ rest) ≡ counting_in rest
counting_passed line rest is = one_passed line (is_passed line) is (counting_in rest)

pub counting_counted : (line : List ℕ) (rest : List (List ℕ)) → is_passed line ≡ false → counting_in (line ∷ rest) ≡ line ∷ counting_in rest
counting_counted line rest is = one_counted line (is_passed line) is (counting_in rest)

pub walked_none : (text : List ℕ) (start : Place) → start.at ≤ length text → start.number ≤ start.at + 1 → HasWalked text start start
walked_none text start within small = record {
  passed = [];
  lines = refl;
  none = refl;
  numbered = omega arith;
  small = small;
  further = omega arith;
  within = within;
}

pub walked_more : (text : List ℕ) (start place next : Place) (line : List ℕ) → HasWalked text start place
    → lines_of (drop place.at text) ≡ line ∷ lines_of (drop next.at text) → is_passed line ≡ true
    → next.number ≡ place.number + 1 → place.at < next.at → next.at ≤ length text → HasWalked text start next
walked_more text start place next line has lines is number further within = record {
  passed = has.passed ++ line ∷ [];
  lines = has.lines ∙ ap (λ (ls : List (List ℕ)). has.passed ++ ls) lines
      ∙ sym (append_assoc has.passed (line ∷ []) (lines_of (drop next.at text)));
  none = counting-append has.passed (line ∷ []) ∙ cc (has.none, counting_passed line [] is);
  numbered = omega (arith, has.numbered, length_push has.passed line, number);
  small = omega (arith, has.small);
  further = omega (arith, has.further);
  within = within;
}

-- ---- by a line's first byte

-- the same lines, from that byte on
from_first : (text line : List ℕ) (at : ℕ) (after : List (List ℕ)) → at < length text → lines_of (drop at text) ≡ line ∷ after
    → lines_of (slice_index text at ∷ drop (at + 1) text) ≡ line ∷ after
from_first text line at after within lines = ap lines_of (sym (drop_more text at 0 within)) ∙ lines

-- a line of which it is the line feed, or a number sign, is passed over
pub passed_first : (text line : List ℕ) (at : ℕ) (after : List (List ℕ)) → at < length text → lines_of (drop at text) ≡ line ∷ after
    → (slice_index text at ≡ 10) ⊎ (slice_index text at ≡ 35) → is_passed line ≡ true
passed_first text line at after within lines (inl feed) =
    ap is_passed (line_empty (slice_index text at) (drop (at + 1) text) line after feed (from_first text line at after within lines))
passed_first text line at after within lines (inr sign) =
    let begins = line_begins (slice_index text at) (drop (at + 1) text) line after (omega (arith, sign)) (from_first text line at after within lines) in
    ap is_passed begins.1 ∙ ap (λ b. b == 35) sign

not_sign : (b : ℕ) → (b ≡ 35 → ⊥) → (b == 35) ≡ false
not_sign b other = grind (arith, nat_tests)

-- one that begins with another byte counts
pub stops_first : (text : List ℕ) (at : ℕ) → at < length text → ((slice_index text at ≡ 10) ⊎ (slice_index text at ≡ 35) → ⊥) → StopsAt text at
stops_first text at within neither = λ line rest lines.
    let begins = line_begins (slice_index text at) (drop (at + 1) text) line rest (λ feed. neither (inl feed)) (from_first text line at rest within lines) in
    ap is_passed begins.1 ∙ not_sign (slice_index text at) (λ sign. neither (inr sign))

pub stops_end : (text : List ℕ) (at : ℕ) → length text ≤ at → StopsAt text at
stops_end text at all = λ line rest same. cc (lines_end text at all, same)

-- the same lines count from both places on
pub counting_same : (text : List ℕ) (start place : Place) → HasWalked text start place
    → counting_from text start.at ≡ counting_from text place.at
counting_same text start place has =
    ap counting_in has.lines ∙ counting-append has.passed (lines_of (drop place.at text)) ∙ cc (has.none)

-- a place behind lines
pub ahead_of : (text : List ℕ) (start place : Place) (before : List (List ℕ)) → lines_of text ≡ before ++ lines_of (drop start.at text)
    → start.number ≡ length before + 1 → HasPassed text start place → IsAhead text place
ahead_of text start place before lines number has = record {
  before = before ++ has.walked.passed;
  lines = lines ∙ ap (λ (ls : List (List ℕ)). before ++ ls) has.walked.lines
      ∙ sym (append_assoc before has.walked.passed (lines_of (drop place.at text)));
  numbered = omega (arith, number, has.walked.numbered, length-append {A = List ℕ} before has.walked.passed);
  small = has.walked.small;
  within = has.walked.within;
  stops = has.stops;
}

pub ahead_next : (text line : List ℕ) (place behind next : Place) → IsAhead text place
    → lines_of (drop place.at text) ≡ line ∷ lines_of (drop behind.at text) → behind.number ≡ place.number + 1
    → HasPassed text behind next → IsAhead text next
ahead_next text line place behind next ahead lines number has =
    ahead_of text behind next (ahead.before ++ line ∷ [])
    (ahead.lines ∙ ap (λ (ls : List (List ℕ)). ahead.before ++ ls) lines ∙ sym (append_assoc ahead.before (line ∷ []) (lines_of (drop behind.at text))))
    (omega (arith, ahead.numbered, length_push ahead.before line, number)) has

pub line_next : (text line : List ℕ) (place behind next : Place) → IsAhead text place
    → lines_of (drop place.at text) ≡ line ∷ lines_of (drop behind.at text) → place.at < behind.at
    → HasPassed text behind next → HasLine text place line next
line_next text line place behind next ahead lines further has =
    let is = ahead.stops line (lines_of (drop behind.at text)) lines in
    record {
      after = lines_of (drop behind.at text);
      lines = lines;
      counts = is;
      counting = ap counting_in lines ∙ counting_counted line (lines_of (drop behind.at text)) is
          ∙ ap (λ (ls : List (List ℕ)). line ∷ ls) (counting_same text behind next has.walked);
      further = omega (arith, has.walked.further);
    }

pub counting_end : (text : List ℕ) (at : ℕ) → length text ≤ at → counting_from text at ≡ []
counting_end text at all = ap counting_in (lines_end text at all)

-- where a text goes on, some line counts
pub counting_some : (text : List ℕ) (place : Place) → IsAhead text place → place.at < length text
    → (line : List ℕ) × (rest : List (List ℕ)) × (counting_from text place.at ≡ line ∷ rest)
counting_some text place ahead some =
    let there = lines_some (drop place.at text) (omega (arith, length-drop place.at text)) in
    (there.0, counting_in there.1, ap counting_in there.2 ∙ counting_counted there.0 there.1 (ahead.stops there.0 there.1 there.2))
