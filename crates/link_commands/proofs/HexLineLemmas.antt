-- Lines of hex digits: which of them say bytes, and how far a text is checked.
use Rattle.std.proofs.Common.{◌≡◌, ◌⊎◌, inl, inr, sym, subst, ap, ◌∙◌, arith, true, false, Bool, ◌&&◌, ℕ, ◌+◌, ◌-◌, ◌*◌, ◌/◌, ◌%◌, ◌<◌, ◌≤◌, max, List, [], ◌∷◌, ◌++◌, length, take, drop, slice_index, Ok}
use Rattle.std.specs.Bool.{OnTrue, OnFalse}
use Rattle.std.specs.List.{All, AllPass}
use Rattle.std.proofs.lemmas.List.{append_assoc, append-nil, length_push, take_all}
use Rattle.std.proofs.lemmas.List.Elements.{All-more, All-push, All-weaker, All-same, Contains-append_left, Contains-push}
use Rattle.std.proofs.Math.Nat.{le-max_left, le-max_right, max-le, eq-or-lt_of_le}
use Rattle.hex.specs.Hex.{decode_of, is_hex_digit}
use Rattle.hex.proofs.HexLemmas.{decode_of-ok, decode_of-digits}
use Rattle.link_lines.specs.Lines.{lines_of}
use Rattle.link_commands.specs.HexLines.{IsHexLine, IsDecodable, IsBadLine, IsFirstBadLine, HasLineAmong, IsLongestLine}
use Rattle.link_commands.specs.DecodeText.{AreDecodedLines, IsDecodeText}
use Rattle.link_commands.proofs.LineLemmas.{lines_end}

-- a line outside the grammar says no bytes
pub bad_line : (line bytes : List ℕ) → IsBadLine line → decode_of line ≡ Ok bytes → ⊥
bad_line line bytes (inl odd) e =
    let ok = decode_of-ok line bytes e in
    omega (arith, ok.0)
bad_line line bytes (inr (k, within, other)) e =
    let ok = decode_of-ok line bytes e in
    let digit : is_hex_digit (slice_index line k) ≡ true = ok.1 k 0 within in
    differ (sym digit ∙ other)
  where
    differ : true ≡ false → ⊥
    differ h = cc

bad_among : (before : List (List ℕ)) (line : List ℕ) (after reading_lines : List (List ℕ)) → AreDecodedLines (before ++ line ∷ after) reading_lines
    → IsBadLine line → ⊥
bad_among [] line after [] are bad = are
bad_among [] line after (t ∷ reading_lines) are bad = bad_line line are.0.bytes bad are.0.spelled
bad_among (b ∷ before) line after [] are bad = are
bad_among (b ∷ before) line after (t ∷ reading_lines) are bad = bad_among before line after reading_lines are.1 bad

-- a text with a first line at fault has no output
pub bad_and_decoded : (text output : List ℕ) (k : ℕ) → IsFirstBadLine text k → IsDecodeText text output → ⊥
bad_and_decoded text output k first whole =
    bad_among first.before first.line first.after whole.reading_lines
    (subst (λ (lines : List (List ℕ)). AreDecodedLines lines whole.reading_lines) first.split whole.lines) first.bad

-- the first n characters of a line are looked at: all of them are hex digits, or the line is at fault
pub record HasSeen (line : List ℕ) (n : ℕ) (digits : Bool) : Type 0 where
  pub good : OnTrue digits (AllPass is_hex_digit (take n line))
  pub bad : OnFalse digits (IsBadLine line)

-- one character more
pub seen_more : (line : List ℕ) (n : ℕ) (digits digit : Bool) → HasSeen line n digits → n < length line
    → digit ≡ is_hex_digit (slice_index line n) → HasSeen line (n + 1) (digits && digit)
seen_more line n true true seen within is = record {
  good = All-more (λ c. is_hex_digit c ≡ true) line n 0 within seen.good (sym is);
  bad = tt;
}
seen_more line n true false seen within is = record { good = tt; bad = inr (n, within, sym is) }
seen_more line n false digit seen within is = record { good = tt; bad = seen.bad }

-- an even number of hex digits
pub good_line : (line : List ℕ) (n : ℕ) (digits : Bool) → (length line % 2 ≡ 1 → ⊥) → HasSeen line n digits → length line ≤ n
    → OnTrue digits (IsHexLine line)
good_line line n true other seen all =
    decode_of-digits line (omega arith) (All-same (λ c. is_hex_digit c ≡ true) line (take n line) (sym (take_all n line all)) seen.good)
good_line line n false other seen all = tt

even_line : (line : List ℕ) → IsHexLine line → length line % 2 ≡ 0
even_line line (bytes, e) =
    let ok = decode_of-ok line bytes e in
    ok.0

-- the lines before `at` are in the grammar, the longest of them says `longest` bytes, and `number` is the line there
pub record HasChecked (text : List ℕ) (number at longest : ℕ) : Type 0 where
  pub before : List (List ℕ)
  pub lines : lines_of text ≡ before ++ lines_of (drop at text)
  pub good : All IsHexLine before
  pub most : All (λ line. length line ≤ 2 * longest) before
  pub reached : HasLineAmong before longest
  pub numbered : number ≡ length before + 1
  pub further : number ≤ at + 1
  pub within : at ≤ length text
  pub less : longest ≤ length text

-- the longest line of some, or the one behind them
longest_of : (before : List (List ℕ)) (line : List ℕ) (longest longer : ℕ) → HasLineAmong before longest → length line % 2 ≡ 0
    → longer ≡ max longest (length line / 2) → HasLineAmong (before ++ line ∷ []) longer
longest_of before line longest longer reached even greatest =
    let more : longest ≤ longer = rw greatest (le-max_left longest (length line / 2)) in
    let enough : length line / 2 ≤ longer = rw greatest (le-max_right longest (length line / 2)) in
    elim (eq-or-lt_of_le enough) [
      | inl same ↦ inl (line, Contains-push before line, omega (arith, even, same))
      | inr less ↦ kept less (eq-or-lt_of_le more) reached
    ]
  where
    kept : length line / 2 < longer → (longest ≡ longer) ⊎ (longest < longer) → HasLineAmong before longest
        → HasLineAmong (before ++ line ∷ []) longer
    kept less (inl same) (inl (found, among, long)) =
        inl (found, Contains-append_left before (line ∷ []) found among, omega (arith, same, long))
    kept less (inl same) (inr (none, zero)) = absurd (omega (arith, same, zero, less))
    kept less (inr above) found =
        let least : max longest (length line / 2) ≤ longer - 1 = max-le (omega (arith, above)) (omega (arith, less)) in
        absurd (omega (arith, greatest, least, above))

-- a line more
pub checked_more : (text line : List ℕ) (number at next longest longer : ℕ) → HasChecked text number at longest
    → lines_of (drop at text) ≡ line ∷ lines_of (drop next text) → at < next → next ≤ length text → length line ≤ length text
    → IsHexLine line → longer ≡ max longest (length line / 2)
    → HasChecked text (number + 1) next longer
checked_more text line number at next longest longer has lines further within short good greatest =
    let more : longest ≤ longer = rw greatest (le-max_left longest (length line / 2)) in
    let enough : length line / 2 ≤ longer = rw greatest (le-max_right longest (length line / 2)) in
    let less : longer ≤ length text = rw greatest (max-le has.less (omega arith)) in
    record {
      before = has.before ++ line ∷ [];
      lines = has.lines ∙ ap (λ (ls : List (List ℕ)). has.before ++ ls) lines
          ∙ sym (append_assoc has.before (line ∷ []) (lines_of (drop next text)));
      good = All-push IsHexLine has.before line has.good good;
      most = All-push (λ l. length l ≤ 2 * longer) has.before line (All-weaker (λ l. length l ≤ 2 * longest) (λ l. length l ≤ 2 * longer) (λ l h. omega arith) has.before has.most)
          (omega (arith, even_line line good));
      reached = longest_of has.before line longest longer has.reached (even_line line good) greatest;
      numbered = omega (arith, has.numbered, length_push has.before line);
      further = omega (arith, has.further);
      within = within;
      less = less;
    }

-- the whole text
all_lines : (text : List ℕ) (number at longest : ℕ) (has : HasChecked text number at longest) → length text ≤ at → lines_of text ≡ has.before
all_lines text number at longest has all =
    has.lines ∙ ap (λ (ls : List (List ℕ)). has.before ++ ls) (lines_end text at all) ∙ append-nil has.before

pub checked_whole : (text : List ℕ) (number at longest : ℕ) → HasChecked text number at longest → length text ≤ at → IsDecodable text
checked_whole text number at longest has all =
    All-same IsHexLine (lines_of text) has.before (all_lines text number at longest has all) has.good

pub checked_longest : (text : List ℕ) (number at longest : ℕ) → HasChecked text number at longest → length text ≤ at
    → IsLongestLine text longest
checked_longest text number at longest has all =
    let lines = all_lines text number at longest has all in (
      All-same (λ line. length line ≤ 2 * longest) (lines_of text) has.before lines has.most,
      let P : List (List ℕ) → Type 0 = λ ls. HasLineAmong ls longest in subst P (sym lines) has.reached,
    )
