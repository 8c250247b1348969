-- What is said of the lines of a text, one after the other.
use Rattle.std.proofs.Common.{◌≡◌, refl, sym, subst, ap, ◌∙◌, arith, ℕ, ◌*◌, ◌≤◌, List, [], ◌∷◌, ◌++◌, length, drop, Option, Result}
use Rattle.std.specs.List.{All, concat}
use Rattle.std.proofs.lemmas.List.{append_assoc, append-nil}
use Rattle.std.proofs.lemmas.List.Elements.{All-head, All-tail, All-same}
use Rattle.std.proofs.lemmas.List.Folds.{concat-append}
use Rattle.hex.proofs.HexLemmas.{decode_of-ok, decode_of-same}
use Rattle.asdp_messages.specs.declared.fault.WireFault.{WireFault}
use Rattle.asdp_messages.specs.Datagram.{AreAllRead, MessageValue, IsReadAs}
use Rattle.link_text.specs.ReadingLine.{reading_line_of}
use Rattle.link_lines.specs.Lines.{lines_of}
use Rattle.link_commands.specs.HexLines.{IsHexLine, IsDecodable, HasLinesWithin}
use Rattle.link_commands.specs.DecodeText.{IsDecodedLine, AreDecodedLines, IsDecodeText, HasOneOutput}
use Rattle.link_commands.specs.Outlet.{HandsOver, HandsPart}
use Rattle.link_commands.proofs.OutletLemmas.{hands_none, hands_both, part_after, part_of_more}
use Rattle.link_commands.proofs.LineLemmas.{lines_end}

-- ---- one line

some_decoded : (law : AreAllRead) (line : List ℕ) (most : ℕ) → IsHexLine line → length line ≤ 2 * most → most ≤ 16_777_216
    → (reading_line : List ℕ) × IsDecodedLine line reading_line
some_decoded law line most (bytes, spelled) short few =
    let ok = decode_of-ok line bytes spelled in
    let reading = law bytes ok.3 (omega (arith, ok.2)) in (
      reading_line_of reading.0,
      record { bytes = bytes; spelled = spelled; reading = reading.0; read = reading.1; said = refl },
    )

-- ---- several lines

all_decoded : (law : AreAllRead) (lines : List (List ℕ)) (most : ℕ) → All IsHexLine lines → All (λ line. length line ≤ 2 * most) lines → most ≤ 16_777_216
    → (reading_lines : List (List ℕ)) × AreDecodedLines lines reading_lines
all_decoded law [] most good short few = ([], tt)
all_decoded law (line ∷ lines) most good short few =
    let first = some_decoded law line most (All-head IsHexLine line lines good) (All-head (λ l. length l ≤ 2 * most) line lines short) few in
    let rest = all_decoded law lines most (All-tail IsHexLine line lines good) (All-tail (λ l. length l ≤ 2 * most) line lines short) few in
    (first.0 ∷ rest.0, (first.1, rest.1))

decoded_both : (lines more reading_lines rest : List (List ℕ)) → AreDecodedLines lines reading_lines → AreDecodedLines more rest
    → AreDecodedLines (lines ++ more) (reading_lines ++ rest)
decoded_both [] more [] rest are others = others
decoded_both [] more (t ∷ reading_lines) rest are others = absurd are
decoded_both (l ∷ lines) more [] rest are others = absurd are
decoded_both (l ∷ lines) more (t ∷ reading_lines) rest are others = (are.0, decoded_both lines more reading_lines rest are.1 others)

-- what holds of all lines holds of the last of them
pub all_back : (P : List ℕ → Type 0) (before rest : List (List ℕ)) → All P (before ++ rest) → All P rest
all_back P [] rest all = all
all_back P (line ∷ before) rest all = all_back P before rest (All-tail P line (before ++ rest) all)

-- the lines before `at` are decoded, and their text is handed over
pub record HasDecoded (text : List ℕ) (at : ℕ) (start : Option (List ℕ)) (kept : List ℕ) (now : Option (List ℕ)) (kept' : List ℕ) : Type 0 where
  pub before : List (List ℕ)
  pub reading_lines : List (List ℕ)
  pub lines : lines_of text ≡ before ++ lines_of (drop at text)
  pub decoded : AreDecodedLines before reading_lines
  pub way : HandsOver (concat reading_lines) start kept now kept'
  pub within : at ≤ length text

pub decoded_none : (text : List ℕ) (start : Option (List ℕ)) (kept : List ℕ) → HasDecoded text 0 start kept start kept
decoded_none text start kept = record {
  before = [];
  reading_lines = [];
  lines = refl;
  decoded = tt;
  way = hands_none start kept;
  within = omega arith;
}

-- the line at `at` is one of the text
pub line_holds : (P : List ℕ → Type 0) (text line : List ℕ) (at : ℕ) (rest : List (List ℕ)) (start : Option (List ℕ)) (kept : List ℕ) (now : Option (List ℕ)) (kept' : List ℕ)
    → HasDecoded text at start kept now kept' → lines_of (drop at text) ≡ line ∷ rest → All P (lines_of text) → P line
line_holds P text line at rest start kept now kept' has lines all =
    let whole : All P (has.before ++ line ∷ rest) = All-same P (has.before ++ line ∷ rest) (lines_of text) (sym (has.lines ∙ ap (λ (ls : List (List ℕ)). has.before ++ ls) lines)) all in
    All-head P line rest (all_back P has.before (line ∷ rest) whole)

concat_push : (reading_lines : List (List ℕ)) (said : List ℕ) → concat (reading_lines ++ said ∷ []) ≡ concat reading_lines ++ said
concat_push reading_lines said = concat-append reading_lines (said ∷ []) ∙ ap (λ (xs : List ℕ). concat reading_lines ++ xs) (append-nil said)

-- the next line is decoded too
pub decoded_more : (text line said : List ℕ) (at next : ℕ) (start : Option (List ℕ)) (kept : List ℕ) (now : Option (List ℕ)) (kept' : List ℕ) (after : Option (List ℕ)) (kept'' : List ℕ)
    → HasDecoded text at start kept now kept'
    → lines_of (drop at text) ≡ line ∷ lines_of (drop next text) → next ≤ length text
    → IsDecodedLine line said → HandsOver said now kept' after kept''
    → HasDecoded text next start kept after kept''
decoded_more text line said at next start kept now kept' after kept'' has lines within decoded over = record {
  before = has.before ++ line ∷ [];
  reading_lines = has.reading_lines ++ said ∷ [];
  lines = has.lines ∙ ap (λ (ls : List (List ℕ)). has.before ++ ls) lines
      ∙ sym (append_assoc has.before (line ∷ []) (lines_of (drop next text)));
  decoded = decoded_both has.before (line ∷ []) has.reading_lines (said ∷ []) has.decoded (decoded, tt);
  way = rw (concat_push has.reading_lines said) (hands_both start now after kept kept' kept'' (concat has.reading_lines) said has.way over);
  within = within;
}

-- the whole text is decoded
pub decoded_whole : (text : List ℕ) (at : ℕ) (start : Option (List ℕ)) (kept : List ℕ) (now : Option (List ℕ)) (kept' : List ℕ)
    → HasDecoded text at start kept now kept' → length text ≤ at
    → (output : List ℕ) × IsDecodeText text output × HandsOver output start kept now kept'
decoded_whole text at start kept now kept' has all =
    let lines : lines_of text ≡ has.before =
    has.lines ∙ ap (λ (ls : List (List ℕ)). has.before ++ ls) (lines_end text at all) ∙ append-nil has.before in (
      concat has.reading_lines,
      record {
        reading_lines = has.reading_lines;
        lines = subst (λ (ls : List (List ℕ)). AreDecodedLines ls has.reading_lines) (sym lines) has.decoded;
        whole = refl;
      },
      has.way,
    )

-- the sink failed at the next line
pub decoded_part : (law : AreAllRead) (text line said : List ℕ) (at next most : ℕ) (start : Option (List ℕ)) (kept : List ℕ) (now : Option (List ℕ)) (kept' : List ℕ) (after : Option (List ℕ))
    → HasDecoded text at start kept now kept'
    → lines_of (drop at text) ≡ line ∷ lines_of (drop next text)
    → IsDecodable text → HasLinesWithin most text → most ≤ 16_777_216
    → IsDecodedLine line said → HandsPart said now kept' after
    → (output : List ℕ) × IsDecodeText text output × HandsPart output start kept after
decoded_part law text line said at next most start kept now kept' after has lines good short few decoded part =
    let more = lines_of (drop next text) in
    let split : lines_of text ≡ has.before ++ line ∷ more = has.lines ∙ ap (λ (ls : List (List ℕ)). has.before ++ ls) lines in
    let good_rest = All-tail IsHexLine line more (all_back IsHexLine has.before (line ∷ more) (All-same IsHexLine (has.before ++ line ∷ more) (lines_of text) (sym split) good)) in
    let short_rest = All-tail (λ l. length l ≤ 2 * most) line more (all_back (λ l. length l ≤ 2 * most) has.before (line ∷ more) (All-same (λ l. length l ≤ 2 * most) (has.before ++ line ∷ more) (lines_of text) (sym split) short)) in
    let rest = all_decoded law more most good_rest short_rest few in
    let here = part_after start now after kept kept' (concat has.reading_lines) said has.way part in
    let longer = part_of_more start after kept (concat has.reading_lines ++ said) (concat rest.0) here in
    let same : concat (has.reading_lines ++ said ∷ rest.0) ≡ (concat has.reading_lines ++ said) ++ concat rest.0 =
    concat-append has.reading_lines (said ∷ rest.0) ∙ sym (append_assoc (concat has.reading_lines) said (concat rest.0)) in (
      concat (has.reading_lines ++ said ∷ rest.0),
      record {
        reading_lines = has.reading_lines ++ said ∷ rest.0;
        lines = subst (λ (ls : List (List ℕ)). AreDecodedLines ls (has.reading_lines ++ said ∷ rest.0)) (sym split)
            (decoded_both has.before (line ∷ more) has.reading_lines (said ∷ rest.0) has.decoded (decoded, rest.1));
        whole = refl;
      },
      rw same longer,
    )

-- ---- one output

abbrev pub IsReadOnce : Type 0
IsReadOnce = (bytes : List ℕ) (a b : Result MessageValue WireFault) → IsReadAs bytes a → IsReadAs bytes b → a ≡ b

one_decoded : (law : IsReadOnce) (line one other : List ℕ) → IsDecodedLine line one → IsDecodedLine line other → one ≡ other
one_decoded law line one other p q =
    let same : p.bytes ≡ q.bytes = decode_of-same line p.bytes q.bytes p.spelled q.spelled in
    let read : IsReadAs q.bytes p.reading = (let P : List ℕ → Type 0 = λ bytes. IsReadAs bytes p.reading in subst P same p.read) in
    p.said ∙ ap reading_line_of (law q.bytes p.reading q.reading read q.read) ∙ sym q.said

lines_once : (law : IsReadOnce) (lines reading_lines others : List (List ℕ)) → AreDecodedLines lines reading_lines → AreDecodedLines lines others → reading_lines ≡ others
lines_once law [] [] [] p q = refl
lines_once law [] [] (o ∷ others) p q = absurd q
lines_once law [] (t ∷ reading_lines) others p q = absurd p
lines_once law (l ∷ lines) [] others p q = absurd p
lines_once law (l ∷ lines) (t ∷ reading_lines) [] p q = absurd q
lines_once law (l ∷ lines) (t ∷ reading_lines) (o ∷ others) p q =
    ap (λ (x : List ℕ). x ∷ reading_lines) (one_decoded law l t o p.0 q.0)
    ∙ ap (λ (xs : List (List ℕ)). o ∷ xs) (lines_once law lines reading_lines others p.1 q.1)

pub one_output : (law : IsReadOnce) → HasOneOutput
one_output law text output other p q =
    p.whole ∙ ap concat (lines_once law (lines_of text) p.reading_lines q.reading_lines p.lines q.lines) ∙ sym q.whole
