-- Lines of pairs: which of them say one, and how far a text is checked.
use Rattle.std.proofs.Common.{◌≡◌, sym, ap, ◌∙◌, arith, ℕ, ℤ, ◌+◌, ◌<◌, ◌≤◌, Bool, true, false, not, List, [], ◌∷◌, ◌++◌, length, drop, Option, Some, None, IfSome}
use Rattle.std.specs.List.{All}
use Rattle.std.specs.Option.{is_some}
use Rattle.std.proofs.lemmas.List.{append_assoc, append-nil, length_push}
use Rattle.std.proofs.lemmas.List.Elements.{All-push, All-same}
use Rattle.link_lines.specs.Lines.{lines_of}
use Rattle.link_text.specs.PairLine.{IsPairLine}
use Rattle.link_commands.specs.PairLines.{IsSomePair, IsPairText}
use Rattle.link_commands.proofs.LineLemmas.{lines_end}

-- what is read as a pair says one
pub says_some : (line : List ℕ) (r : Option (ℤ × ℤ)) (none : Bool) → IfSome r (λ pair. IsPairLine line pair.0 pair.1)
    → is_some r ≡ not none → none ≡ false → IsSomePair line
says_some line (Some pair) none says is other = (record { sample = pair.0; host = pair.1 }, says)
says_some line None true says is other = cc
says_some line None false says is other = cc

-- the lines before `at` say pairs, and `number` is the line there
pub record HasPairs (text : List ℕ) (number at : ℕ) : Type 0 where
  pub before : List (List ℕ)
  pub lines : lines_of text ≡ before ++ lines_of (drop at text)
  pub good : All IsSomePair before
  pub numbered : number ≡ length before + 1
  pub further : number ≤ at + 1
  pub within : at ≤ length text

-- a line more
pub pairs_more : (text line : List ℕ) (number at next : ℕ) → HasPairs text number at
    → lines_of (drop at text) ≡ line ∷ lines_of (drop next text) → at < next → next ≤ length text
    → IsSomePair line → HasPairs text (number + 1) next
pairs_more text line number at next has lines further within good = record {
  before = has.before ++ line ∷ [];
  lines = has.lines ∙ ap (λ (ls : List (List ℕ)). has.before ++ ls) lines
      ∙ sym (append_assoc has.before (line ∷ []) (lines_of (drop next text)));
  good = All-push IsSomePair has.before line has.good good;
  numbered = omega (arith, has.numbered, length_push has.before line);
  further = omega (arith, has.further);
  within = within;
}

-- the whole text
pub pairs_whole : (text : List ℕ) (number at : ℕ) → HasPairs text number at → length text ≤ at → IsPairText text
pairs_whole text number at has all =
    let lines : lines_of text ≡ has.before =
    has.lines ∙ ap (λ (ls : List (List ℕ)). has.before ++ ls) (lines_end text at all) ∙ append-nil has.before in
    All-same IsSomePair (lines_of text) has.before lines has.good
