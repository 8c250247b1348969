-- What a filter writes: for each pair of the text, in order, the filtered host time of its sample, or why it was refused; and last how
-- many pairs there were, and how many of them were refused.
use Rattle.std.specs.Prelude.{◌≡◌, ◌+◌, ◌⊎◌, ℕ, ℤ, List, [], ◌∷◌, ◌++◌, length, codes, Some, None}
use Rattle.std.specs.List.{concat}
use Rattle.std.specs.Fmt.{decimal, signed_decimal}
use Rattle.link_hostfilter.specs.Fit.{IsFiltered}
use Rattle.link_hostfilter.specs.Kept.{fault_of, last}
use Rattle.link_hostfilter.specs.declared.fault.FilterFault.{FilterFault}
use Rattle.link_hostfilter.specs.declared.fault.FilterFault.TheVariants.{NotLater, TooFar}
use Rattle.link_hostfilter.specs.declared.pair.Pair.{Pair}
use Rattle.link_lines.specs.Line.{line_of}
use Rattle.link_lines.specs.Lines.{lines_of}
use Rattle.link_commands.specs.PairLines.{SayPairs}

-- the line of a filtered host time
unfoldable pub host_line_of : ℤ → List ℕ
host_line_of host = line_of (codes "host" ∷ signed_decimal host ∷ [])

-- the line of a refusal
unfoldable pub refusal_line_of : FilterFault → List ℕ
refusal_line_of (NotLater sample) = line_of (codes "late" ∷ signed_decimal sample ∷ [])
refusal_line_of (TooFar sample host) = line_of (codes "far" ∷ signed_decimal sample ∷ signed_decimal host ∷ [])

-- how many pairs there were, and how many of them were refused
unfoldable pub totals_line_of : ℕ → ℕ → List ℕ
totals_line_of pairs refused = line_of (codes "done" ∷ decimal pairs ∷ decimal refused ∷ [])

-- After those that were accepted a pair is accepted too, and the line tells the filtered host time of the last 512 accepted ones, it
-- among them.
pub record IsAccepted (accepted : List Pair) (pair : Pair) (line : List ℕ) : Type 0 where
  pub taken : fault_of pair (last 512 accepted) ≡ None
  pub host : ℤ
  pub filtered : IsFiltered (last 512 (accepted ++ pair ∷ [])) host
  pub said : line ≡ host_line_of host

-- after those that were accepted a pair is refused, and the line tells why
pub record IsRefused (accepted : List Pair) (pair : Pair) (line : List ℕ) : Type 0 where
  pub fault : FilterFault
  pub refused : fault_of pair (last 512 accepted) ≡ Some fault
  pub said : line ≡ refusal_line_of fault

-- the lines that answer pairs, in order, after those that were accepted, where so many of the pairs are refused
unfoldable pub AreAnswers : List Pair → List Pair → List (List ℕ) → ℕ → Type 0
AreAnswers accepted [] [] refused = refused ≡ 0
AreAnswers accepted (pair ∷ pairs) (line ∷ lines) refused =
    (IsAccepted accepted pair line × AreAnswers (accepted ++ pair ∷ []) pairs lines refused)
    ⊎ (IsRefused accepted pair line × ((others : ℕ) × (refused ≡ others + 1) × AreAnswers accepted pairs lines others))
AreAnswers accepted [] (line ∷ lines) refused = ⊥
AreAnswers accepted (pair ∷ pairs) [] refused = ⊥

-- Rule: `filter` writes for each pair, in order, its filtered host time or why it is refused.
pub record IsFilterText (text output : List ℕ) : Type 0 where
  pub pairs : List Pair
  pub lines : SayPairs (lines_of text) pairs
  pub answers : List (List ℕ)
  pub refused : ℕ
  pub answered : AreAnswers [] pairs answers refused
  pub whole : output ≡ concat answers ++ totals_line_of (length pairs) refused

-- a text has one output at most
abbrev pub HasOneFilterText : Type 0
HasOneFilterText = (text output other : List ℕ) → IsFilterText text output → IsFilterText text other → output ≡ other
