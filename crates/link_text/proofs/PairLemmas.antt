-- The words of a line of two numbers.
use Rattle.std.proofs.Common.{◌≡◌, sym, ◌∙◌, ap, ℤ, ℕ, List, [], ◌∷◌, Option, Some, None, IfSome, IfNone}
use Rattle.std.specs.Fmt.{signed_decimal}
use Rattle.lk_base.specs.Ranges.{IsWithinLimit}
use Rattle.link_lines.specs.LineWords.{words_of}
use Rattle.link_lines.specs.Words.{joined}
use Rattle.link_text.specs.PairLine.{IsPairLine}
use Rattle.link_text.proofs.EventLemmas.{signed_lacks, words_joined, joined_words}
use Rattle.link_text.proofs.EventUniqueLemmas.{signed_one}

pair_words : (line : List ℕ) (first second : ℤ) → IsPairLine line first second → words_of line ≡ signed_decimal first ∷ signed_decimal second ∷ []
pair_words line first second is =
    ap words_of is.said
    ∙ words_joined (signed_decimal first) (signed_decimal second ∷ []) (signed_lacks first is.first_within, (signed_lacks second is.second_within, tt))

pub some_pair : (line : List ℕ) (r : Option (ℤ × ℤ))
    → IfSome r (λ pair. IsWithinLimit pair.0 × (IsWithinLimit pair.1 × (words_of line ≡ signed_decimal pair.0 ∷ signed_decimal pair.1 ∷ [])))
    → IfSome r (λ pair. IsPairLine line pair.0 pair.1)
some_pair line (Some pair) h = record { first_within = h.0; second_within = h.1.0; said = sym (joined_words line) ∙ ap joined h.1.1 }
some_pair line None h = tt

pub none_pair : (line : List ℕ) (r : Option (ℤ × ℤ))
    → IfNone r ((first second : ℤ) → IsWithinLimit first → IsWithinLimit second → words_of line ≡ signed_decimal first ∷ signed_decimal second ∷ [] → ⊥)
    → IfNone r ((first second : ℤ) → IsPairLine line first second → ⊥)
none_pair line (Some pair) h = tt
none_pair line None h = λ first second is. h first second is.first_within is.second_within (pair_words line first second is)

-- a line says one pair at most
pub pair_one : (line : List ℕ) (first second third fourth : ℤ) → IsPairLine line first second → IsPairLine line third fourth
    → (first ≡ third) × (second ≡ fourth)
pair_one line first second third fourth one other =
    let words = sym (pair_words line first second one) ∙ pair_words line third fourth other in
    let firsts : signed_decimal first ≡ signed_decimal third = cc words in
    let seconds : signed_decimal second ≡ signed_decimal fourth = cc words in
    (signed_one first third one.first_within other.first_within firsts, signed_one second fourth one.second_within other.second_within seconds)
