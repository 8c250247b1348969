-- What hours words say.
use Rattle.std.proofs.Common.{◌≡◌, ◌⊎◌, inl, inr, ℕ, ◌*◌, ◌<◌, ℤ, List, [], ◌∷◌, length, get_or, codes, Option, Some, None, sym, ap, subst, ◌∙◌, arith}
use Rattle.link_asks.specs.TempoText.{SaysMillionths}
use Rattle.session_server.specs.Words.{PartValue, SaysHours, parts_with}

same_part : (parts : List PartValue) (given other : PartValue) → parts ≡ given ∷ [] → parts ≡ other ∷ [] → other ≡ given
same_part parts given other one two = ap (λ (l : List PartValue). get_or l 0 given) (sym two ∙ one)

no_part : (parts : List PartValue) (given : PartValue) → parts ≡ given ∷ [] → parts ≡ [] → ⊥
no_part parts given one none = absurd (omega (arith, ap (λ (l : List PartValue). length l) (sym one ∙ none)))

-- a word that says no number, says no hours
pub no_hours : (words : List (List ℕ)) (given : PartValue) → parts_with (codes "--hours") words ≡ given ∷ []
    → ((n : ℕ) → n < 8_761 * 1_000_000 → SaysMillionths given.text n → ⊥) → (lasts : Option ℤ) → SaysHours words lasts → ⊥
no_hours words given one none None says = no_part _ given one says
no_hours words given one none (Some lasts) (other, n, two, said, least, most, is) =
    none n (omega (arith, most)) (subst (λ (part : PartValue). SaysMillionths part.text n) (same_part _ given other one two) said)

-- nor does one whose only number is none of those taken
pub wrong_hours : (words : List (List ℕ)) (given : PartValue) (k : ℕ) → parts_with (codes "--hours") words ≡ given ∷ []
    → ((n : ℕ) → n < 8_761 * 1_000_000 → SaysMillionths given.text n → n ≡ k) → (k ≡ 0) ⊎ (8_760_000_000 < k)
    → (lasts : Option ℤ) → SaysHours words lasts → ⊥
wrong_hours words given k one sole out None says = no_part _ given one says
wrong_hours words given k one sole out (Some lasts) (other, n, two, said, least, most, is) =
    let same : n ≡ k = sole n (omega (arith, most)) (subst (λ (part : PartValue). SaysMillionths part.text n) (same_part _ given other one two) said) in
    elim out [ inl none ↦ omega (arith, same, none, least) | inr over ↦ omega (arith, same, over, most) ]
