-- Words of a command line.
use Rattle.std.proofs.Common.{◌≡◌, ◌≤◌, ◌↔◌, ◌∷◌, [], length, get_or, map, List, ℕ, Bool, IsTrue, Global, ap, sym, ◌∙◌, arith}
use Rattle.std.specs.declared.string.String.{String}
use Rattle.std.specs.String.{string_bytes}
use Rattle.std.specs.Str.{bytes_eq}
use Rattle.std.proofs.lemmas.Slice.Eq.{bytes_eq-Decides}

-- a list of one element is that element's
single : {A : Type 0} (xs : List A) (x : A) → length xs ≡ 1 → x ≡ get_or xs 0 x → xs ≡ x ∷ []
single [] x e h = absurd (omega arith)
single (y ∷ []) x e h = ap (λ z. z ∷ []) (sym h)
single (y ∷ z ∷ rest) x e h = absurd (omega arith)

-- one word is compared
pub one_word : (words : List (String Global)) (word : String Global) (text : List ℕ) (equal : Bool)
    → length words ≡ 1 → word ≡ get_or words 0 word → equal ≡ bytes_eq (string_bytes word) text
    → IsTrue equal ↔ (map string_bytes words ≡ text ∷ [])
one_word words word text equal e h same =
    let all : map string_bytes words ≡ string_bytes word ∷ [] = ap (map string_bytes) (single words word e h) in
    let test = bytes_eq-Decides (string_bytes word) text in (
      λ yes. all ∙ ap (λ bytes. bytes ∷ []) (test.0 (sym same ∙ yes)),
      λ said. same ∙ test.1 (ap (λ xs. get_or xs 0 []) (sym all ∙ said)),
    )

-- the first word is compared
pub first_word : (words : List (String Global)) (word : String Global) (text : List ℕ) (equal : Bool)
    → 1 ≤ length words → word ≡ get_or words 0 word → equal ≡ bytes_eq (string_bytes word) text
    → IsTrue equal ↔ ((rest : List (List ℕ)) × (map string_bytes words ≡ text ∷ rest))
first_word [] word text equal some h same = absurd (omega arith)
first_word (w ∷ words) word text equal some h same =
    let test = bytes_eq-Decides (string_bytes word) text in (
      λ yes. (map string_bytes words, ap (λ bytes. bytes ∷ map string_bytes words) (ap string_bytes (sym h) ∙ test.0 (sym same ∙ yes))),
      λ begun. same ∙ test.1 (ap string_bytes h ∙ ap (λ xs. get_or xs 0 []) begun.1),
    )
