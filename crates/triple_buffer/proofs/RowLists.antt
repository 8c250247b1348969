-- Lists of words, rows and pairs that grow by one, and rows side by side in the table.
use Rattle.std.proofs.Common.{◌≡◌, ◌≢◌, ℕ, zero, suc, ◌+◌, ◌*◌, ◌<◌, ◌≤◌, List, [], ◌∷◌, ◌++◌, length, set, sym, refl, ap, ◌∙◌, subst, arith, take, length-append, length-set, mul-le-mul_right, suc-mul, lt_of_not-le}
use Rattle.std.specs.Prelude.{slice_index}
use Rattle.std.proofs.lemmas.List.{get_or-set_other, get_or-set_same, take_more_set}
use Rattle.std.proofs.Math.ListN.{get_or-append}
use Rattle.std.proofs.Math.Seq.{get_or-append_seam, take-length}
use mathlib.Core.Logic.{dite}
use mathlib.Core.Option.{some, some-injective, some-ne-none}
use native.Mathlib.Decide.{dec_le, ℕ_discrete}
use lib.ListN.{get_elem?}
use Rattle.atomic_table.proofs.Lists.{at_longer}
use Rattle.audio_handoff.specs.Cell.{IsMade}
use Rattle.triple_buffer.specs.Rule.{word_at, Begins, HoldsMade}

pub same_words : (xs ys : List ℕ) → length xs ≡ length ys → ((i : ℕ) → i < length xs → slice_index xs i ≡ slice_index ys i) → xs ≡ ys
same_words [] [] l h = refl
same_words [] (y ∷ ys) l h = absurd (omega arith)
same_words (x ∷ xs) [] l h = absurd (omega arith)
same_words (x ∷ xs) (y ∷ ys) l h = λ k. h 0 (omega arith) k ∷ same_words xs ys (omega arith) (λ i b. h (suc i) (omega arith)) k

further : (p q w : ℕ) → p < q → p * w + w ≤ q * w
further p q w h = let a : suc p * w ≤ q * w = mul-le-mul_right w h in omega (arith, suc-mul p w)

pub word_fits : (w p i : ℕ) → p < 3 → i < w → word_at w p i < 3 * w + 1
word_fits w p i fits inside = let f = further p 3 w fits in omega arith

-- two rows have no word in common
pub places_apart : (w p q i j : ℕ) → p ≢ q → i < w → j < w → word_at w p i ≢ word_at w q j
places_apart w p q i j apart a b e = dite (dec_le q p)
    (λ le. let f = further q p w (omega arith) in omega arith)
    (λ not. let f = further p q w (lt_of_not-le not) in omega arith)

module _ (w : ℕ) (words : List ℕ) where
  pub begins_none : (p : ℕ) → Begins w words p []
  begins_none p = record { is_no_longer = omega arith; each = λ i b. absurd (omega arith) }

  -- the state word is in no row
  pub begins_at_state : (n p : ℕ) (part : List ℕ) → Begins w words p part → Begins w (set words 0 n) p part
  begins_at_state n p part h = record { is_no_longer = h.is_no_longer; each = λ i b. get_or-set_other words 0 (word_at w p i) n 0 (λ e. omega arith) ∙ h.each i b }

  pub begins_elsewhere : (x p q i : ℕ) (part : List ℕ) → p ≢ q → i < w → Begins w words p part → Begins w (set words (word_at w q i) x) p part
  begins_elsewhere x p q i part apart inside h = record {
    is_no_longer = h.is_no_longer;
    each = λ j b. let n = h.is_no_longer in get_or-set_other words (word_at w q i) (word_at w p j) x 0 (places_apart w p q j i apart (omega arith) inside) ∙ h.each j b;
  }

  -- a word behind the part is changed
  pub begins_before : (x p i : ℕ) (part : List ℕ) → length part ≤ i → Begins w words p part → Begins w (set words (word_at w p i) x) p part
  begins_before x p i part long h = record { is_no_longer = h.is_no_longer; each = λ j b. get_or-set_other words (word_at w p i) (word_at w p j) x 0 (λ e. omega arith) ∙ h.each j b }

  pub begins_more : (x p i : ℕ) (part : List ℕ) → length part ≡ i → i < w → slice_index words (word_at w p i) ≡ x → Begins w words p part → Begins w words p (part ++ x ∷ [])
  begins_more x p i part long inside is h = record {
    is_no_longer = omega (arith, length-append part (x ∷ []));
    each = λ j b. dite (ℕ_discrete j i)
        (λ e. ap (λ k. slice_index words (word_at w p k)) e ∙ (is ∙ (sym (get_or-append_seam part x [] 0) ∙ ap (λ k. slice_index (part ++ x ∷ []) k) (long ∙ sym e))))
        (λ ne. let l : j < length part = omega (arith, length-append part (x ∷ [])) in h.each j l ∙ sym (get_or-append part (x ∷ []) 0 j l));
  }

pub holds_at_state : (w : ℕ) (words : List ℕ) (made : List (List ℕ)) (n p number : ℕ) → HoldsMade w words made p number → HoldsMade w (set words 0 n) made p number
holds_at_state w words made n p number h = record { row = h.row; is_made = h.is_made; is_whole = h.is_whole; begins = begins_at_state w words n p h.row h.begins }

pub holds_elsewhere : (w : ℕ) (words : List ℕ) (made : List (List ℕ)) (x p q i number : ℕ) → p ≢ q → i < w → HoldsMade w words made p number → HoldsMade w (set words (word_at w q i) x) made p number
holds_elsewhere w words made x p q i number apart inside h = record { row = h.row; is_made = h.is_made; is_whole = h.is_whole; begins = begins_elsewhere w words x p q i h.row apart inside h.begins }

pub holds_longer : (w : ℕ) (words : List ℕ) (made : List (List ℕ)) (row : List ℕ) (p number : ℕ) → HoldsMade w words made p number → HoldsMade w words (made ++ row ∷ []) p number
holds_longer w words made row p number h = record { row = h.row; is_made = at_longer made (row ∷ []) number h.row h.is_made; is_whole = h.is_whole; begins = h.begins }

-- a row that the table holds whole was loaded
pub loaded_whole : (w : ℕ) (words : List ℕ) (made : List (List ℕ)) (p number : ℕ) (part : List ℕ) → HoldsMade w words made p number → length part ≡ w → Begins w words p part → IsMade made number part
loaded_whole w words made p number part h long b = let n = h.is_whole in
    subst (λ row. IsMade made number row) (same_words h.row part (n ∙ sym long) (λ i l. sym (h.begins.each i l) ∙ b.each i (omega arith))) h.is_made

-- a row whose last word is set
pub last_word : (row : List ℕ) (i j w x : ℕ) → length row ≡ w → j + 1 ≡ w → i ≡ j → take i row ++ x ∷ [] ≡ set row j x
last_word row i j w x long whole same =
    let more : j < length row = omega arith in
    let all : j + 1 ≡ length (set row j x) = omega (arith, length-set row j x) in
    ap (λ k. take k row ++ x ∷ []) same ∙ (sym (take_more_set row j x more) ∙ (ap (λ k. take k (set row j x)) all ∙ take-length (set row j x)))

pub index_of : (l : List ℕ) (j a : ℕ) → get_elem? l j ≡ some a → slice_index l j ≡ a
index_of [] j a e = absurd (some-ne-none a (sym e))
index_of (x ∷ xs) zero a e = some-injective x a e
index_of (x ∷ xs) (suc j) a e = index_of xs j a e

-- a copy one word longer
pub copied_more : (row : List ℕ) (i w x : ℕ) (from : ℕ → ℕ) → length row ≡ w → i < w → from i ≡ x → ((k : ℕ) → k < i → slice_index row k ≡ from k) → (k : ℕ) → k < i + 1 → slice_index (set row i x) k ≡ from k
copied_more row i w x from long inside is same k below = dite (ℕ_discrete k i)
    (λ e. ap (λ j. slice_index (set row i x) j) e ∙ (get_or-set_same row i x 0 (omega arith) ∙ (sym is ∙ ap from (sym e))))
    (λ ne. get_or-set_other row i k x 0 ne ∙ same k (omega arith))
