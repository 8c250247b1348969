-- Words that are put one after another.
use Rattle.std.proofs.Common.{◌≡◌, ap, ◌∙◌, ℕ, List, [], ◌∷◌, ◌++◌, append_assoc}

-- five words parted by spaces, and what follows
five_and : (a b c d e more : List ℕ)
    → (a ++ 32 ∷ (b ++ 32 ∷ (c ++ 32 ∷ (d ++ 32 ∷ e)))) ++ more ≡ a ++ 32 ∷ (b ++ 32 ∷ (c ++ 32 ∷ (d ++ 32 ∷ (e ++ more))))
five_and a b c d e more =
    append_assoc a (32 ∷ (b ++ 32 ∷ (c ++ 32 ∷ (d ++ 32 ∷ e)))) more
    ∙ ap (λ (l : List ℕ). a ++ 32 ∷ l)
    (append_assoc b (32 ∷ (c ++ 32 ∷ (d ++ 32 ∷ e))) more
    ∙ ap (λ (l : List ℕ). b ++ 32 ∷ l)
    (append_assoc c (32 ∷ (d ++ 32 ∷ e)) more ∙ ap (λ (l : List ℕ). c ++ 32 ∷ l) (append_assoc d (32 ∷ e) more)))

-- a word, five words and a line feed
pub status_pieces : (word a b c d e : List ℕ)
    → (([] ++ word) ++ (a ++ 32 ∷ (b ++ 32 ∷ (c ++ 32 ∷ (d ++ 32 ∷ e))))) ++ 10 ∷ []
    ≡ word ++ (a ++ 32 ∷ (b ++ 32 ∷ (c ++ 32 ∷ (d ++ 32 ∷ (e ++ 10 ∷ [])))))
status_pieces word a b c d e =
    append_assoc word (a ++ 32 ∷ (b ++ 32 ∷ (c ++ 32 ∷ (d ++ 32 ∷ e)))) (10 ∷ [])
    ∙ ap (λ (l : List ℕ). word ++ l) (five_and a b c d e (10 ∷ []))
