-- Words that are put one after another.
use Rattle.std.proofs.Common.{◌≡◌, refl, sym, ◌∙◌, ap, ℕ, ◌+◌, ◌<◌, ◌≤◌, List, [], ◌∷◌, ◌++◌, length, get_or, take, append_assoc, append-nil}
use Rattle.std.proofs.lemmas.List.{take_all, take_more}
use Rattle.std.specs.Fmt.{decimal}
use Rattle.link_lines.specs.Line.{line_of}
use Rattle.link_asks.specs.Answers.{gate_state_text_of, gate_words}
use Rattle.link_asks.specs.declared.known.GateTold.{GateTold}

three_and : (a b c more : List ℕ) → (a ++ 32 ∷ (b ++ 32 ∷ c)) ++ more ≡ a ++ 32 ∷ (b ++ 32 ∷ (c ++ more))
three_and a b c more =
    append_assoc a (32 ∷ (b ++ 32 ∷ c)) more ∙ ap (λ (l : List ℕ). a ++ 32 ∷ l) (append_assoc b (32 ∷ c) more)

eight : (word s a b c n : List ℕ)
    → ((((((([] ++ word) ++ s) ++ a) ++ s) ++ b) ++ s) ++ c) ++ n ≡ word ++ (s ++ (a ++ (s ++ (b ++ (s ++ (c ++ n))))))
eight word s a b c n = simp append_assoc

-- a word, nine words parted by spaces, and a line feed
pub view_pieces : (word a b c d e f g h i : List ℕ)
    → (((((((([] ++ word) ++ 32 ∷ []) ++ (a ++ 32 ∷ (b ++ 32 ∷ c))) ++ 32 ∷ []) ++ (d ++ 32 ∷ (e ++ 32 ∷ f))) ++ 32 ∷ [])
    ++ (g ++ 32 ∷ (h ++ 32 ∷ i))) ++ 10 ∷ [])
    ≡ word ++ 32 ∷ (a ++ 32 ∷ (b ++ 32 ∷ (c ++ 32 ∷ (d ++ 32 ∷ (e ++ 32 ∷ (f ++ 32 ∷ (g ++ 32 ∷ (h ++ 32 ∷ (i ++ 10 ∷ [])))))))))
view_pieces word a b c d e f g h i =
    let second = d ++ 32 ∷ (e ++ 32 ∷ f) in
    let third = g ++ 32 ∷ (h ++ 32 ∷ i) in
    eight word (32 ∷ []) (a ++ 32 ∷ (b ++ 32 ∷ c)) second third (10 ∷ [])
    ∙ ap (λ (l : List ℕ). word ++ 32 ∷ l)
    (three_and a b c (32 ∷ (second ++ 32 ∷ (third ++ 10 ∷ [])))
    ∙ ap (λ (l : List ℕ). a ++ 32 ∷ (b ++ 32 ∷ (c ++ 32 ∷ l)))
    (three_and d e f (32 ∷ (third ++ 10 ∷ []))
    ∙ ap (λ (l : List ℕ). d ++ 32 ∷ (e ++ 32 ∷ (f ++ 32 ∷ l))) (three_and g h i (10 ∷ []))))

-- words behind spaces, which a line feed follows
abbrev pub spaced : List (List ℕ) → List ℕ
spaced [] = []
spaced (word ∷ words) = 32 ∷ (word ++ spaced words)

pub line_of-spaced : (word : List ℕ) (words : List (List ℕ)) → line_of (word ∷ words) ≡ word ++ (spaced words ++ 10 ∷ [])
line_of-spaced word [] = refl
line_of-spaced word (next ∷ words) =
    ap (λ (l : List ℕ). word ++ 32 ∷ l) (line_of-spaced next words ∙ sym (append_assoc next (spaced words) (10 ∷ [])))

pub spaced-append : (a b : List (List ℕ)) → spaced (a ++ b) ≡ spaced a ++ spaced b
spaced-append [] b = refl
spaced-append (w ∷ a) b =
    ap (λ (l : List ℕ). 32 ∷ (w ++ l)) (spaced-append a b) ∙ ap (λ (l : List ℕ). 32 ∷ l) (sym (append_assoc w (spaced a) (spaced b)))

pub gate_words-append : (a b : List GateTold) → gate_words (a ++ b) ≡ gate_words a ++ gate_words b
gate_words-append [] b = refl
gate_words-append (gate ∷ a) b =
    ap (λ (l : List (List ℕ)). gate_state_text_of gate.state ∷ decimal gate.refused ∷ l) (gate_words-append a b)

-- one gate more
pub gates_more : (gates : List GateTold) (gate : GateTold)
    → spaced (gate_words (gates ++ gate ∷ [])) ≡ spaced (gate_words gates) ++ 32 ∷ (gate_state_text_of gate.state ++ 32 ∷ decimal gate.refused)
gates_more gates gate =
    ap spaced (gate_words-append gates (gate ∷ []))
    ∙ spaced-append (gate_words gates) (gate_words (gate ∷ []))
    ∙ ap (λ (l : List ℕ). spaced (gate_words gates) ++ 32 ∷ (gate_state_text_of gate.state ++ 32 ∷ l)) (append-nil (decimal gate.refused))

pub gates_here : (head new old : List ℕ) (gates : List GateTold) (i : ℕ) (d : GateTold) → i < length gates
    → old ≡ head ++ spaced (gate_words (take i gates))
    → new ≡ old ++ 32 ∷ (gate_state_text_of (get_or gates i d).state ++ 32 ∷ decimal (get_or gates i d).refused)
    → new ≡ head ++ spaced (gate_words (take (i + 1) gates))
gates_here head new old gates i d here before is =
    let text = 32 ∷ (gate_state_text_of (get_or gates i d).state ++ 32 ∷ decimal (get_or gates i d).refused) in
    is ∙ ap (λ (l : List ℕ). l ++ text) before ∙ append_assoc head (spaced (gate_words (take i gates))) text
    ∙ ap (λ (l : List ℕ). head ++ l)
    (sym (gates_more (take i gates) (get_or gates i d)) ∙ ap (λ (l : List GateTold). spaced (gate_words l)) (sym (take_more gates i d here)))

pub gates_end : (word n new old : List ℕ) (gates : List GateTold) (i : ℕ) → length gates ≤ i
    → old ≡ (word ++ 32 ∷ n) ++ spaced (gate_words (take i gates)) → new ≡ old ++ 10 ∷ []
    → new ≡ word ++ 32 ∷ line_of (n ∷ gate_words gates)
gates_end word n new old gates i all before is =
    let words = spaced (gate_words gates) in
    is ∙ ap (λ (l : List ℕ). l ++ 10 ∷ []) (before ∙ ap (λ (l : List GateTold). (word ++ 32 ∷ n) ++ spaced (gate_words l)) (take_all i gates all))
    ∙ append_assoc (word ++ 32 ∷ n) words (10 ∷ []) ∙ append_assoc word (32 ∷ n) (words ++ 10 ∷ [])
    ∙ ap (λ (l : List ℕ). word ++ 32 ∷ l) (sym (line_of-spaced n (gate_words gates)))
