-- Pieces that are appended one after the other, some of them several words.
use Rattle.std.proofs.Common.{◌≡◌, ◌++◌, ◌∷◌, [], List, ℕ, Bool, false, if◌then◌else◌, nat_eq, ap, refl, sym, ◌∙◌, append_assoc, append-nil, rules, tests}
use Rattle.std.specs.Fmt.{signed_decimal}
use Rattle.hex.specs.Hex.{encode_lower}
use Rattle.client_state.specs.declared.state.State.{State}
use Rattle.link_lines.specs.Line.{line_of}
use Rattle.link_text.specs.ReplayText.{profile_words}
use Rattle.link_text.specs.Spaced.{spaced}
use Rattle.link_lines.specs.Words.{joined}

-- three words, and what follows them
three_and : (a b c rest : List ℕ) → (a ++ 32 ∷ (b ++ 32 ∷ c)) ++ rest ≡ a ++ 32 ∷ (b ++ 32 ∷ (c ++ rest))
three_and a b c rest =
    append_assoc a (32 ∷ (b ++ 32 ∷ c)) rest
    ∙ ap (λ (xs : List ℕ). a ++ 32 ∷ xs) (append_assoc b (32 ∷ c) rest)

-- five words, and what follows them
five_and : (a b c d e rest : List ℕ)
    → (a ++ 32 ∷ (b ++ 32 ∷ (c ++ 32 ∷ (d ++ 32 ∷ e)))) ++ rest ≡ a ++ 32 ∷ (b ++ 32 ∷ (c ++ 32 ∷ (d ++ 32 ∷ (e ++ rest))))
five_and a b c d e rest =
    append_assoc a (32 ∷ (b ++ 32 ∷ (c ++ 32 ∷ (d ++ 32 ∷ e)))) rest
    ∙ ap (λ (xs : List ℕ). a ++ 32 ∷ xs)
    (append_assoc b (32 ∷ (c ++ 32 ∷ (d ++ 32 ∷ e))) rest ∙ ap (λ (xs : List ℕ). b ++ 32 ∷ xs) (three_and c d e rest))

-- pieces one after the other
pieces : (old p q r s t u v w x y : List ℕ)
    → (((((((((old ++ p) ++ q) ++ r) ++ s) ++ t) ++ u) ++ v) ++ w) ++ x) ++ y
    ≡ old ++ (p ++ (q ++ (r ++ (s ++ (t ++ (u ++ (v ++ (w ++ (x ++ y)))))))))
pieces old p q r s t u v w x y = simp append_assoc

-- three words, three, one, three and one, and a line feed
pub state_line : (old a b c d e f g h i j k : List ℕ)
    → (((((((((old ++ (a ++ 32 ∷ (b ++ 32 ∷ c))) ++ 32 ∷ []) ++ (d ++ 32 ∷ (e ++ 32 ∷ f))) ++ 32 ∷ []) ++ g) ++ 32 ∷ [])
    ++ (h ++ 32 ∷ (i ++ 32 ∷ j))) ++ 32 ∷ []) ++ k) ++ 10 ∷ []
    ≡ old ++ (a ++ 32 ∷ (b ++ 32 ∷ (c ++ 32 ∷ (d ++ 32 ∷ (e ++ 32 ∷ (f ++ 32 ∷ (g ++ 32 ∷ (h ++ 32 ∷ (i ++ 32 ∷ (j ++ 32 ∷ (k ++ 10 ∷ [])))))))))))
state_line old a b c d e f g h i j k =
    let last = three_and h i j (32 ∷ (k ++ 10 ∷ [])) in
    let middle = three_and d e f (32 ∷ (g ++ 32 ∷ ((h ++ 32 ∷ (i ++ 32 ∷ j)) ++ 32 ∷ (k ++ 10 ∷ [])))) in
    pieces old (a ++ 32 ∷ (b ++ 32 ∷ c)) (32 ∷ []) (d ++ 32 ∷ (e ++ 32 ∷ f)) (32 ∷ []) g (32 ∷ []) (h ++ 32 ∷ (i ++ 32 ∷ j)) (32 ∷ []) k (10 ∷ [])
    ∙ ap (λ (xs : List ℕ). old ++ xs)
    (three_and a b c (32 ∷ ((d ++ 32 ∷ (e ++ 32 ∷ f)) ++ 32 ∷ (g ++ 32 ∷ ((h ++ 32 ∷ (i ++ 32 ∷ j)) ++ 32 ∷ (k ++ 10 ∷ [])))))
    ∙ ap (λ (xs : List ℕ). a ++ 32 ∷ (b ++ 32 ∷ (c ++ 32 ∷ xs)))
    (middle ∙ ap (λ (xs : List ℕ). d ++ 32 ∷ (e ++ 32 ∷ (f ++ 32 ∷ (g ++ 32 ∷ xs)))) last))

-- a word, another, three and one, and a line feed
pub node_pieces : (word id a b c now : List ℕ)
    → (((((([] ++ word) ++ id) ++ 32 ∷ []) ++ (a ++ 32 ∷ (b ++ 32 ∷ c))) ++ 32 ∷ []) ++ now) ++ 10 ∷ []
    ≡ (word ++ (id ++ 32 ∷ (a ++ 32 ∷ (b ++ 32 ∷ (c ++ 32 ∷ now))))) ++ 10 ∷ []
node_pieces word id a b c now = simp append_assoc

-- a word, another and three, and a line feed
pub arrival_pieces : (word a b c d : List ℕ)
    → (((((((([] ++ word) ++ a) ++ 32 ∷ []) ++ b) ++ 32 ∷ []) ++ c) ++ 32 ∷ []) ++ d) ++ 10 ∷ []
    ≡ (word ++ (a ++ 32 ∷ (b ++ 32 ∷ (c ++ 32 ∷ d)))) ++ 10 ∷ []
arrival_pieces word a b c d = simp append_assoc

-- a line is its words, and a line feed
pub line_of-joined : (words : List (List ℕ)) → line_of words ≡ joined words ++ 10 ∷ []
line_of-joined [] = refl
line_of-joined (word ∷ []) = refl
line_of-joined (word ∷ next ∷ words) =
    ap (λ (xs : List ℕ). word ++ 32 ∷ xs) (line_of-joined (next ∷ words))
    ∙ sym (append_assoc word (32 ∷ joined (next ∷ words)) (10 ∷ []))

-- ---- words that are each behind a space

joined-spaced : (word : List ℕ) (words : List (List ℕ)) → joined (word ∷ words) ≡ word ++ spaced words
joined-spaced word [] = sym (append-nil word)
joined-spaced word (next ∷ words) = ap (λ (xs : List ℕ). word ++ 32 ∷ xs) (joined-spaced next words)

spaced-append : (words more : List (List ℕ)) → spaced (words ++ more) ≡ spaced words ++ spaced more
spaced-append [] more = refl
spaced-append (word ∷ words) more =
    ap (λ (xs : List ℕ). 32 ∷ (word ++ xs)) (spaced-append words more) ∙ ap (λ (xs : List ℕ). 32 ∷ xs) (sym (append_assoc word (spaced words) (spaced more)))

line_of-spaced : (word : List ℕ) (words : List (List ℕ)) → line_of (word ∷ words) ≡ word ++ (spaced words ++ 10 ∷ [])
line_of-spaced word words =
    line_of-joined (word ∷ words) ∙ ap (λ (xs : List ℕ). xs ++ 10 ∷ []) (joined-spaced word words) ∙ append_assoc word (spaced words) (10 ∷ [])

-- a word, and further ones of three kinds
pub commit_pieces : (old word : List ℕ) (a b c : List (List ℕ))
    → (((old ++ word) ++ spaced a) ++ spaced b) ++ spaced c ≡ old ++ joined (word ∷ (a ++ (b ++ c)))
commit_pieces old word a b c =
    append_assoc ((old ++ word) ++ spaced a) (spaced b) (spaced c)
    ∙ append_assoc (old ++ word) (spaced a) (spaced b ++ spaced c)
    ∙ append_assoc old word (spaced a ++ (spaced b ++ spaced c))
    ∙ ap (λ (xs : List ℕ). old ++ xs)
    (sym (joined-spaced word (a ++ (b ++ c))
    ∙ ap (λ (xs : List ℕ). word ++ xs) (spaced-append a (b ++ c) ∙ ap (λ (xs : List ℕ). spaced a ++ xs) (spaced-append b c))))

-- a word, another, three words, three, five and further ones, and a line feed
pub state_pieces : (word number a b c d e f g h i j k : List ℕ) (words : List (List ℕ))
    → ((((((((([] ++ word) ++ number) ++ 32 ∷ []) ++ (a ++ 32 ∷ (b ++ 32 ∷ c))) ++ 32 ∷ []) ++ (d ++ 32 ∷ (e ++ 32 ∷ f))) ++ 32 ∷ [])
    ++ (g ++ 32 ∷ (h ++ 32 ∷ (i ++ 32 ∷ (j ++ 32 ∷ k))))) ++ spaced words) ++ 10 ∷ []
    ≡ word ++ (number ++ 32 ∷ (a ++ 32 ∷ (b ++ 32 ∷ (c ++ 32 ∷ (d ++ 32 ∷ (e ++ 32 ∷ (f ++ 32 ∷ (g ++ 32 ∷ (h ++ 32 ∷ (i ++ 32 ∷ (j ++ 32 ∷ line_of (k ∷ words))))))))))))
state_pieces word number a b c d e f g h i j k words =
    let counts = g ++ 32 ∷ (h ++ 32 ∷ (i ++ 32 ∷ (j ++ 32 ∷ k))) in
    let more = spaced words ++ 10 ∷ [] in
    pieces [] word number (32 ∷ []) (a ++ 32 ∷ (b ++ 32 ∷ c)) (32 ∷ []) (d ++ 32 ∷ (e ++ 32 ∷ f)) (32 ∷ []) counts (spaced words) (10 ∷ [])
    ∙ ap (λ (xs : List ℕ). word ++ (number ++ 32 ∷ xs))
    (three_and a b c (32 ∷ ((d ++ 32 ∷ (e ++ 32 ∷ f)) ++ 32 ∷ (counts ++ more)))
    ∙ ap (λ (xs : List ℕ). a ++ 32 ∷ (b ++ 32 ∷ (c ++ 32 ∷ xs)))
    (three_and d e f (32 ∷ (counts ++ more))
    ∙ ap (λ (xs : List ℕ). d ++ 32 ∷ (e ++ 32 ∷ (f ++ 32 ∷ xs)))
    (five_and g h i j k more
    ∙ ap (λ (xs : List ℕ). g ++ 32 ∷ (h ++ 32 ∷ (i ++ 32 ∷ (j ++ 32 ∷ xs)))) (sym (line_of-spaced k words)))))

-- ---- a session and a quantum

pub profile_none : (version : ℕ) (state : State) → version ≡ 1 → spaced (profile_words version state) ≡ []
profile_none version state one = ap (λ (v : ℕ). spaced (profile_words v state)) one

pub profile_some : (version : ℕ) (state : State) → (version ≡ 1 → ⊥)
    → spaced (profile_words version state) ≡ 32 ∷ (encode_lower state.session.0 ++ 32 ∷ signed_decimal state.quantum)
profile_some version state other =
    let test : nat_eq version 1 ≡ false = search (tests, rules) in
    ap (λ (t : Bool). spaced (if t then [] else encode_lower state.session.0 ∷ signed_decimal state.quantum ∷ [])) test
    ∙ ap (λ (xs : List ℕ). 32 ∷ (encode_lower state.session.0 ++ 32 ∷ xs)) (append-nil (signed_decimal state.quantum))
