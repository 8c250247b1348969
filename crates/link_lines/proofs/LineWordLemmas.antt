-- A line and its words.
use Rattle.std.proofs.Common.{◌≡◌, refl, sym, ◌∙◌, ap, arith, ℕ, ◌-◌, ◌≤◌, ◌==◌, if◌then◌else◌, true, false, Bool, List, [], ◌∷◌, ◌++◌, length, take, drop}
use Rattle.std.specs.List.{Contains, onto_first}
use Rattle.std.proofs.lemmas.List.{drop_at, drop_all, take_all, length-drop}
use Rattle.std.proofs.lemmas.Bool.Decides.{nat_tests}
use Rattle.link_lines.specs.LineWords.{words_of, words_left}
use Rattle.link_lines.proofs.WordLemmas.{lacks_rest, lacks_first}

not_space : (b : ℕ) (xs ys : List (List ℕ)) → (b ≡ 32 → ⊥) → (if b == 32 then xs else ys) ≡ ys
not_space b xs ys other = grind (arith, nat_tests)

-- a word and what follows it
pub words_cut : (word rest : List ℕ) → (Contains word 32 → ⊥) → words_of (word ++ 32 ∷ rest) ≡ word ∷ words_of rest
unfolding words_of
words_cut [] rest lacks = refl
words_cut (b ∷ word) rest lacks =
    not_space b _ _ (lacks_first b 32 word lacks)
    ∙ ap (onto_first b) (words_cut word rest (lacks_rest b 32 word lacks))

-- the last word
pub words_last : (word : List ℕ) → (Contains word 32 → ⊥) → words_of word ≡ word ∷ []
unfolding words_of
words_last [] lacks = refl
words_last (b ∷ word) lacks =
    not_space b _ _ (lacks_first b 32 word lacks)
    ∙ ap (onto_first b) (words_last word (lacks_rest b 32 word lacks))

-- the first word of several
pub first_of : (line word tail : List ℕ) → line ≡ word ++ 32 ∷ tail → (Contains word 32 → ⊥)
    → words_of line ≡ word ∷ words_left (take (length line - length word) (drop (length word) line))
first_of line word tail is lacks =
    let behind : drop (length word) line ≡ 32 ∷ tail = ap (drop (length word)) is ∙ drop_at word (32 ∷ tail) (length word) refl in
    let long : length (drop (length word) line) ≤ length line - length word = omega (arith, length-drop {A = ℕ}) in
    ap words_of is ∙ words_cut word tail lacks
    ∙ ap (λ (xs : List ℕ). word ∷ words_left xs) (sym (take_all _ _ long ∙ behind))

-- a line of one word
pub only_one : (line : List ℕ) → (Contains line 32 → ⊥)
    → words_of line ≡ line ∷ words_left (take (length line - length line) (drop (length line) line))
only_one line lacks =
    words_last line lacks
    ∙ ap (λ (xs : List ℕ). line ∷ words_left xs) (sym (take_all _ _ (omega (arith, length-drop {A = ℕ})) ∙ drop_all (length line) line (omega arith)))

-- what stands first, the word that it begins, and the words behind it
onto_some : (b : ℕ) (ws : List (List ℕ)) → (ws ≡ [] → ⊥) → onto_first b ws ≡ [] → ⊥
onto_some b [] some e = some refl
onto_some b (w ∷ ws) some e = cc

-- each line has a word
pub words_some : (line : List ℕ) → words_of line ≡ [] → ⊥
unfolding words_of
words_some [] e = cc
words_some (b ∷ line) e = step b (words_of line) (words_some line) e
  where
    by_test : (t : Bool) (b : ℕ) (ws : List (List ℕ)) → (ws ≡ [] → ⊥) → (if t then [] ∷ ws else onto_first b ws) ≡ [] → ⊥
    by_test true b ws some e = cc
    by_test false b ws some e = onto_some b ws some e

    step : (b : ℕ) (ws : List (List ℕ)) → (ws ≡ [] → ⊥) → (if b == 32 then [] ∷ ws else onto_first b ws) ≡ [] → ⊥
    step b ws some e = by_test (b == 32) b ws some e

pub none_left : (left : List ℕ) → words_left left ≡ [] → left ≡ []
none_left [] e = refl
none_left (b ∷ left) e = absurd (words_some left e)
