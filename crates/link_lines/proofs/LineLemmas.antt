-- The lines of a text.
use Rattle.std.proofs.Common.{◌≡◌, refl, sym, ◌∙◌, ap, arith, ℕ, zero, suc, Bool, true, false, ◌+◌, ◌-◌, ◌<◌, ◌≤◌, ◌==◌, if◌then◌else◌, List, [], ◌∷◌, ◌++◌, length, take, drop}
use Rattle.std.specs.List.{Contains, onto_first}
use Rattle.std.proofs.lemmas.List.{take_rest, drop-drop, drop_at, length-drop, length-append, append_assoc, drop_all}
use Rattle.std.proofs.lemmas.Bool.Decides.{nat_tests}
use Rattle.link_lines.specs.Lines.{lines_of}

-- a byte that a list with more in front lacks is absent behind it too
lacks_tail : (b x : ℕ) (xs : List ℕ) → (Contains (b ∷ xs) x → ⊥) → Contains xs x → ⊥
lacks_tail b x xs lacks (k, l, e) = lacks (suc k, omega arith, e)

lacks_head : (b x : ℕ) (xs : List ℕ) → (Contains (b ∷ xs) x → ⊥) → b ≡ x → ⊥
lacks_head b x xs lacks e = lacks (zero, omega arith, e)

not_feed : (b : ℕ) (xs ys : List (List ℕ)) → (b ≡ 10 → ⊥) → (if b == 10 then xs else ys) ≡ ys
not_feed b xs ys other = grind (arith, nat_tests)

-- a line and what follows it
pub lines_cut : (line rest : List ℕ) → (Contains line 10 → ⊥) → lines_of (line ++ 10 ∷ rest) ≡ line ∷ lines_of rest
unfolding lines_of
lines_cut [] rest lacks = refl
lines_cut (b ∷ line) rest lacks =
    not_feed b _ _ (lacks_head b 10 line lacks)
    ∙ ap (onto_first b) (lines_cut line rest (lacks_tail b 10 line lacks))

-- the last line, which lacks its line feed
pub lines_last : (line : List ℕ) → 0 < length line → (Contains line 10 → ⊥) → lines_of line ≡ line ∷ []
unfolding lines_of
lines_last [] some lacks = absurd (omega arith)
lines_last (b ∷ []) some lacks = not_feed b _ _ (lacks_head b 10 [] lacks)
lines_last (b ∷ d ∷ line) some lacks =
    not_feed b _ _ (lacks_head b 10 (d ∷ line) lacks)
    ∙ ap (onto_first b) (lines_last (d ∷ line) (omega arith) (lacks_tail b 10 (d ∷ line) lacks))

pub lines_none : lines_of [] ≡ []
unfolding lines_of
lines_none = refl

-- what stands behind a line and its line feed
drop_past : (line rest : List ℕ) → drop (length line + 1) (line ++ 10 ∷ rest) ≡ rest
drop_past line rest =
    ap (drop (length line + 1)) (sym (append_assoc line (10 ∷ []) rest))
    ∙ drop_at (line ++ 10 ∷ []) rest (length line + 1) (length-append line (10 ∷ []))

drop_line : (text line rest : List ℕ) (at : ℕ) → at ≤ length text → drop at text ≡ line ++ 10 ∷ rest
    → drop (length text - length rest) text ≡ rest
drop_line text line rest at within e =
    let len : length text - at ≡ length line + (1 + length rest)
    = sym (length-drop at text) ∙ ap length e ∙ length-append line (10 ∷ rest) ∙ omega arith in
    let place : length text - length rest ≡ at + (length line + 1) = omega arith in
    ap (λ n. drop n text) place
    ∙ sym (drop-drop (length line + 1) at text)
    ∙ ap (drop (length line + 1)) e
    ∙ drop_past line rest

-- the line at a place, and the lines behind it
pub line_found : (text line rest : List ℕ) (at : ℕ) → at < length text
    → take (length text - at) (drop at text) ≡ line ++ 10 ∷ rest → (Contains line 10 → ⊥)
    → lines_of (drop at text) ≡ line ∷ lines_of (drop (length text - length rest) text)
line_found text line rest at within e lacks =
    let cut : drop at text ≡ line ++ 10 ∷ rest = sym (take_rest text at) ∙ e in
    ap lines_of cut
    ∙ lines_cut line rest lacks
    ∙ ap (λ (xs : List ℕ). line ∷ lines_of xs) (sym (drop_line text line rest at (omega arith) cut))

-- the last line, where no line feed follows
pub line_left : (text : List ℕ) (at : ℕ) → at < length text
    → (Contains (take (length text - at) (drop at text)) 10 → ⊥)
    → lines_of (drop at text) ≡ take (length text - at) (drop at text) ∷ lines_of (drop (length text) text)
line_left text at within lacks =
    let some : 0 < length (take (length text - at) (drop at text))
    = rw take_rest (omega (arith, length-drop at text)) in
    ap lines_of (sym (take_rest text at))
    ∙ lines_last _ some lacks
    ∙ ap (λ (xs : List (List ℕ)). take (length text - at) (drop at text) ∷ xs)
    (sym (ap lines_of (drop_all (length text) text (omega arith)) ∙ lines_none))

onto_some : (b : ℕ) (lines : List (List ℕ)) → (line : List ℕ) × (rest : List (List ℕ)) × (onto_first b lines ≡ line ∷ rest)
onto_some b [] = (b ∷ [], [], refl)
onto_some b (line ∷ lines) = (b ∷ line, lines, refl)

-- some bytes have a line
pub lines_some : (bytes : List ℕ) → 0 < length bytes → (line : List ℕ) × (rest : List (List ℕ)) × (lines_of bytes ≡ line ∷ rest)
unfolding lines_of
lines_some [] some = absurd (omega arith)
lines_some (b ∷ bytes) some = by_test (b == 10)
  where
    by_test : (t : Bool) → (line : List ℕ) × (rest : List (List ℕ)) × ((if t then [] ∷ lines_of bytes else onto_first b (lines_of bytes)) ≡ line ∷ rest)
    by_test true = ([], lines_of bytes, refl)
    by_test false = onto_some b (lines_of bytes)

-- no line stands at the end
pub lines_end : (text : List ℕ) (at : ℕ) → length text ≤ at → lines_of (drop at text) ≡ []
lines_end text at all = ap lines_of (drop_all at text all) ∙ lines_none

-- a line feed ends an empty line, and every other byte begins a line
pub line_empty : (b : ℕ) (bytes line : List ℕ) (after : List (List ℕ)) → b ≡ 10 → lines_of (b ∷ bytes) ≡ line ∷ after → line ≡ []
unfolding lines_of
line_empty b bytes line after feed lines = cc (sym (at_feed b ([] ∷ lines_of bytes) (onto_first b (lines_of bytes)) feed) ∙ lines)
  where
    at_feed : (b : ℕ) (xs ys : List (List ℕ)) → b ≡ 10 → (if b == 10 then xs else ys) ≡ xs
    at_feed b xs ys feed = grind (arith, nat_tests)

onto_begins : (b : ℕ) (lines : List (List ℕ)) (line : List ℕ) (after : List (List ℕ)) → onto_first b lines ≡ line ∷ after
    → (tail : List ℕ) × (line ≡ b ∷ tail)
onto_begins b [] line after is = ([], cc is)
onto_begins b (first ∷ lines) line after is = (first, cc is)

pub line_begins : (b : ℕ) (bytes line : List ℕ) (after : List (List ℕ)) → (b ≡ 10 → ⊥) → lines_of (b ∷ bytes) ≡ line ∷ after
    → (tail : List ℕ) × (line ≡ b ∷ tail)
unfolding lines_of
line_begins b bytes line after other lines =
    onto_begins b (lines_of bytes) line after (sym (not_feed b ([] ∷ lines_of bytes) (onto_first b (lines_of bytes)) other) ∙ lines)
