-- Words, and the places at which a line is cut.
use Rattle.std.proofs.Common.{◌≡◌, ◌≢◌, ◌⊎◌, inl, inr, refl, sym, ◌∙◌, subst, arith, ℕ, zero, suc, Bool, true, false, List, [], ◌∷◌, ◌++◌, length, get_or, Option, Some, None, MatchOption, IfSome, IfNone}
use Rattle.std.proofs.lemmas.Slice.Eq.{text_from_reads}
use Rattle.link_lines.specs.Words.{truth_text_of}
use Rattle.std.specs.List.{Contains}
use denote.Ref.{Bor}

pub some_stripped : (s p : List ℕ) (r : Option (Bor (List ℕ)))
    → MatchOption r ((rest : List ℕ) → s ≢ p ++ rest) (λ x. s ≡ p ++ x.now)
    → IfSome r (λ rest. s ≡ p ++ rest.now)
some_stripped s p (Some x) h = h
some_stripped s p None h = tt

pub none_stripped : (s p : List ℕ) (r : Option (Bor (List ℕ)))
    → MatchOption r ((rest : List ℕ) → s ≢ p ++ rest) (λ x. s ≡ p ++ x.now)
    → IfNone r ((rest : List ℕ) → s ≡ p ++ rest → ⊥)
none_stripped s p (Some x) h = tt
none_stripped s p None h = h

-- a word of one byte
one_byte : (s : List ℕ) (b : ℕ) → length s ≡ 1 → get_or s 0 0 ≡ b → s ≡ b ∷ []
one_byte s b one first = text_from_reads s (b ∷ []) one (first, tt)

-- a word that says a truth value is one byte, 49 or 48
pub record IsTruthByte (s : List ℕ) : Type 0 where
  pub one : length s ≡ 1
  pub digit : (get_or s 0 0 ≡ 49) ⊎ (get_or s 0 0 ≡ 48)

pub truth_byte : (s : List ℕ) (t : Bool) → s ≡ truth_text_of t → IsTruthByte s
unfolding truth_text_of
truth_byte s true e = record { one = rw e refl; digit = inl (rw e refl) }
truth_byte s false e = record { one = rw e refl; digit = inr (rw e refl) }

pub says_true : (s : List ℕ) → length s ≡ 1 → get_or s 0 0 ≡ 49 → s ≡ truth_text_of true
unfolding truth_text_of
says_true s one first = one_byte s 49 one first

pub says_false : (s : List ℕ) → length s ≡ 1 → get_or s 0 0 ≡ 48 → s ≡ truth_text_of false
unfolding truth_text_of
says_false s one first = one_byte s 48 one first

pub no_truth : (s : List ℕ) (t : Bool) → s ≡ truth_text_of t → (get_or s 0 0 ≡ 49 → ⊥) → (get_or s 0 0 ≡ 48 → ⊥) → ⊥
no_truth s t e not_one not_nought = elim (truth_byte s t e).digit [ inl h ↦ not_one h | inr h ↦ not_nought h ]

-- a byte stands where a list is cut at it
pub cut_contains : (a rest : List ℕ) (e : ℕ) → Contains (a ++ e ∷ rest) e
cut_contains [] rest e = (zero, omega arith, refl)
cut_contains (x ∷ a) rest e =
    let found = cut_contains a rest e in
    (suc found.0, omega (arith, found.1), found.2)

pub lacks_rest : (x e : ℕ) (xs : List ℕ) → (Contains (x ∷ xs) e → ⊥) → Contains xs e → ⊥
lacks_rest x e xs lacks found = lacks (suc found.0, omega (arith, found.1), found.2)

pub lacks_first : (x e : ℕ) (xs : List ℕ) → (Contains (x ∷ xs) e → ⊥) → x ≡ e → ⊥
lacks_first x e xs lacks same = lacks (zero, omega arith, same)

-- a list is cut in one way at the first place of a byte
pub cut_one : (a b c d : List ℕ) (e : ℕ) → (Contains a e → ⊥) → (Contains b e → ⊥)
    → a ++ e ∷ c ≡ b ++ e ∷ d → (a ≡ b) × (c ≡ d)
cut_one [] [] c d e lacks_a lacks_b same = (refl, cc)
cut_one [] (y ∷ b) c d e lacks_a lacks_b same = absurd (lacks_first y e b lacks_b (cc))
cut_one (x ∷ a) [] c d e lacks_a lacks_b same = absurd (lacks_first x e a lacks_a (cc))
cut_one (x ∷ a) (y ∷ b) c d e lacks_a lacks_b same =
    let rest = cut_one a b c d e (lacks_rest x e a lacks_a) (lacks_rest y e b lacks_b) (cc) in
    let first : x ≡ y = cc in
    (cc (first, rest.0), rest.1)

-- a list without a byte isn't cut at it
pub not_cut : (bytes a rest : List ℕ) (e : ℕ) → (Contains bytes e → ⊥) → bytes ≡ a ++ e ∷ rest → ⊥
not_cut bytes a rest e lacks same = lacks (subst (λ (xs : List ℕ). Contains xs e) (sym same) (cut_contains a rest e))

-- the same for a list that is known to be cut there
pub cut_as : (bytes a b c d : List ℕ) (e : ℕ) → bytes ≡ a ++ e ∷ c → (Contains a e → ⊥) → (Contains b e → ⊥)
    → bytes ≡ b ++ e ∷ d → (a ≡ b) × (c ≡ d)
cut_as bytes a b c d e is lacks_a lacks_b same = cut_one a b c d e lacks_a lacks_b (sym is ∙ same)
