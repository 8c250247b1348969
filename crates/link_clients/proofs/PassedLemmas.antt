-- What passed with the client in a seat, one thing more.
use Rattle.std.proofs.Common.{◌≡◌, refl, sym, ◌∙◌, ap, ℕ, ◌==◌, if◌then◌else◌, Bool, true, false, List, [], ◌∷◌, ◌++◌, append_assoc, append-nil}
use Rattle.lk_talks.specs.Talks.{Passed, comes, hears, leaves, says, shuts}
use Rattle.link_clients.specs.Visits.{bytes_heard, texts_said, visit_after}

-- ---- tests

-- a function goes past a test
past_test : {A B : Type 0} (f : A → B) (test : Bool) (x y : A) (u v : B) → u ≡ f x → v ≡ f y → (if test then u else v) ≡ f (if test then x else y)
past_test f true x y u v one other = one
past_test f false x y u v one other = other

-- ---- the whole in two parts

pub visit_both : (s : ℕ) (before xs ys : List Passed) → visit_after s before (xs ++ ys) ≡ visit_after s (visit_after s before xs) ys
unfolding visit_after
visit_both s before [] ys = refl
visit_both s before (comes t ∷ xs) ys =
    past_test (λ (l : List Passed). visit_after s l ys) (t == s) (visit_after s [] xs) (visit_after s (before ++ comes t ∷ []) xs) _ _
    (visit_both s [] xs ys) (visit_both s (before ++ comes t ∷ []) xs ys)
visit_both s before (hears t bytes ∷ xs) ys = visit_both s (before ++ hears t bytes ∷ []) xs ys
visit_both s before (says t bytes ∷ xs) ys = visit_both s (before ++ says t bytes ∷ []) xs ys
visit_both s before (leaves t ∷ xs) ys = visit_both s (before ++ leaves t ∷ []) xs ys
visit_both s before (shuts t ∷ xs) ys = visit_both s (before ++ shuts t ∷ []) xs ys

pub bytes_both : (s : ℕ) (xs ys : List Passed) → bytes_heard s (xs ++ ys) ≡ bytes_heard s xs ++ bytes_heard s ys
unfolding bytes_heard
bytes_both s [] ys = refl
bytes_both s (comes t ∷ xs) ys = bytes_both s xs ys
bytes_both s (hears t bytes ∷ xs) ys =
    past_test (λ (l : List ℕ). l ++ bytes_heard s ys) (t == s) (bytes ++ bytes_heard s xs) (bytes_heard s xs) _ _
    (ap (λ (l : List ℕ). bytes ++ l) (bytes_both s xs ys) ∙ sym (append_assoc bytes (bytes_heard s xs) (bytes_heard s ys))) (bytes_both s xs ys)
bytes_both s (says t bytes ∷ xs) ys = bytes_both s xs ys
bytes_both s (leaves t ∷ xs) ys = bytes_both s xs ys
bytes_both s (shuts t ∷ xs) ys = bytes_both s xs ys

pub texts_both : (s : ℕ) (xs ys : List Passed) → texts_said s (xs ++ ys) ≡ texts_said s xs ++ texts_said s ys
unfolding texts_said
texts_both s [] ys = refl
texts_both s (comes t ∷ xs) ys = texts_both s xs ys
texts_both s (hears t bytes ∷ xs) ys = texts_both s xs ys
texts_both s (says t bytes ∷ xs) ys =
    past_test (λ (l : List (List ℕ)). l ++ texts_said s ys) (t == s) (bytes ∷ texts_said s xs) (texts_said s xs) _ _
    (ap (λ (l : List (List ℕ)). bytes ∷ l) (texts_both s xs ys)) (texts_both s xs ys)
texts_both s (leaves t ∷ xs) ys = texts_both s xs ys
texts_both s (shuts t ∷ xs) ys = texts_both s xs ys

-- ---- what adds nothing

pub no_bytes_more : (s : ℕ) (passed : List Passed) (one : Passed) → bytes_heard s (one ∷ []) ≡ [] → bytes_heard s (passed ++ one ∷ []) ≡ bytes_heard s passed
no_bytes_more s passed one none =
    bytes_both s passed (one ∷ []) ∙ ap (λ (l : List ℕ). bytes_heard s passed ++ l) none ∙ append-nil (bytes_heard s passed)

pub no_text_more : (s : ℕ) (passed : List Passed) (one : Passed) → texts_said s (one ∷ []) ≡ [] → texts_said s (passed ++ one ∷ []) ≡ texts_said s passed
no_text_more s passed one none =
    texts_both s passed (one ∷ []) ∙ ap (λ (l : List (List ℕ)). texts_said s passed ++ l) none ∙ append-nil (texts_said s passed)
