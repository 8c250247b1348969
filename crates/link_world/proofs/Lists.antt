-- Members and places of lists.
use Rattle.std.proofs.Common.{◌≡◌, ◌<◌, ◌≤◌, ◌+◌, ◌⊎◌, inl, inr, ℕ, zero, suc, Bool, true, false, List, [], ◌∷◌, ◌++◌, length, map, set, take, take_all, get_or, Some, refl, sym, ap, subst, ◌∙◌, arith}
use Rattle.std.proofs.lemmas.List.{map-append, take_more}
use Rattle.std.specs.Prelude.{cond}
use Rattle.std.specs.List.{AllByRecursion, slice_get}
use Rattle.peer_gateway.specs.Happenings.{Has}

pub has_parts : {A : Type 0} (xs ys : List A) (x : A) → Has (xs ++ ys) x → Has xs x ⊎ Has ys x
has_parts [] ys x h = inr h
has_parts (a ∷ xs) ys x (inl e) = inl (inl e)
has_parts (a ∷ xs) ys x (inr h) =
    elim (has_parts xs ys x h) as (λ _. Has (a ∷ xs) x ⊎ Has ys x) [ inl p ↦ inl (inr p) | inr q ↦ inr q ]

pub has_right : {A : Type 0} (xs ys : List A) (x : A) → Has ys x → Has (xs ++ ys) x
has_right [] ys x h = h
has_right (a ∷ xs) ys x h = inr (has_right xs ys x h)

-- what is found at a place is there
pub has_got : {A : Type 0} (xs : List A) (k : ℕ) (x : A) → slice_get xs k ≡ Some x → Has xs x
has_got [] k x e = absurd (cc)
has_got (a ∷ xs) zero x e = inl (cc)
has_got (a ∷ xs) (suc k) x e = inr (has_got xs k x e)

-- what is found at a place of the first of two lists is found there in both
pub got_first : {A : Type 0} (xs ys : List A) (k : ℕ) → k < length xs → slice_get (xs ++ ys) k ≡ slice_get xs k
got_first [] ys k within = absurd (omega arith)
got_first (a ∷ xs) ys zero within = refl
got_first (a ∷ xs) ys (suc k) within = got_first xs ys k (omega arith)

-- and past the first it is of the second
pub got_second : {A : Type 0} (xs ys : List A) (k : ℕ) (x : A) → length xs ≤ k → slice_get (xs ++ ys) k ≡ Some x → Has ys x
got_second [] ys k x past at = has_got ys k x at
got_second (a ∷ xs) ys zero x past at = absurd (omega arith)
got_second (a ∷ xs) ys (suc k) x past at = got_second xs ys k x (omega arith) at

-- after a write there is what was written, and what was there before
pub has_set : {A : Type 0} (xs : List A) (k : ℕ) (v x : A) → Has (set xs k v) x → (v ≡ x) ⊎ Has xs x
has_set [] k v x h = absurd h
has_set (a ∷ xs) zero v x (inl e) = inl e
has_set (a ∷ xs) zero v x (inr h) = inr (inr h)
has_set (a ∷ xs) (suc k) v x (inl e) = inr (inl e)
has_set (a ∷ xs) (suc k) v x (inr h) =
    elim (has_set xs k v x h) as (λ _. (v ≡ x) ⊎ Has (a ∷ xs) x) [ inl e ↦ inl e | inr p ↦ inr (inr p) ]

-- what holds of all holds of each
pub each : {A : Type 0} (P : A → Type 0) (xs : List A) (x : A) → AllByRecursion P xs → Has xs x → P x
each P [] x all h = absurd h
each P (a ∷ xs) x all (inl e) = subst P e all.0
each P (a ∷ xs) x all (inr h) = each P xs x all.1 h

-- what is in the list of values is the value of one
pub has_mapped : {A B : Type 0} (f : A → B) (xs : List A) (y : B) → Has (map f xs) y → (x : A) × Has xs x × (f x ≡ y)
has_mapped f [] y h = absurd h
has_mapped f (x ∷ xs) y (inl e) = (x, inl refl, e)
has_mapped f (x ∷ xs) y (inr h) = let rest = has_mapped f xs y h in (rest.0, inr rest.1, rest.2)

pub maps_has : {A B : Type 0} (f : A → B) (xs : List A) (x : A) → Has xs x → Has (map f xs) (f x)
maps_has f [] x h = absurd h
maps_has f (a ∷ xs) x (inl e) = inl (ap f e)
maps_has f (a ∷ xs) x (inr h) = inr (maps_has f xs x h)

pub all_append : {A : Type 0} (P : A → Type 0) (xs ys : List A) → AllByRecursion P xs → AllByRecursion P ys → AllByRecursion P (xs ++ ys)
all_append P [] ys first second = second
all_append P (x ∷ xs) ys first second = (first.0, all_append P xs ys first.1 second)

pub all_map : {A B : Type 0} (P : B → Type 0) (f : A → B) → ((x : A) → P (f x)) → (xs : List A) → AllByRecursion P (map f xs)
all_map P f holds [] = tt
all_map P f holds (x ∷ xs) = (holds x, all_map P f holds xs)

-- by a test the one list or the other
pub all_either : {A : Type 0} (P : A → Type 0) (b : Bool) (xs ys : List A) → AllByRecursion P xs → AllByRecursion P ys → AllByRecursion P (cond b xs ys)
all_either P true xs ys first second = first
all_either P false xs ys first second = second

-- ---- the places that a loop has passed

pub takes_more : {A B : Type 0} (f : A → B) (xs : List A) (i : ℕ) (x : A) → i < length xs → x ≡ get_or xs i x → map f (take (i + 1) xs) ≡ map f (take i xs) ++ f x ∷ []
takes_more f xs i x within is =
    ap (λ l. map f l) (take_more xs i x within) ∙ map-append f (take i xs) (get_or xs i x ∷ []) ∙ ap (λ y. map f (take i xs) ++ f y ∷ []) (sym is)

pub takes_all : {A B : Type 0} (f : A → B) (xs : List A) (i : ℕ) → length xs ≤ i → map f (take i xs) ≡ map f xs
takes_all f xs i past = ap (λ l. map f l) (take_all i xs past)

-- one more place
pub all_more : {A B : Type 0} (P : B → Type 0) (f : A → B) (xs : List A) (i : ℕ) (x : A) → i < length xs → x ≡ get_or xs i x
    → AllByRecursion P (map f (take i xs)) → P (f x) → AllByRecursion P (map f (take (i + 1) xs))
all_more P f xs i x within is before here =
    subst (AllByRecursion P) (sym (takes_more f xs i x within is)) (all_append P (map f (take i xs)) (f x ∷ []) before (here, tt))

pub all_mapped : {A B : Type 0} (P : B → Type 0) (f : A → B) (xs : List A) → AllByRecursion (λ x. P (f x)) xs → AllByRecursion P (map f xs)
all_mapped P f [] all = tt
all_mapped P f (x ∷ xs) all = (all.0, all_mapped P f xs all.1)
