-- Members of lists: of joined, filtered and mapped ones, and how long lists with the same members are.
use Rattle.std.proofs.Common.{◌≡◌, ◌⊎◌, ◌<◌, ◌≤◌, ℕ, zero, suc, Bool, true, false, cond, List, [], ◌∷◌, ◌++◌, length, filter, map, get_or, refl, sym, ap, ◌∙◌, subst, inl, inr, arith}
use Rattle.std.specs.List.{AllByRecursion, list_any, list_all}
use Rattle.std.specs.Cmp.{both_ways}
use Rattle.std.proofs.lemmas.Bool.{or_cases, or_left, or_right, and_parts, false≢true}
use Rattle.peer_gateway.specs.Happenings.{Has}

pub has_left : {A : Type 0} (xs ys : List A) (x : A) → Has xs x → Has (xs ++ ys) x
has_left [] ys x h = absurd h
has_left (a ∷ xs) ys x (inl e) = inl e
has_left (a ∷ xs) ys x (inr h) = inr (has_left xs ys x h)

pub has_right : {A : Type 0} (xs ys : List A) (x : A) → Has ys x → Has (xs ++ ys) x
has_right [] ys x h = h
has_right (a ∷ xs) ys x h = inr (has_right xs ys x h)

pub has_parts : {A : Type 0} (xs ys : List A) (x : A) → Has (xs ++ ys) x → Has xs x ⊎ Has ys x
has_parts [] ys x h = inr h
has_parts (a ∷ xs) ys x (inl e) = inl (inl e)
has_parts (a ∷ xs) ys x (inr h) =
    elim (has_parts xs ys x h) as (λ _. Has (a ∷ xs) x ⊎ Has ys x) [ inl p ↦ inl (inr p) | inr q ↦ inr q ]

-- a member of a list with one in the midst
pub has_middle : {A : Type 0} (xs ys : List A) (y x : A) → Has (xs ++ y ∷ ys) x → (x ≡ y) ⊎ Has (xs ++ ys) x
has_middle [] ys y x (inl e) = inl (sym e)
has_middle [] ys y x (inr h) = inr h
has_middle (a ∷ xs) ys y x (inl e) = inr (inl e)
has_middle (a ∷ xs) ys y x (inr h) =
    elim (has_middle xs ys y x h) as (λ _. (x ≡ y) ⊎ Has (a ∷ (xs ++ ys)) x) [ inl e ↦ inl e | inr q ↦ inr (inr q) ]

pub middle_has : {A : Type 0} (xs ys : List A) (y x : A) → Has (xs ++ ys) x → Has (xs ++ y ∷ ys) x
middle_has [] ys y x h = inr h
middle_has (a ∷ xs) ys y x (inl e) = inl e
middle_has (a ∷ xs) ys y x (inr h) = inr (middle_has xs ys y x h)

pub middle_itself : {A : Type 0} (xs ys : List A) (y : A) → Has (xs ++ y ∷ ys) y
middle_itself xs ys y = has_right xs (y ∷ ys) y (inl refl)

-- ---- filters

kept_more : {A : Type 0} (a : A) (ys : List A) (x : A) (b : Bool) → Has ys x → Has (cond b (a ∷ ys) ys) x
kept_more a ys x true h = inr h
kept_more a ys x false h = h

pub has_filter : {A : Type 0} (p : A → Bool) (xs : List A) (x : A) → Has xs x → p x ≡ true → Has (filter p xs) x
has_filter p [] x h t = absurd h
has_filter p (a ∷ xs) x (inl e) t =
    subst (λ (b : Bool). Has (cond b (a ∷ filter p xs) (filter p xs)) x) (sym (ap p e ∙ t)) (inl e)
has_filter p (a ∷ xs) x (inr h) t = kept_more a (filter p xs) x (p a) (has_filter p xs x h t)

filter_step : {A : Type 0} (p : A → Bool) (a : A) (xs ys : List A) (x : A) (b : Bool) → p a ≡ b
    → (Has ys x → Has xs x × (p x ≡ true)) → Has (cond b (a ∷ ys) ys) x → Has (a ∷ xs) x × (p x ≡ true)
filter_step p a xs ys x true e more (inl q) = (inl q, sym (ap p q) ∙ e)
filter_step p a xs ys x true e more (inr h) = (inr (more h).0, (more h).1)
filter_step p a xs ys x false e more h = (inr (more h).0, (more h).1)

pub filter_has : {A : Type 0} (p : A → Bool) (xs : List A) (x : A) → Has (filter p xs) x → Has xs x × (p x ≡ true)
filter_has p [] x h = absurd h
filter_has p (a ∷ xs) x h = filter_step p a xs (filter p xs) x (p a) refl (filter_has p xs x) h

pub has_map : {A B : Type 0} (f : A → B) (xs : List A) (x : A) → Has xs x → Has (map f xs) (f x)
has_map f [] x h = absurd h
has_map f (a ∷ xs) x (inl e) = inl (ap f e)
has_map f (a ∷ xs) x (inr h) = inr (has_map f xs x h)

pub map_has : {A B : Type 0} (f : A → B) (xs : List A) (y : B) → Has (map f xs) y → (x : A) × Has xs x × (f x ≡ y)
map_has f [] y h = absurd h
map_has f (a ∷ xs) y (inl e) = (a, inl refl, e)
map_has f (a ∷ xs) y (inr h) = let m = map_has f xs y h in (m.0, inr m.1, m.2)

-- ---- what holds of each member, or of one

pub all_from_has : {A : Type 0} (P : A → Type 0) (xs : List A) → ((x : A) → Has xs x → P x) → AllByRecursion P xs
all_from_has P [] each = tt
all_from_has P (a ∷ xs) each = (each a (inl refl), all_from_has P xs (λ x h. each x (inr h)))

pub has_from_all : {A : Type 0} (P : A → Type 0) (xs : List A) (x : A) → AllByRecursion P xs → Has xs x → P x
has_from_all P [] x all h = absurd h
has_from_all P (a ∷ xs) x all (inl e) = subst P e all.0
has_from_all P (a ∷ xs) x all (inr h) = has_from_all P xs x all.1 h

pub any_from_has : {A : Type 0} (p : A → Bool) (xs : List A) (x : A) → Has xs x → p x ≡ true → list_any p xs ≡ true
any_from_has p [] x h t = absurd h
any_from_has p (a ∷ xs) x (inl e) t = or_left (p a) (list_any p xs) (ap p e ∙ t)
any_from_has p (a ∷ xs) x (inr h) t = or_right (p a) (list_any p xs) (any_from_has p xs x h t)

pub has_from_any : {A : Type 0} (p : A → Bool) (xs : List A) → list_any p xs ≡ true → (x : A) × Has xs x × (p x ≡ true)
has_from_any p [] t = absurd (false≢true t)
has_from_any {A} p (a ∷ xs) t =
    elim (or_cases (p a) (list_any p xs) t) as (λ _. (x : A) × Has (a ∷ xs) x × (p x ≡ true))
    [ inl e ↦ (a, inl refl, e) | inr e ↦ let m = has_from_any p xs e in (m.0, inr m.1, m.2) ]

pub any_same : {A : Type 0} (p : A → Bool) (xs ys : List A) → ((x : A) → Has xs x → Has ys x) → ((x : A) → Has ys x → Has xs x)
    → list_any p xs ≡ list_any p ys
any_same p xs ys there back =
    both_ways (list_any p xs) (list_any p ys)
    (λ t. let m = has_from_any p xs t in any_from_has p ys m.0 (there m.0 m.1) m.2)
    (λ t. let m = has_from_any p ys t in any_from_has p xs m.0 (back m.0 m.1) m.2)

-- ---- lists without repeats

abbrev pub Distinct : {A : Type 0} → List A → Type 0
Distinct [] = Unit {0}
Distinct (x ∷ xs) = (Has xs x → ⊥) × Distinct xs

distinct_step : {A : Type 0} (a : A) (ys : List A) (b : Bool) → (Has ys a → ⊥) → Distinct ys → Distinct (cond b (a ∷ ys) ys)
distinct_step a ys true new d = (new, d)
distinct_step a ys false new d = d

pub distinct_filter : {A : Type 0} (p : A → Bool) (xs : List A) → Distinct xs → Distinct (filter p xs)
distinct_filter p [] d = tt
distinct_filter p (a ∷ xs) d =
    distinct_step a (filter p xs) (p a) (λ h. d.0 (filter_has p xs a h).0) (distinct_filter p xs d.1)

-- a list falls in two parts at a member
pub split_at : {A : Type 0} (xs : List A) (x : A) → Has xs x → (front : List A) × (back : List A) × (xs ≡ front ++ x ∷ back)
split_at [] x h = absurd h
split_at (a ∷ xs) x (inl e) = ([], xs, ap (λ z. z ∷ xs) e)
split_at (a ∷ xs) x (inr h) = let s = split_at xs x h in (a ∷ s.0, s.1, ap (λ zs. a ∷ zs) s.2)

length_middle : {A : Type 0} (xs ys : List A) (y : A) → length (xs ++ y ∷ ys) ≡ suc (length (xs ++ ys))
length_middle [] ys y = refl
length_middle (a ∷ xs) ys y = ap suc (length_middle xs ys y)

pub length_le : {A : Type 0} (xs ys : List A) → Distinct xs → ((x : A) → Has xs x → Has ys x) → length xs ≤ length ys
length_le [] ys d sub = omega arith
length_le {A} (a ∷ xs) ys d sub =
    let s = split_at ys a (sub a (inl refl)) in
    let others : (x : A) → Has xs x → Has (s.0 ++ s.1) x =
    λ x h. elim (has_middle s.0 s.1 a x (subst (λ (zs : List A). Has zs x) s.2 (sub x (inr h)))) as (λ _. Has (s.0 ++ s.1) x)
    [ inl e ↦ absurd (d.0 (subst (λ (z : A). Has xs z) e h)) | inr q ↦ q ] in
    let less : length xs ≤ length (s.0 ++ s.1) = length_le xs (s.0 ++ s.1) d.1 others in
    let whole : length ys ≡ suc (length (s.0 ++ s.1)) = ap length s.2 ∙ length_middle s.0 s.1 a in
    omega arith

pub length_same : {A : Type 0} (xs ys : List A) → Distinct xs → Distinct ys
    → ((x : A) → Has xs x → Has ys x) → ((x : A) → Has ys x → Has xs x) → length xs ≡ length ys
length_same xs ys d e there back =
    let le = length_le xs ys d there in
    let ge = length_le ys xs e back in
    omega arith

-- those that pass a test
pub count_same : {A : Type 0} (p : A → Bool) (xs ys : List A) → Distinct xs → Distinct ys
    → ((x : A) → Has xs x → Has ys x) → ((x : A) → Has ys x → Has xs x) → length (filter p xs) ≡ length (filter p ys)
count_same p xs ys d e there back =
    length_same (filter p xs) (filter p ys) (distinct_filter p xs d) (distinct_filter p ys e)
    (λ x h. let m = filter_has p xs x h in has_filter p ys x (there x m.0) m.1)
    (λ x h. let m = filter_has p ys x h in has_filter p xs x (back x m.0) m.1)

-- ---- members by places

pub has_index : {A : Type 0} (xs : List A) (x : A) → Has xs x → (k : ℕ) × (k < length xs) × ((d : A) → get_or xs k d ≡ x)
has_index [] x h = absurd h
has_index (a ∷ xs) x (inl e) = (0, omega arith, λ d. e)
has_index (a ∷ xs) x (inr h) = let m = has_index xs x h in (suc m.0, omega arith, λ d. m.2 d)

pub index_has : {A : Type 0} (xs : List A) (k : ℕ) (d : A) → k < length xs → Has xs (get_or xs k d)
index_has [] k d l = absurd (omega arith)
index_has (a ∷ xs) zero d l = inl refl
index_has (a ∷ xs) (suc k) d l = inr (index_has xs k d (omega arith))

-- ---- a list that may begin with one more

pub has_cond : {A : Type 0} (a : A) (xs : List A) (x : A) (b : Bool) → Has (cond b (a ∷ xs) xs) x → ((a ≡ x) × (b ≡ true)) ⊎ Has xs x
has_cond a xs x true (inl e) = inl (e, refl)
has_cond a xs x true (inr h) = inr h
has_cond a xs x false h = inr h

pub has_from_all_of : {A : Type 0} (p : A → Bool) (xs : List A) (x : A) → list_all p xs ≡ true → Has xs x → p x ≡ true
has_from_all_of p [] x t h = absurd h
has_from_all_of p (a ∷ xs) x t (inl e) = sym (ap p e) ∙ (and_parts (p a) (list_all p xs) t).0
has_from_all_of p (a ∷ xs) x t (inr h) = has_from_all_of p xs x (and_parts (p a) (list_all p xs) t).1 h
