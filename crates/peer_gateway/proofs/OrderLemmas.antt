-- Lists that rise.
use Rattle.std.proofs.Common.{◌≡◌, ◌⊎◌, ◌+◌, ◌<◌, ℕ, zero, suc, Bool, true, false, cond, List, [], ◌∷◌, ◌++◌, length, filter, get_or, take, drop, Result, Ok, Err, MatchResult, refl, sym, ap, ◌∙◌, subst, inl, inr, arith, add-one}
use Rattle.std.specs.Cmp.{IsTotalOrder}
use Rattle.std.specs.List.Sorted.{IsSearchInRange, IsBinarySearchResult, IsNonDecreasingBy}
use Rattle.std.specs.Ordering.{is_lt, ordering_reverse, ordering_index}
use Rattle.std.specs.declared.cmp.Ordering.{Ordering}
use Rattle.std.specs.declared.cmp.Ordering.TheVariants.{Less, Equal, Greater}
use Rattle.std.proofs.lemmas.Cmp.{tied_itself, alike_right}
use Rattle.std.proofs.lemmas.List.{take-append-drop, get_or-take, get_or-drop, length-take, length-drop}
use Rattle.std.proofs.lemmas.List.Sorted.{searchable_from_sorted}
use Rattle.peer_gateway.specs.Happenings.{Has}
use Rattle.peer_gateway.specs.Order.{Rise, IsAt, BelongsAt, IsWith, IsWithout}
use Rattle.peer_gateway.proofs.MemberLemmas.{Distinct, has_left, has_right, has_parts, all_from_has, has_from_all, filter_has, has_index, has_middle, middle_has, middle_itself, index_has}

pub rise_distinct : {A : Type 0} {order : A → A → Ordering} (o : IsTotalOrder order) (xs : List A) → Rise order xs → Distinct xs
rise_distinct o [] up = tt
rise_distinct {A} {order} o (x ∷ xs) up = (
  λ h. let less : order x x ≡ Less = has_from_all (λ y. order x y ≡ Less) xs x up.0 h in
      let same : order x x ≡ Equal = tied_itself o x in cc,
  rise_distinct o xs up.1,
)

rise_step : {A : Type 0} (order : A → A → Ordering) (a : A) (ys : List A) (b : Bool)
    → ((y : A) → Has ys y → order a y ≡ Less) → Rise order ys → Rise order (cond b (a ∷ ys) ys)
rise_step order a ys true above up = (all_from_has (λ y. order a y ≡ Less) ys above, up)
rise_step order a ys false above up = up

pub rise_filter : {A : Type 0} (order : A → A → Ordering) (p : A → Bool) (xs : List A) → Rise order xs → Rise order (filter p xs)
rise_filter order p [] up = tt
rise_filter order p (a ∷ xs) up =
    rise_step order a (filter p xs) (p a)
    (λ y h. has_from_all (λ y. order a y ≡ Less) xs y up.0 (filter_has p xs y h).0) (rise_filter order p xs up.1)

pub rise_front : {A : Type 0} (order : A → A → Ordering) (xs ys : List A) → Rise order (xs ++ ys) → Rise order xs
rise_front order [] ys up = tt
rise_front order (a ∷ xs) ys up = (
  all_from_has (λ y. order a y ≡ Less) xs (λ y h. has_from_all (λ y. order a y ≡ Less) (xs ++ ys) y up.0 (has_left xs ys y h)),
  rise_front order xs ys up.1,
)

pub rise_back : {A : Type 0} (order : A → A → Ordering) (xs ys : List A) → Rise order (xs ++ ys) → Rise order ys
rise_back order [] ys up = up
rise_back order (a ∷ xs) ys up = rise_back order xs ys up.1

pub rise_across : {A : Type 0} (order : A → A → Ordering) (xs ys : List A) → Rise order (xs ++ ys)
    → (x y : A) → Has xs x → Has ys y → order x y ≡ Less
rise_across order [] ys up x y h k = absurd h
rise_across order (a ∷ xs) ys up x y (inl e) k =
    ap (λ z. order z y) (sym e) ∙ has_from_all (λ y. order a y ≡ Less) (xs ++ ys) y up.0 (has_right xs ys y k)
rise_across order (a ∷ xs) ys up x y (inr h) k = rise_across order xs ys up.1 x y h k

pub rise_joined : {A : Type 0} (order : A → A → Ordering) (xs ys : List A) → Rise order xs → Rise order ys
    → ((x y : A) → Has xs x → Has ys y → order x y ≡ Less) → Rise order (xs ++ ys)
rise_joined order [] ys up vp across = vp
rise_joined {A} order (a ∷ xs) ys up vp across = (
  all_from_has (λ y. order a y ≡ Less) (xs ++ ys)
      (λ y h. elim (has_parts xs ys y h) as (λ _. order a y ≡ Less)
      [ inl p ↦ has_from_all (λ y. order a y ≡ Less) xs y up.0 p | inr q ↦ across a y (inl refl) q ]),
  rise_joined order xs ys up.1 vp (λ x y h k. across x y (inr h) k),
)

-- a greater one seen from the other side
pub turned : {A : Type 0} {order : A → A → Ordering} (o : IsTotalOrder order) (x y : A) → order x y ≡ Greater → order y x ≡ Less
turned o x y e = o.antisymm y x ∙ ap ordering_reverse e

pub turned_back : {A : Type 0} {order : A → A → Ordering} (o : IsTotalOrder order) (x y : A) → order x y ≡ Less → order y x ≡ Greater
turned_back o x y e = o.antisymm y x ∙ ap ordering_reverse e

-- one in the midst taken out
pub rise_without : {A : Type 0} (order : A → A → Ordering) (xs ys : List A) (y : A) → Rise order (xs ++ y ∷ ys) → Rise order (xs ++ ys)
rise_without order xs ys y up =
    rise_joined order xs ys (rise_front order xs (y ∷ ys) up) (rise_back order xs (y ∷ ys) up).1
    (λ a b h k. rise_across order xs (y ∷ ys) up a b h (inr k))

-- one put in the midst
pub rise_with : {A : Type 0} (order : A → A → Ordering) (xs ys : List A) (y : A) → Rise order (xs ++ ys)
    → ((x : A) → Has xs x → order x y ≡ Less) → ((x : A) → Has ys x → order y x ≡ Less) → Rise order (xs ++ y ∷ ys)
rise_with {A} order xs ys y up below above =
    rise_joined order xs (y ∷ ys) (rise_front order xs ys up)
    (all_from_has (λ z. order y z ≡ Less) ys above, rise_back order xs ys up)
    (λ a b h k. elim k as (λ _. order a b ≡ Less)
    [ inl e ↦ ap (λ z. order a z) (sym e) ∙ below a h | inr q ↦ rise_across order xs ys up a b h q ])

-- one put in the place of one that ranks the same
pub rise_replaced : {A : Type 0} {order : A → A → Ordering} (o : IsTotalOrder order) (xs ys : List A) (x y : A)
    → order x y ≡ Equal → Rise order (xs ++ x ∷ ys) → Rise order (xs ++ y ∷ ys)
rise_replaced {A} {order} o xs ys x y same up =
    rise_with order xs ys y (rise_without order xs ys x up)
    (λ a h. sym (alike_right o x y a same) ∙ rise_across order xs (x ∷ ys) up a x h (inl refl))
    (λ a h. sym (o.congr x y a same) ∙ has_from_all (λ z. order x z ≡ Less) ys a (rise_back order xs (x ∷ ys) up).0 h)

-- ---- places

pub split_here : {A : Type 0} (xs : List A) (i : ℕ) (d : A) → i < length xs → xs ≡ take i xs ++ get_or xs i d ∷ drop (suc i) xs
split_here [] i d l = absurd (omega arith)
split_here (a ∷ xs) zero d l = refl
split_here (a ∷ xs) (suc i) d l = ap (λ zs. a ∷ zs) (split_here xs i d (omega arith))

neighbours : {A : Type 0} {order : A → A → Ordering} (o : IsTotalOrder order) (xs : List A) → Rise order xs
    → (k : ℕ) (d : A) → suc k < length xs → is_lt (order (get_or xs (suc k) d) (get_or xs k d)) ≡ false
neighbours o [] up k d l = absurd (omega arith)
neighbours o (x ∷ []) up k d l = absurd (omega arith)
neighbours o (x ∷ y ∷ ys) up zero d l = ap is_lt (turned_back o x y up.0.0)
neighbours o (x ∷ y ∷ ys) up (suc k) d l = neighbours o (y ∷ ys) up.1 k d (omega arith)

searchable : {A : Type 0} {order : A → A → Ordering} (o : IsTotalOrder order) (xs : List A) (x : A) → Rise order xs
    → IsNonDecreasingBy (λ y. ordering_index (order y x)) xs
searchable {A} {order} o xs x up =
    searchable_from_sorted o (λ (y : A). y) xs x
    (λ k d low l. subst (λ (n : ℕ). is_lt (order (get_or xs n d) (get_or xs k d)) ≡ false) (sym (add-one k))
    (neighbours o xs up k d (omega arith)))

-- what a search finds
pub place_found : {A : Type 0} {order : A → A → Ordering} (o : IsTotalOrder order) (xs : List A) (x : A) (r : Result ℕ ℕ) → Rise order xs
    → IsSearchInRange r (length xs) → IsBinarySearchResult (λ y. order y x) xs r
    → MatchResult r (IsAt (λ y. order y x) xs) (BelongsAt (λ y. order y x) xs)
place_found o xs x (Ok i) up within found = record { within = within; equal = found }
place_found {A} {order} o xs x (Err i) up within found =
    let parts = found (searchable o xs x up) in
    record {
      within = within;
      before = λ y h.
          let m = has_index (take i xs) y h in
          let low : m.0 < i = omega (arith, length-take i xs) in
          ap (λ z. order z x) (sym (m.2 y) ∙ get_or-take i xs m.0 y low) ∙ parts.0 m.0 y (omega arith) low;
      after = λ y h.
          let m = has_index (drop i xs) y h in
          let high : i + m.0 < length xs = omega (arith, length-drop i xs) in
          ap (λ z. order z x) (sym (m.2 y) ∙ get_or-drop i xs m.0 y) ∙ parts.1 (i + m.0) y (omega arith) high;
    }

-- ---- one more, and one less

-- what belongs somewhere isn't there
pub absent : {A : Type 0} {order : A → A → Ordering} (o : IsTotalOrder order) (xs : List A) (x : A) (i : ℕ)
    → BelongsAt (λ y. order y x) xs i → Has xs x → ⊥
absent {A} {order} o xs x i place h =
    let same : order x x ≡ Equal = tied_itself o x in
    elim (has_parts (take i xs) (drop i xs) x (subst (λ (zs : List A). Has zs x) (sym (take-append-drop i xs)) h)) as (λ _. ⊥) [
      | inl p ↦ let less : order x x ≡ Less = place.before x p in cc
      | inr q ↦ let more : order x x ≡ Greater = place.after x q in cc
    ]

pub rise_inserted : {A : Type 0} {order : A → A → Ordering} (o : IsTotalOrder order) (xs : List A) (x : A) (i : ℕ)
    → Rise order xs → BelongsAt (λ y. order y x) xs i → Rise order (take i xs ++ x ∷ drop i xs)
rise_inserted {A} {order} o xs x i up place =
    rise_with order (take i xs) (drop i xs) x (subst (λ (zs : List A). Rise order zs) (sym (take-append-drop i xs)) up)
    place.before (λ y h. turned o y x (place.after y h))

pub rise_removed : {A : Type 0} (order : A → A → Ordering) (xs : List A) (i : ℕ) (d : A) → i < length xs
    → Rise order xs → Rise order (take i xs ++ drop (suc i) xs)
rise_removed {A} order xs i d l up =
    rise_without order (take i xs) (drop (suc i) xs) (get_or xs i d)
    (subst (λ (zs : List A). Rise order zs) (split_here xs i d l) up)

pub inserted : {A : Type 0} (xs : List A) (x : A) (i : ℕ) → IsWith x xs (take i xs ++ x ∷ drop i xs)
inserted {A} xs x i =
    record {
      here = middle_itself (take i xs) (drop i xs) x;
      stay = λ y h. middle_has (take i xs) (drop i xs) x y (subst (λ (zs : List A). Has zs y) (sym (take-append-drop i xs)) h);
      from = λ y h. elim (has_middle (take i xs) (drop i xs) x y h) as (λ _. (y ≡ x) ⊎ Has xs y)
          [ inl e ↦ inl e | inr q ↦ inr (subst (λ (zs : List A). Has zs y) (take-append-drop i xs) q) ];
    }

pub had_already : {A : Type 0} (xs : List A) (x : A) → Has xs x → IsWith x xs xs
had_already xs x h = record { here = h; stay = λ y k. k; from = λ y k. inr k }

pub had_never : {A : Type 0} (xs : List A) (x : A) → (Has xs x → ⊥) → IsWithout x xs xs
had_never {A} xs x none =
    record { stay = λ y h _. h; from = λ y h. (h, λ e. none (subst (λ (z : A). Has xs z) e h)) }

-- what stands in the midst of a list without repeats is nowhere else in it
pub apart_middle : {A : Type 0} {order : A → A → Ordering} (o : IsTotalOrder order) (xs ys : List A) (x y : A)
    → Rise order (xs ++ x ∷ ys) → Has (xs ++ ys) y → order y x ≡ Equal → ⊥
apart_middle {A} {order} o xs ys x y up h e =
    elim (has_parts xs ys y h) as (λ _. ⊥) [
      | inl p ↦ let less : order y x ≡ Less = rise_across order xs (x ∷ ys) up y x p (inl refl) in cc
      | inr q ↦ let more : order y x ≡ Greater =
          turned_back o x y (has_from_all (λ z. order x z ≡ Less) ys y (rise_back order xs (x ∷ ys) up).0 q) in cc
    ]

pub removed : {A : Type 0} {order : A → A → Ordering} (o : IsTotalOrder order) (xs : List A) (x : A) (i : ℕ)
    → i < length xs → get_or xs i x ≡ x → Rise order xs → IsWithout x xs (take i xs ++ drop (suc i) xs)
removed {A} {order} o xs x i l here up =
    let split : xs ≡ take i xs ++ x ∷ drop (suc i) xs = subst (λ (z : A). xs ≡ take i xs ++ z ∷ drop (suc i) xs) here (split_here xs i x l) in
    record {
      stay = λ y h other. elim (has_middle (take i xs) (drop (suc i) xs) x y (subst (λ (zs : List A). Has zs y) split h))
          as (λ _. Has (take i xs ++ drop (suc i) xs) y) [ inl e ↦ absurd (other e) | inr q ↦ q ];
      from = λ y h. (
        subst (λ (zs : List A). Has zs y) (sym split) (middle_has (take i xs) (drop (suc i) xs) x y h),
        λ e. apart_middle o (take i xs) (drop (suc i) xs) x y (subst (λ (zs : List A). Rise order zs) split up) h
            (ap (λ z. order z x) e ∙ tied_itself o x),
      );
    }

-- what ranks the same is the same: so what is found is there
pub found_itself : {A : Type 0} {order : A → A → Ordering} → ((x y : A) → order x y ≡ Equal → x ≡ y) → (xs : List A) (x : A) (i : ℕ)
    → IsAt (λ y. order y x) xs i → Has xs x
found_itself {A} {order} alike xs x i place =
    subst (λ (z : A). Has xs z) (alike (get_or xs i x) x (place.equal x)) (index_has xs i x place.within)
