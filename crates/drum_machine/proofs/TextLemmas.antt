-- Texts that are appended to a sink one after another, and of which the first bytes were appended before it failed.
use Rattle.std.proofs.Common.{◌≡◌, ℕ, ◌+◌, ◌<◌, ◌≤◌, List, [], ◌∷◌, ◌++◌, length, take, drop, get_or, Option, Some, None, refl, ap, sym, subst, ◌∙◌, arith, append_assoc, append-nil, length-append}
use Rattle.std.proofs.Math.Seq.{take-append-add, take-append_seam}
use Rattle.std.proofs.lemmas.List.{take-append-drop, take-append-le, take_more}
use Rattle.std.proofs.lemmas.Grind.{flat_map-append}
use Rattle.std.specs.List.{flat_map}
use Rattle.std.specs.Option.{option_map}
use Rattle.lk_outside.specs.Sink.{Appends}
use Rattle.lk_outside.specs.Transfer.{AppendsPrefix}

-- ---- two texts

pub none_appended : (before : Option (List ℕ)) → Appends before [] before
none_appended None = refl
none_appended (Some old) = ap Some (sym (append-nil old))

two_parts : (before : Option (List ℕ)) (xs ys : List ℕ)
    → option_map (λ old. old ++ ys) (option_map (λ old. old ++ xs) before) ≡ option_map (λ old. old ++ (xs ++ ys)) before
two_parts None xs ys = refl
two_parts (Some old) xs ys = ap Some (append_assoc old xs ys)

pub appends_more : (before mid after : Option (List ℕ)) (xs ys all : List ℕ) → xs ++ ys ≡ all → Appends before xs mid → Appends mid ys after → Appends before all after
appends_more before mid after xs ys all is first second =
    second ∙ ap (option_map (λ old. old ++ ys)) first ∙ two_parts before xs ys ∙ ap (λ l. option_map (λ old. old ++ l) before) is

-- how many bytes of both texts were appended, where of the second the first bytes were
pub front_more : (before mid after : Option (List ℕ)) (xs ys all : List ℕ) → xs ++ ys ≡ all → Appends before xs mid → AppendsPrefix mid ys after
    → (n : ℕ) × (length xs ≤ n) × (n ≤ length all) × Appends before (take n all) after
front_more before mid after xs ys all is first (n, within, second) = (
  length xs + n,
  omega arith,
  omega (arith, ap length is, length-append xs ys, within),
  subst (λ bytes. Appends before (take (length xs + n) bytes) after) is
      (appends_more before mid after xs (take n ys) (take (length xs + n) (xs ++ ys)) (sym (take-append-add xs ys n)) first second),
)

-- none of the second
pub front_same : (before after : Option (List ℕ)) (xs ys all : List ℕ) → xs ++ ys ≡ all → Appends before xs after → Appends before (take (length xs) all) after
front_same before after xs ys all is first =
    subst (λ bytes. Appends before bytes after) (sym (take-append_seam xs ys) ∙ ap (take (length xs)) is) first

-- all of a text
pub front_whole : (before after : Option (List ℕ)) (all : List ℕ) → Appends before all after → Appends before (take (length all) all) after
front_whole before after all whole = front_same before after all [] all (append-nil all) whole

pub prefix_after : (before mid after : Option (List ℕ)) (xs ys all : List ℕ) → xs ++ ys ≡ all → Appends before xs mid → AppendsPrefix mid ys after → AppendsPrefix before all after
prefix_after before mid after xs ys all is first second =
    let front = front_more before mid after xs ys all is first second in
    (front.0, front.2, front.3)

pub prefix_of_more : (before after : Option (List ℕ)) (xs ys all : List ℕ) → xs ++ ys ≡ all → AppendsPrefix before xs after → AppendsPrefix before all after
prefix_of_more before after xs ys all is (n, within, part) = (
  n,
  omega (arith, ap length is, length-append xs ys, within),
  subst (λ bytes. Appends before (take n bytes) after) is (subst (λ bytes. Appends before bytes after) (sym (take-append-le n xs ys within)) part),
)

-- ---- the texts of a list's elements

module _ {A : Type 0} (f : A → List ℕ) (xs : List A) (k : ℕ) (d x : A) where
  pub texts_more : k < length xs → get_or xs k d ≡ x → flat_map f (take k xs) ++ f x ≡ flat_map f (take (k + 1) xs)
  texts_more within is =
      ap (λ l. flat_map f (take k xs) ++ l) (ap f (sym is) ∙ sym (append-nil (f (get_or xs k d))))
      ∙ sym (flat_map-append f (take k xs) (get_or xs k d ∷ []))
      ∙ ap (flat_map f) (sym (take_more xs k d within))

  pub texts_front : (before mid after : Option (List ℕ)) → k < length xs → get_or xs k d ≡ x
      → Appends before (flat_map f (take k xs)) mid → AppendsPrefix mid (f x) after → AppendsPrefix before (flat_map f xs) after
  texts_front before mid after within is first second =
      let upto : AppendsPrefix before (flat_map f (take (k + 1) xs)) after =
      prefix_after before mid after (flat_map f (take k xs)) (f x) (flat_map f (take (k + 1) xs)) (texts_more within is) first second in
      let all : flat_map f (take (k + 1) xs) ++ flat_map f (drop (k + 1) xs) ≡ flat_map f xs =
      sym (flat_map-append f (take (k + 1) xs) (drop (k + 1) xs)) ∙ ap (flat_map f) (take-append-drop (k + 1) xs) in
      prefix_of_more before after (flat_map f (take (k + 1) xs)) (flat_map f (drop (k + 1) xs)) (flat_map f xs) all upto
