-- Lists of which a fact or a test holds throughout.
use Rattle.std.proofs.Common.{◌≡◌, Bool, true, false, ◌&&◌, List, [], ◌∷◌, ◌++◌, Some, refl}
use Rattle.std.specs.List.{AllByRecursion, find, list_all}

-- cases on a test
pub by_test : (P : Bool → Type 0) (b : Bool) → (b ≡ true → P true) → (b ≡ false → P false) → P b
by_test P true f g = f refl
by_test P false f g = g refl

pub all_append : {A : Type 0} (P : A → Type 0) (xs ys : List A) → AllByRecursion P xs → AllByRecursion P ys → AllByRecursion P (xs ++ ys)
all_append P [] ys first second = second
all_append P (x ∷ xs) ys first second = (first.0, all_append P xs ys first.1 second)

pub all_weaken : {A : Type 0} (P Q : A → Type 0) → ((x : A) → P x → Q x) → (xs : List A) → AllByRecursion P xs → AllByRecursion Q xs
all_weaken P Q more [] all = tt
all_weaken P Q more (x ∷ xs) all = (more x all.0, all_weaken P Q more xs all.1)

pub list_all-true : {A : Type 0} (test : A → Bool) (xs : List A) → AllByRecursion (λ x. test x ≡ true) xs → list_all test xs ≡ true
list_all-true test [] all = refl
list_all-true test (x ∷ xs) all = rw all.0 (list_all-true test xs all.1)

pub list_all-false : {A : Type 0} (test : A → Bool) (before after : List A) (x : A) → test x ≡ false → list_all test (before ++ x ∷ after) ≡ false
list_all-false test [] after x fails = rw fails refl
list_all-false test (y ∷ before) after x fails =
    rw (list_all-false test before after x fails) (by_test (λ b. (b && false) ≡ false) (test y) (λ _. refl) (λ _. refl))

-- what is found is the first that passes
pub find_between : {A : Type 0} (test : A → Bool) (before after : List A) (x : A) → AllByRecursion (λ y. test y ≡ false) before → test x ≡ true
    → find test (before ++ x ∷ after) ≡ Some x
find_between test [] after x none passes = rw passes refl
find_between test (y ∷ before) after x none passes = rw none.0 (find_between test before after x none.1 passes)
