-- Lists of which a fact holds throughout.
use Rattle.std.proofs.Common.{Bool, List, [], ◌∷◌, map}
use Rattle.std.specs.Prelude.{cond}
use Rattle.std.specs.List.{AllByRecursion}
use Rattle.session_choice.proofs.Lists.{by_test}

pub all_map : {A B : Type 0} (P : B → Type 0) (f : A → B) → ((x : A) → P (f x)) → (xs : List A) → AllByRecursion P (map f xs)
all_map P f holds [] = tt
all_map P f holds (x ∷ xs) = (holds x, all_map P f holds xs)

-- by a test the one list or the other
pub all_either : {A : Type 0} (P : A → Type 0) (b : Bool) (xs ys : List A) → AllByRecursion P xs → AllByRecursion P ys → AllByRecursion P (cond b xs ys)
all_either P b xs ys first second = by_test (λ t. AllByRecursion P (cond t xs ys)) b (λ _. first) (λ _. second)
