-- What the only application captured and committed, whatever its commands came from, once its link has ended.
use Rattle.std.proofs.Common.{◌≡◌, true, List, [], ◌∷◌, ◌++◌, length, refl, sym, ap, subst, ◌∙◌, arith}
use Rattle.std.specs.List.{AllByRecursion, All}
use Rattle.std.proofs.lemmas.List.Elements.{All-nil, All-cons, All-head}
use mathlib.Core.Option.{some}
use lib.ListN.{get_elem?}
use Rattle.audio_handoff.specs.Cell.{Pair}
use Rattle.client_state.specs.Words.{state_of_words}
use Rattle.client_state.specs.declared.commit.Commit.{Commit}
use Rattle.client_state.specs.declared.state.State.{State}
use Rattle.link_shared.specs.Ending.{HasHeard, WerePublished}
use Rattle.link_shared.specs.Passes.{AppView}
use Rattle.link_shared.specs.declared.capture.Capture.{Capture}
use Rattle.link_live.specs.Headline.{ArePublished}
use Rattle.link_live.specs.TakingRun.{IsIn}

-- ---- its captures

-- each has the number and the state of the pair at its place
abbrev pub AreOf : List Capture → List Pair → Type 0
AreOf [] pairs = Unit {0}
AreOf (capture ∷ captures) [] = ⊥
AreOf (capture ∷ captures) (pair ∷ pairs) = (capture.number ≡ pair.0) × (capture.state ≡ state_of_words pair.1) × AreOf captures pairs

-- what was captured was published
pub captures_published : (published : List State) (seen : List Pair) (captures : List Capture) (pairs : List Pair)
    → WerePublished published seen → AllByRecursion (IsIn seen) pairs → AreOf captures pairs → ArePublished published captures
captures_published published seen [] pairs were known are = All-nil (λ (c : Capture). get_elem? published c.number ≡ some c.state)
captures_published published seen (capture ∷ captures) [] were known are = absurd are
captures_published published seen (capture ∷ captures) (pair ∷ pairs) were known are =
    All-cons (λ (c : Capture). get_elem? published c.number ≡ some c.state) capture captures
    (ap (λ n. get_elem? published n) are.0 ∙ were known.0.0 pair known.0.1 ∙ ap (λ (s : State). some s) (sym are.1))
    (captures_published published seen captures pairs were known.1 are.2)

-- ---- its commits

-- what the pass knew, where it alone was handed in
pub was_heard : (published : List State) (pushed : List Commit) (handed : List AppView) (app : AppView)
    → All (HasHeard published pushed) handed → handed ≡ app ∷ [] → HasHeard published pushed app
was_heard published pushed handed app all only =
    All-head (HasHeard published pushed) app [] (subst (λ (l : List AppView). All (HasHeard published pushed) l) only all)

-- a list that begins another one of its length is that list
same_list : {A : Type 0} (xs ys more : List A) → ys ≡ xs ++ more → length xs ≡ length ys → xs ≡ ys
same_list [] [] more split len = refl
same_list [] (y ∷ ys) more split len = absurd (omega (arith, len))
same_list (x ∷ xs) [] more split len = absurd (omega (arith, len))
same_list (x ∷ xs) (y ∷ ys) more split len =
    let same : y ≡ x = cc split in let later : ys ≡ xs ++ more = cc split in
    ap (λ h. h ∷ xs) (sym same) ∙ ap (λ l. y ∷ l) (same_list xs ys more later (omega (arith, len)))

-- the commits of the only pass are all that were pushed
pub all_pushed : (published : List State) (pushed commits : List Commit) (app : AppView)
    → HasHeard published pushed app → app.sole ≡ true → app.made ≡ length commits → app.pushed ≡ commits → commits ≡ pushed
all_pushed published pushed commits app heard sole made are =
    same_list commits pushed heard.begins.0 (heard.begins.1 ∙ ap (λ l. l ++ heard.begins.0) are) (sym made ∙ heard.sole sole)
