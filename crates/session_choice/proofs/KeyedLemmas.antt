-- The first row of an id: its place, and what is done there.
use Rattle.std.proofs.Common.{◌≡◌, ℕ, suc, ◌+◌, ◌<◌, Bool, true, false, cond, List, [], ◌∷◌, length, map, get_or, set, Option, Some, None, refl, sym, ap, subst, ◌∙◌, arith, add-one}
use Rattle.std.specs.Prelude.{if◌then◌else◌, option_map}
use Rattle.std.specs.List.{position, position_from, remove}
use Rattle.std.proofs.lemmas.Iterator.Adapters.{position_from-zero}
use Rattle.lk_base.specs.IdOrder.{same_id}
use Rattle.lk_base.specs.declared.ids.NodeId.{NodeId}
use Rattle.session_choice.specs.Keyed.{found_by, updated_by, without_by}
use Rattle.session_choice.proofs.Lists.{by_test}

-- the place of the first row of an id, from 0
abbrev place_by : {A : Type 0} → (A → NodeId) → NodeId → List A → Option ℕ
place_by key id [] = None
place_by key id (row ∷ rows) = if same_id (key row) id then Some 0 else option_map suc (place_by key id rows)

module _ {A : Type 0} (key : A → NodeId) (id : NodeId) where
  abbrev pub has_id : A → Bool
  has_id row = same_id (key row) id

  -- ---- the place as std tells it

  later-place : (rows : List A) (i : ℕ) → position_from has_id (i + 1) rows ≡ option_map suc (position_from has_id i rows)
  later-place [] i = refl
  later-place (row ∷ rows) i =
      by_test (λ b. cond b (Some (i + 1)) (position_from has_id (i + 1 + 1) rows) ≡ option_map suc (cond b (Some i) (position_from has_id (i + 1) rows))) (has_id row)
      (λ _. ap Some (add-one i)) (λ _. later-place rows (i + 1))

  from-place : (rows : List A) → position_from has_id 0 rows ≡ place_by key id rows
  from-place [] = refl
  from-place (row ∷ rows) = ap (λ o. cond (has_id row) (Some 0) o) (later-place rows 0 ∙ ap (option_map suc) (from-place rows))

  position-place : (rows : List A) → position has_id rows ≡ place_by key id rows
  position-place rows = position_from-zero has_id rows ∙ from-place rows

  -- ---- what is at the place

  pub record IsAt (rows : List A) (k : ℕ) : Type 0 where
    pub inside : k < length rows
    pub same : (d : A) → has_id (get_or rows k d) ≡ true
    pub found : (d : A) → found_by key id rows ≡ Some (get_or rows k d)
    pub updated : (f : A → A) (d : A) → updated_by key id f rows ≡ set rows k (f (get_or rows k d))
    pub without : without_by key id rows ≡ remove rows k

  here : (row : A) (rows : List A) → has_id row ≡ true → IsAt (row ∷ rows) 0
  here row rows is = record {
    inside = omega arith;
    same = λ d. is;
    found = λ d. rw is refl;
    updated = λ f d. rw is refl;
    without = rw is refl;
  }

  there : (row : A) (rows : List A) (k : ℕ) → has_id row ≡ false → IsAt rows k → IsAt (row ∷ rows) (suc k)
  there row rows k is at = record {
    inside = omega (arith, at.inside);
    same = at.same;
    found = λ d. rw is (at.found d);
    updated = λ f d. rw is (ap (λ l. row ∷ l) (at.updated f d));
    without = rw is (ap (λ l. row ∷ l) at.without);
  }

  later : (row : A) (rows : List A) (k : ℕ) (place : Option ℕ) → has_id row ≡ false → ((j : ℕ) → place ≡ Some j → IsAt rows j) → option_map suc place ≡ Some k
      → IsAt (row ∷ rows) k
  later row rows k None is rest at = cc
  later row rows k (Some j) is rest at =
      let e : suc j ≡ k = cc in
      subst (λ (n : ℕ). IsAt (row ∷ rows) n) e (there row rows j is (rest j refl))

  place-at : (rows : List A) (k : ℕ) → place_by key id rows ≡ Some k → IsAt rows k
  place-at [] k at = cc
  place-at (row ∷ rows) k at =
      by_test (λ b. has_id row ≡ b → (if b then Some 0 else option_map suc (place_by key id rows)) ≡ Some k → IsAt (row ∷ rows) k) (has_id row)
      (λ _ is first. let e : 0 ≡ k = cc in subst (λ (n : ℕ). IsAt (row ∷ rows) n) e (here row rows is))
      (λ _ is more. later row rows k (place_by key id rows) is (place-at rows) more)
      refl at

  pub is_at : (rows : List A) (k : ℕ) → position has_id rows ≡ Some k → IsAt rows k
  is_at rows k at = place-at rows k (sym (position-place rows) ∙ at)

  -- ---- where the id isn't there

  none-later : (place : Option ℕ) → option_map suc place ≡ None → place ≡ None
  none-later None is = refl
  none-later (Some k) is = cc

  place-none : (rows : List A) → place_by key id rows ≡ None → found_by key id rows ≡ None
  place-none [] none = refl
  place-none (row ∷ rows) none =
      by_test (λ b. (if b then Some 0 else option_map suc (place_by key id rows)) ≡ None → (if b then Some row else found_by key id rows) ≡ None) (has_id row)
      (λ _ is. cc) (λ _ is. place-none rows (none-later (place_by key id rows) is)) none

  pub not_found : (rows : List A) → position has_id rows ≡ None → found_by key id rows ≡ None
  not_found rows none = place-none rows (sym (position-place rows) ∙ none)

  pub unchanged : (f : A → A) (rows : List A) → found_by key id rows ≡ None → updated_by key id f rows ≡ rows
  unchanged f [] none = refl
  unchanged f (row ∷ rows) none =
      by_test (λ b. (if b then Some row else found_by key id rows) ≡ None → (if b then f row ∷ rows else row ∷ updated_by key id f rows) ≡ row ∷ rows) (has_id row)
      (λ _ is. cc) (λ _ is. ap (λ l. row ∷ l) (unchanged f rows is)) none

  pub all_there : (rows : List A) → found_by key id rows ≡ None → without_by key id rows ≡ rows
  all_there [] none = refl
  all_there (row ∷ rows) none =
      by_test (λ b. (if b then Some row else found_by key id rows) ≡ None → (if b then rows else row ∷ without_by key id rows) ≡ row ∷ rows) (has_id row)
      (λ _ is. cc) (λ _ is. ap (λ l. row ∷ l) (all_there rows is)) none

-- ---- rows of one kind made of rows of another

module _ {A B : Type 0} (a_key : A → NodeId) (b_key : B → NodeId) (id : NodeId) (m : A → B) (same_key : (row : A) → b_key (m row) ≡ a_key row) where
  same_test : (row : A) → same_id (b_key (m row)) id ≡ same_id (a_key row) id
  same_test row = ap (λ k. same_id k id) (same_key row)

  pub map-found : (rows : List A) → found_by b_key id (map m rows) ≡ option_map m (found_by a_key id rows)
  map-found [] = refl
  map-found (row ∷ rows) =
      rw (same_test row)
      (by_test (λ b. (if b then Some (m row) else found_by b_key id (map m rows)) ≡ option_map m (if b then Some row else found_by a_key id rows)) (same_id (a_key row) id)
      (λ _. refl) (λ _. map-found rows))

  pub map-updated : (f : A → A) (g : B → B) → ((row : A) → m (f row) ≡ g (m row)) → (rows : List A)
      → map m (updated_by a_key id f rows) ≡ updated_by b_key id g (map m rows)
  map-updated f g step [] = refl
  map-updated f g step (row ∷ rows) =
      rw (same_test row)
      (by_test (λ b. map m (if b then f row ∷ rows else row ∷ updated_by a_key id f rows) ≡ (if b then g (m row) ∷ map m rows else m row ∷ updated_by b_key id g (map m rows))) (same_id (a_key row) id)
      (λ _. ap (λ x. x ∷ map m rows) (step row)) (λ _. ap (λ l. m row ∷ l) (map-updated f g step rows)))

  pub map-without : (rows : List A) → map m (without_by a_key id rows) ≡ without_by b_key id (map m rows)
  map-without [] = refl
  map-without (row ∷ rows) =
      rw (same_test row)
      (by_test (λ b. map m (if b then rows else row ∷ without_by a_key id rows) ≡ (if b then map m rows else m row ∷ without_by b_key id (map m rows))) (same_id (a_key row) id)
      (λ _. refl) (λ _. ap (λ l. m row ∷ l) (map-without rows)))
