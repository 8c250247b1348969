-- The rows of a life are its sightings that nothing later ends.
use Rattle.std.proofs.Common.{◌≡◌, ◌+◌, ◌≤ℤ◌, ℕ, ℤ, zero, suc, Bool, true, false, not, cond, int_lt, List, [], ◌∷◌, Some, drop, slice_get, refl, sym, ◌∙◌, subst, inl, inr, arith, All, add-one}
use Rattle.std.specs.List.{list_all}
use Rattle.std.proofs.lemmas.Bool.{false≢true, and_from, not-true, not_from_false, false_from_ne_true}
use Rattle.std.proofs.lemmas.Int.{ints}
use Rattle.std.proofs.lemmas.List.Elements.{All-from_recursion, recursion_from_All}
use Rattle.lk_base.specs.declared.endpoint.Gate.{Gate}
use Rattle.lk_base.specs.declared.ids.NodeId.{NodeId}
use Rattle.peer_gateway.specs.Happenings.{Happening, Ends, IsRowAfter, outlives, is_row_of, rows_of, Has}
use Rattle.peer_gateway.specs.Happenings.Happening.{sighting, goodbye, pruning}
use Rattle.peer_gateway.specs.declared.row.PeerRow.{PeerRow}
use Rattle.peer_gateway.proofs.KeyLemmas.{key_from_test, test_from_key}
use Rattle.peer_gateway.proofs.MemberLemmas.{has_cond, all_from_has, has_from_all, has_from_all_of}

still_later : (limit moment : ℤ) → int_lt moment limit ≡ true → limit ≤ℤ moment → ⊥
still_later limit moment e h = grind (arith, ints)

later_still : (limit moment : ℤ) → (limit ≤ℤ moment → ⊥) → int_lt moment limit ≡ true
later_still limit moment h = grind (arith, ints)

apart_keys : (gate : Gate) (id : NodeId) (row : PeerRow) → not (is_row_of gate id row) ≡ true → (gate ≡ row.gate) × (id ≡ row.id) → ⊥
apart_keys gate id row e same =
    false≢true (sym (not-true (is_row_of gate id row) e) ∙ test_from_key gate id row (sym same.0) (sym same.1))

keys_apart : (gate : Gate) (id : NodeId) (row : PeerRow) → ((gate ≡ row.gate) × (id ≡ row.id) → ⊥) → not (is_row_of gate id row) ≡ true
keys_apart gate id row other =
    not_from_false (is_row_of gate id row)
    (false_from_ne_true (is_row_of gate id row) (λ t. let key = key_from_test gate id row t in other (sym key.0, sym key.1)))

pub not_ended : (row : PeerRow) (h : Happening) → outlives row h ≡ true → Ends h row → ⊥
not_ended row (sighting next) e ends = apart_keys next.gate next.id row e ends
not_ended row (goodbye gate id) e ends = apart_keys gate id row e ends
not_ended row (pruning moment) e ends = still_later row.limit moment e ends

pub outlived : (row : PeerRow) (h : Happening) → (Ends h row → ⊥) → outlives row h ≡ true
outlived row (sighting next) goes = keys_apart next.gate next.id row goes
outlived row (goodbye gate id) goes = keys_apart gate id row goes
outlived row (pruning moment) goes = later_still row.limit moment goes

all_true : {A : Type 0} (p : A → Bool) (xs : List A) → ((x : A) → Has xs x → p x ≡ true) → list_all p xs ≡ true
all_true p [] each = refl
all_true p (a ∷ xs) each = and_from (p a) (list_all p xs) (each a (inl refl)) (all_true p xs (λ x h. each x (inr h)))

-- one more happening before a life
after_more : (first : Happening) (later : List Happening) (row : PeerRow) → IsRowAfter later row → IsRowAfter (first ∷ later) row
after_more first later row m = (
  suc m.0,
  m.1,
  subst (λ (n : ℕ). All (λ h. Ends h row → ⊥) (drop n (first ∷ later))) (sym (add-one (suc m.0)))
      (subst (λ (n : ℕ). All (λ h. Ends h row → ⊥) (drop n later)) (add-one m.0) m.2),
)

here : (row : PeerRow) (later : List Happening) → list_all (outlives row) later ≡ true → IsRowAfter (sighting row ∷ later) row
here row later e = (
  0,
  refl,
  All-from_recursion (λ h. Ends h row → ⊥) later
      (all_from_has (λ h. Ends h row → ⊥) later (λ h k. not_ended row h (has_from_all_of (outlives row) later h e k))),
)

pub row_after : (life : List Happening) (row : PeerRow) → Has (rows_of life) row → IsRowAfter life row
unfolding rows_of
row_after [] row h = absurd h
row_after (sighting first ∷ later) row h =
    elim (has_cond first (rows_of later) row (list_all (outlives first) later) h) as (λ _. IsRowAfter (sighting first ∷ later) row) [
      | inl e ↦ subst (λ (z : PeerRow). IsRowAfter (sighting first ∷ later) z) e.0 (here first later e.1)
      | inr k ↦ after_more (sighting first) later row (row_after later row k)
    ]
row_after (goodbye gate id ∷ later) row h = after_more (goodbye gate id) later row (row_after later row h)
row_after (pruning moment ∷ later) row h = after_more (pruning moment) later row (row_after later row h)

-- a row of what follows
after_less : (first : Happening) (later : List Happening) (row : PeerRow) (k : ℕ) → slice_get later k ≡ Some (sighting row)
    → All (λ h. Ends h row → ⊥) (drop (suc k + 1) (first ∷ later)) → IsRowAfter later row
after_less first later row k e all = (
  k,
  e,
  subst (λ (n : ℕ). All (λ h. Ends h row → ⊥) (drop n later)) (sym (add-one k))
      (subst (λ (n : ℕ). All (λ h. Ends h row → ⊥) (drop n (first ∷ later))) (add-one (suc k)) all),
)

same_sighting : (a b : PeerRow) → sighting a ≡ sighting b → a ≡ b
same_sighting a b e = cc

cond_inl : (row : PeerRow) (rows : List PeerRow) (b : Bool) → b ≡ true → Has (cond b (row ∷ rows) rows) row
cond_inl row rows b e = rw e (inl refl)

cond_inr : (first row : PeerRow) (rows : List PeerRow) (b : Bool) → Has rows row → Has (cond b (first ∷ rows) rows) row
cond_inr first row rows true h = inr h
cond_inr first row rows false h = h

pub after_row : (life : List Happening) (row : PeerRow) (k : ℕ) → slice_get life k ≡ Some (sighting row)
    → All (λ h. Ends h row → ⊥) (drop (k + 1) life) → Has (rows_of life) row
unfolding rows_of
after_row [] row k e all = absurd (cc)
after_row (sighting first ∷ later) row zero e all =
    let same : first ≡ row = cc in
    let each = recursion_from_All (λ h. Ends h row → ⊥) later all in
    subst (λ (z : PeerRow). Has (cond (list_all (outlives first) later) (first ∷ rows_of later) (rows_of later)) z) same
    (cond_inl first (rows_of later) (list_all (outlives first) later)
    (subst (λ (z : PeerRow). list_all (outlives z) later ≡ true) (sym same)
    (all_true (outlives row) later (λ h k. outlived row h (has_from_all (λ h. Ends h row → ⊥) later h each k)))))
after_row (goodbye gate id ∷ later) row zero e all = absurd (cc)
after_row (pruning moment ∷ later) row zero e all = absurd (cc)
after_row (sighting first ∷ later) row (suc k) e all =
    let m = after_less (sighting first) later row k e all in
    cond_inr first row (rows_of later) (list_all (outlives first) later) (after_row later row m.0 m.1 m.2)
after_row (goodbye gate id ∷ later) row (suc k) e all =
    let m = after_less (goodbye gate id) later row k e all in after_row later row m.0 m.1 m.2
after_row (pruning moment ∷ later) row (suc k) e all =
    let m = after_less (pruning moment) later row k e all in after_row later row m.0 m.1 m.2
