-- No id stands twice, and what keeps that.
use Rattle.std.proofs.Common.{◌≡◌, ℕ, zero, suc, ◌≤◌, ◌<◌, get_or, true, false, List, [], ◌∷◌, ◌++◌, length, Some, None, refl, sym, ap, subst, ◌∙◌, arith}
use Rattle.std.specs.Prelude.{if◌then◌else◌, slice_get}
use Rattle.std.specs.List.{AllByRecursion}
use Rattle.std.specs.Cmp.Lexicographic.{same_text}
use Rattle.std.proofs.lemmas.Cmp.{nat_list_eq_equiv}
use Rattle.std.proofs.lemmas.Option.{slice_get-get_or}
use Rattle.lk_base.specs.IdOrder.{same_id}
use Rattle.lk_base.specs.declared.ids.NodeId.{NodeId}
use Rattle.session_choice.specs.Changes.{key_of}
use Rattle.session_choice.specs.Keyed.{found_by, updated_by, without_by}
use Rattle.session_choice.specs.Table.{AreDistinct}
use Rattle.session_choice.specs.declared.known.Known.{Known}
use Rattle.session_choice.proofs.Lists.{by_test, all_append}

id_of : List ℕ → NodeId
id_of bytes = record { 0 = bytes }

pub same-equal : (a b : NodeId) → same_id a b ≡ true → a ≡ b
unfolding id_of
same-equal a b is = ap id_of (same_text a.0 b.0 (sym is))

pub same-itself : (a : NodeId) → same_id a a ≡ true
same-itself a = nat_list_eq_equiv.refl a.0

pub other-differs : (a b : NodeId) → same_id a b ≡ false → a ≡ b → ⊥
other-differs a b fails is =
    let e : same_id a b ≡ true = ap (λ k. same_id a k) (sym is) ∙ same-itself a in
    cc

-- ---- a fact of each row

module _ (id : NodeId) (P : Known → Type 0) where
  pub all_updated : (f : Known → Known) → ((known : Known) → P known → P (f known)) → (rows : List Known) → AllByRecursion P rows
      → AllByRecursion P (updated_by key_of id f rows)
  all_updated f step [] all = tt
  all_updated f step (row ∷ rows) all =
      by_test (λ b. AllByRecursion P (if b then f row ∷ rows else row ∷ updated_by key_of id f rows)) (same_id row.session id)
      (λ _. (step row all.0, all.1)) (λ _. (all.0, all_updated f step rows all.1))

  pub all_without : (rows : List Known) → AllByRecursion P rows → AllByRecursion P (without_by key_of id rows)
  all_without [] all = tt
  all_without (row ∷ rows) all =
      by_test (λ b. AllByRecursion P (if b then rows else row ∷ without_by key_of id rows)) (same_id row.session id)
      (λ _. all.1) (λ _. (all.0, all_without rows all.1))

  pub all_found : (rows : List Known) (known : Known) → AllByRecursion P rows → found_by key_of id rows ≡ Some known → P known
  all_found [] known all found = cc
  all_found (row ∷ rows) known all found =
      by_test (λ b. (if b then Some row else found_by key_of id rows) ≡ Some known → P known) (same_id row.session id)
      (λ _ is. let e : row ≡ known = cc in subst P e all.0) (λ _ is. all_found rows known all.1 is) found

pub all_get : (P : Known → Type 0) (rows : List Known) (k : ℕ) (known : Known) → AllByRecursion P rows → slice_get rows k ≡ Some known → P known
all_get P [] k known all at = cc
all_get P (row ∷ rows) zero known all at = let e : row ≡ known = cc in subst P e all.0
all_get P (row ∷ rows) (suc k) known all at = all_get P rows k known all.1 at

pub found-same : (id : NodeId) (rows : List Known) (known : Known) → found_by key_of id rows ≡ Some known → same_id known.session id ≡ true
found-same id [] known found = cc
found-same id (row ∷ rows) known found =
    by_test (λ b. same_id row.session id ≡ b → (if b then Some row else found_by key_of id rows) ≡ Some known → same_id known.session id ≡ true) (same_id row.session id)
    (λ _ same is. let e : row ≡ known = cc in subst (λ (k : Known). same_id k.session id ≡ true) e same) (λ _ _ is. found-same id rows known is) refl found

-- ---- lengths

pub length-updated : (id : NodeId) (f : Known → Known) (rows : List Known) → length (updated_by key_of id f rows) ≡ length rows
length-updated id f [] = refl
length-updated id f (row ∷ rows) =
    by_test (λ b. length (if b then f row ∷ rows else row ∷ updated_by key_of id f rows) ≡ length (row ∷ rows)) (same_id row.session id)
    (λ _. refl) (λ _. ap suc (length-updated id f rows))

pub length-without : (id : NodeId) (rows : List Known) → length (without_by key_of id rows) ≤ length rows
length-without id [] = omega arith
length-without id (row ∷ rows) =
    by_test (λ b. length (if b then rows else row ∷ without_by key_of id rows) ≤ length (row ∷ rows)) (same_id row.session id)
    (λ _. omega arith) (λ _. omega (arith, length-without id rows))

-- ---- ids

abbrev IsNot : NodeId → Known → Type 0
IsNot id known = known.session ≡ id → ⊥

distinct_updated : (id : NodeId) (f : Known → Known) → ((known : Known) → (f known).session ≡ known.session) → (rows : List Known) → AreDistinct rows
    → AreDistinct (updated_by key_of id f rows)
distinct_updated id f keeps [] all = tt
distinct_updated id f keeps (row ∷ rows) all =
    by_test (λ b. AreDistinct (if b then f row ∷ rows else row ∷ updated_by key_of id f rows)) (same_id row.session id)
    (λ _. (subst (λ (k : NodeId). AllByRecursion (IsNot k) rows) (sym (keeps row)) all.0, all.1))
    (λ _. (all_updated id (IsNot row.session) f (λ known not is. not (sym (keeps known) ∙ is)) rows all.0, distinct_updated id f keeps rows all.1))

pub distinct-updated : (id : NodeId) (f : Known → Known) → ((known : Known) → (f known).session ≡ known.session) → (current : Known) (rows : List Known)
    → AreDistinct (current ∷ rows) → AreDistinct (current ∷ updated_by key_of id f rows)
distinct-updated id f keeps current rows all =
    (all_updated id (IsNot current.session) f (λ known not is. not (sym (keeps known) ∙ is)) rows all.0, distinct_updated id f keeps rows all.1)

distinct_pushed : (rows : List Known) (last : Known) → AreDistinct rows → AllByRecursion (IsNot last.session) rows → AreDistinct (rows ++ last ∷ [])
distinct_pushed [] last all others = (tt, tt)
distinct_pushed (row ∷ rows) last all others =
    (all_append (IsNot row.session) rows (last ∷ []) all.0 (λ is. others.0 (sym is), tt), distinct_pushed rows last all.1 others.1)

not_among : (id : NodeId) (rows : List Known) → found_by key_of id rows ≡ None → AllByRecursion (IsNot id) rows
not_among id [] none = tt
not_among id (row ∷ rows) none =
    by_test (λ b. same_id row.session id ≡ b → (if b then Some row else found_by key_of id rows) ≡ None → AllByRecursion (IsNot id) (row ∷ rows)) (same_id row.session id)
    (λ _ _ is. cc) (λ _ other is. (other-differs row.session id other, not_among id rows is)) refl none

pub distinct-pushed : (current last : Known) (rows : List Known) → AreDistinct (current ∷ rows) → same_id current.session last.session ≡ false
    → found_by key_of last.session rows ≡ None → AreDistinct (current ∷ rows ++ last ∷ [])
distinct-pushed current last rows all other none =
    distinct_pushed (current ∷ rows) last all (other-differs current.session last.session other, not_among last.session rows none)

distinct_without : (id : NodeId) (rows : List Known) → AreDistinct rows → AreDistinct (without_by key_of id rows)
distinct_without id [] all = tt
distinct_without id (row ∷ rows) all =
    by_test (λ b. AreDistinct (if b then rows else row ∷ without_by key_of id rows)) (same_id row.session id)
    (λ _. all.1) (λ _. (all_without id (IsNot row.session) rows all.0, distinct_without id rows all.1))

pub distinct-without : (id : NodeId) (current : Known) (rows : List Known) → AreDistinct (current ∷ rows) → AreDistinct (current ∷ without_by key_of id rows)
distinct-without id current rows all = (all_without id (IsNot current.session) rows all.0, distinct_without id rows all.1)

pub distinct-joined : (id : NodeId) (current known : Known) (rows : List Known) → AreDistinct (current ∷ rows) → found_by key_of id rows ≡ Some known
    → AreDistinct (known ∷ updated_by key_of id (λ _. current) rows)
distinct-joined id current known [] all found = cc
distinct-joined id current known (row ∷ rows) all found =
    by_test (λ b. (if b then Some row else found_by key_of id rows) ≡ Some known
    → AreDistinct (known ∷ (if b then current ∷ rows else row ∷ updated_by key_of id (λ _. current) rows))) (same_id row.session id)
    (λ _ is.
    let e : row ≡ known = cc in
    subst (λ (k : Known). AreDistinct (k ∷ current ∷ rows)) e ((λ same. all.0.0 (sym same), all.1.0), (all.0.1, all.1.1)))
    (λ _ is.
    let rest : AreDistinct (known ∷ updated_by key_of id (λ _. current) rows) = distinct-joined id current known rows (all.0.1, all.1.1) is in (
      (λ same. all_found id (IsNot row.session) rows known all.1.0 is (sym same), rest.0),
      (all_updated id (IsNot row.session) (λ _. current) (λ _ _ same. all.0.0 (sym same)) rows all.1.0, rest.1),
    ))
    found

-- ---- one place each

pub one_place : (rows : List Known) (j k : ℕ) (a b : Known) → AreDistinct rows → slice_get rows j ≡ Some a → slice_get rows k ≡ Some b
    → a.session ≡ b.session → j ≡ k
one_place [] j k a b all at_j at_k same = cc
one_place (row ∷ rows) zero zero a b all at_j at_k same = refl
one_place (row ∷ rows) zero (suc k) a b all at_j at_k same =
    let e : row ≡ a = cc in
    absurd (all_get (IsNot row.session) rows k b all.0 at_k (sym same ∙ ap (λ (x : Known). x.session) (sym e)))
one_place (row ∷ rows) (suc j) zero a b all at_j at_k same =
    let e : row ≡ b = cc in
    absurd (all_get (IsNot row.session) rows j a all.0 at_j (same ∙ ap (λ (x : Known). x.session) (sym e)))
one_place (row ∷ rows) (suc j) (suc k) a b all at_j at_k same = ap suc (one_place rows j k a b all.1 at_j at_k same)

pub get_there : (rows : List Known) (k : ℕ) (known : Known) → k < length rows → known ≡ get_or rows k known → slice_get rows k ≡ Some known
get_there rows k known inside is = slice_get-get_or rows k known inside ∙ ap Some (sym is)
