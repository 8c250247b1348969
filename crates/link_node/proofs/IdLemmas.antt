-- Ids in lists: which stand there, and that none does twice.
use Rattle.std.proofs.Common.{◌≡◌, ◌⊎◌, ◌≤◌, true, false, List, [], ◌∷◌, ◌++◌, length, map, Some, refl, sym, ap, ◌∙◌, subst, inl, inr, suc, arith}
use Rattle.std.specs.Prelude.{if◌then◌else◌, is_some}
use Rattle.std.proofs.lemmas.Bool.{false≢true, false_from_ne_true}
use Rattle.lk_base.specs.IdOrder.{same_id}
use Rattle.lk_base.specs.declared.ids.NodeId.{NodeId}
use Rattle.peer_gateway.specs.Happenings.{Has}
use Rattle.peer_gateway.proofs.MemberLemmas.{Distinct, all_from_has, has_from_all, has_from_any, any_from_has}
use Rattle.peer_gateway.proofs.KeyLemmas.{test_from_id}
use Rattle.session_choice.specs.Keyed.{found_by, updated_by, without_by}
use Rattle.session_choice.proofs.DistinctLemmas.{same-equal, same-itself}
use Rattle.session_choice.proofs.Lists.{by_test}
use Rattle.link_node.specs.Tick.{is_waiting}
use Rattle.link_node.specs.WellFormed.{AreDistinct}

-- ---- one id

pub differ-other : (a b : NodeId) → (a ≡ b → ⊥) → same_id a b ≡ false
differ-other a b differ = false_from_ne_true (same_id a b) (λ t. differ (same-equal a b t))

-- ---- those that wait

pub waits-has : (id : NodeId) (ids : List NodeId) → is_waiting id ids ≡ true → Has ids id
waits-has id ids t =
    let m = has_from_any (λ other. same_id other id) ids t in
    subst (λ (z : NodeId). Has ids z) (same-equal m.0 id m.2) m.1

pub has-waits : (id : NodeId) (ids : List NodeId) → Has ids id → is_waiting id ids ≡ true
has-waits id ids h = any_from_has (λ other. same_id other id) ids id h (same-itself id)

pub none-waits : (id : NodeId) (ids : List NodeId) → (Has ids id → ⊥) → is_waiting id ids ≡ false
none-waits id ids none = false_from_ne_true (is_waiting id ids) (λ t. none (waits-has id ids t))

pub waits-none : (id : NodeId) (ids : List NodeId) → is_waiting id ids ≡ false → Has ids id → ⊥
waits-none id ids f h = false≢true (sym f ∙ has-waits id ids h)

-- ---- none twice

pub distinct-from : (ids : List NodeId) → AreDistinct ids → Distinct ids
distinct-from [] all = tt
distinct-from (id ∷ ids) all = (λ h. has_from_all (λ other. other ≡ id → ⊥) ids id all.0 h refl, distinct-from ids all.1)

pub distinct-to : (ids : List NodeId) → Distinct ids → AreDistinct ids
distinct-to [] all = tt
distinct-to (id ∷ ids) all =
    (all_from_has (λ other. other ≡ id → ⊥) ids (λ other h e. all.0 (subst (λ (z : NodeId). Has ids z) e h)), distinct-to ids all.1)

pub distinct-last : (ids : List NodeId) (last : NodeId) → Distinct ids → (Has ids last → ⊥) → Distinct (ids ++ last ∷ [])
distinct-last [] last all new = (λ h. h, tt)
distinct-last (id ∷ ids) last all new =
    (λ h. has_last ids last id h all.0 (λ e. new (inl e)), distinct-last ids last all.1 (λ h. new (inr h)))
  where
    has_last : (ids : List NodeId) (last id : NodeId) → Has (ids ++ last ∷ []) id → (Has ids id → ⊥) → (id ≡ last → ⊥) → ⊥
    has_last [] last id (inl e) none differ = differ (sym e)
    has_last [] last id (inr h) none differ = h
    has_last (other ∷ ids) last id (inl e) none differ = none (inl e)
    has_last (other ∷ ids) last id (inr h) none differ = has_last ids last id h (λ k. none (inr k)) differ

-- ---- rows found by their ids

module _ {A : Type 0} (key : A → NodeId) (id : NodeId) where
  pub found-has : (rows : List A) → is_some (found_by key id rows) ≡ true → Has (map key rows) id
  found-has [] t = absurd (false≢true t)
  found-has (row ∷ rows) t =
      by_test (λ b. same_id (key row) id ≡ b → is_some (if b then Some row else found_by key id rows) ≡ true → Has (map key (row ∷ rows)) id) (same_id (key row) id)
      (λ _ same _. inl (same-equal (key row) id same)) (λ _ _ is. inr (found-has rows is)) refl t

  pub has-found : (rows : List A) → Has (map key rows) id → is_some (found_by key id rows) ≡ true
  has-found [] h = absurd h
  has-found (row ∷ rows) h =
      by_test (λ b. same_id (key row) id ≡ b → is_some (if b then Some row else found_by key id rows) ≡ true) (same_id (key row) id)
      (λ _ _. refl)
      (λ _ other. elim h as (λ _. is_some (found_by key id rows) ≡ true)
      [ inl e ↦ absurd (false≢true (sym other ∙ test_from_id (key row) id e)) | inr k ↦ has-found rows k ])
      refl

  pub found-key : (rows : List A) (row : A) → found_by key id rows ≡ Some row → key row ≡ id
  found-key [] row found = absurd (cc)
  found-key (first ∷ rows) row found =
      by_test (λ b. same_id (key first) id ≡ b → (if b then Some first else found_by key id rows) ≡ Some row → key row ≡ id) (same_id (key first) id)
      (λ _ same is. let e : first ≡ row = cc in ap key (sym e) ∙ same-equal (key first) id same) (λ _ _ is. found-key rows row is) refl found

  -- a change that keeps the ids
  pub ids-updated : (change : A → A) → ((row : A) → key (change row) ≡ key row) → (rows : List A) → map key (updated_by key id change rows) ≡ map key rows
  ids-updated change keeps [] = refl
  ids-updated change keeps (row ∷ rows) =
      by_test (λ b. map key (if b then change row ∷ rows else row ∷ updated_by key id change rows) ≡ map key (row ∷ rows)) (same_id (key row) id)
      (λ _. ap (λ z. z ∷ map key rows) (keeps row)) (λ _. ap (λ z. key row ∷ z) (ids-updated change keeps rows))

abbrev pub itself : NodeId → NodeId
itself id = id

-- ---- one left out

module _ (id : NodeId) where
  pub without-has : (ids : List NodeId) (x : NodeId) → Has (without_by itself id ids) x → Has ids x
  without-has [] x h = h
  without-has (first ∷ ids) x h =
      by_test (λ b. Has (if b then ids else first ∷ without_by itself id ids) x → Has (first ∷ ids) x) (same_id first id)
      (λ _ k. inr k) (λ _ k. elim k as (λ _. Has (first ∷ ids) x) [ inl e ↦ inl e | inr q ↦ inr (without-has ids x q) ]) h

  pub has-without : (ids : List NodeId) (x : NodeId) → Has ids x → (x ≡ id → ⊥) → Has (without_by itself id ids) x
  has-without [] x h differ = h
  has-without (first ∷ ids) x h differ =
      by_test (λ b. same_id first id ≡ b → Has (if b then ids else first ∷ without_by itself id ids) x) (same_id first id)
      (λ _ same. elim h as (λ _. Has ids x) [ inl e ↦ absurd (differ (sym e ∙ same-equal first id same)) | inr k ↦ k ])
      (λ _ _. elim h as (λ _. Has (first ∷ without_by itself id ids) x) [ inl e ↦ inl e | inr k ↦ inr (has-without ids x k differ) ]) refl

  pub distinct-without : (ids : List NodeId) → Distinct ids → Distinct (without_by itself id ids)
  distinct-without [] all = tt
  distinct-without (first ∷ ids) all =
      by_test (λ b. Distinct (if b then ids else first ∷ without_by itself id ids)) (same_id first id)
      (λ _. all.1) (λ _. (λ h. all.0 (without-has ids first h), distinct-without ids all.1))

  pub few-without : (ids : List NodeId) → length (without_by itself id ids) ≤ length ids
  few-without [] = omega arith
  few-without (first ∷ ids) =
      by_test (λ b. length (if b then ids else first ∷ without_by itself id ids) ≤ length (first ∷ ids)) (same_id first id)
      (λ _. omega arith) (λ _. omega (arith, few-without ids))

-- ---- one in the place of another

module _ (current id : NodeId) where
  abbrev pub replaced : List NodeId → List NodeId
  replaced ids = updated_by itself id (λ _. current) ids

  pub few-replaced : (ids : List NodeId) → length (replaced ids) ≡ length ids
  few-replaced [] = refl
  few-replaced (first ∷ ids) =
      by_test (λ b. length (if b then current ∷ ids else first ∷ replaced ids) ≡ length (first ∷ ids)) (same_id first id)
      (λ _. refl) (λ _. ap suc (few-replaced ids))

  pub replaced-has : (ids : List NodeId) (x : NodeId) → Has (replaced ids) x → (current ≡ x) ⊎ Has ids x
  replaced-has [] x h = absurd h
  replaced-has (first ∷ ids) x h =
      by_test (λ b. Has (if b then current ∷ ids else first ∷ replaced ids) x → (current ≡ x) ⊎ Has (first ∷ ids) x) (same_id first id)
      (λ _ k. elim k as (λ _. (current ≡ x) ⊎ Has (first ∷ ids) x) [ inl e ↦ inl e | inr q ↦ inr (inr q) ])
      (λ _ k. elim k as (λ _. (current ≡ x) ⊎ Has (first ∷ ids) x)
      [ inl e ↦ inr (inl e) | inr q ↦ elim (replaced-has ids x q) as (λ _. (current ≡ x) ⊎ Has (first ∷ ids) x) [ inl e ↦ inl e | inr p ↦ inr (inr p) ] ]) h

  pub has-replaced : (ids : List NodeId) (x : NodeId) → Has ids x → Has (id ∷ replaced ids) x
  has-replaced [] x h = absurd h
  has-replaced (first ∷ ids) x h =
      by_test (λ b. same_id first id ≡ b → Has (id ∷ (if b then current ∷ ids else first ∷ replaced ids)) x) (same_id first id)
      (λ _ same. elim h as (λ _. Has (id ∷ current ∷ ids) x) [ inl e ↦ inl (sym (same-equal first id same) ∙ e) | inr k ↦ inr (inr k) ])
      (λ _ _. elim h as (λ _. Has (id ∷ first ∷ replaced ids) x)
      [ inl e ↦ inr (inl e) | inr k ↦ elim (has-replaced ids x k) as (λ _. Has (id ∷ first ∷ replaced ids) x) [ inl e ↦ inl e | inr q ↦ inr (inr q) ] ]) refl

  pub replaced-current : (ids : List NodeId) → Has ids id → Has (replaced ids) current
  replaced-current [] h = absurd h
  replaced-current (first ∷ ids) h =
      by_test (λ b. same_id first id ≡ b → Has (if b then current ∷ ids else first ∷ replaced ids) current) (same_id first id)
      (λ _ _. inl refl)
      (λ _ other. elim h as (λ _. Has (first ∷ replaced ids) current)
      [ inl e ↦ absurd (false≢true (sym other ∙ test_from_id first id e)) | inr k ↦ inr (replaced-current ids k) ]) refl

  pub distinct-replaced : (ids : List NodeId) → Distinct (current ∷ ids) → Has ids id → Distinct (id ∷ replaced ids)
  distinct-replaced [] all h = absurd h
  distinct-replaced (first ∷ ids) all h =
      by_test (λ b. same_id first id ≡ b → Distinct (id ∷ (if b then current ∷ ids else first ∷ replaced ids))) (same_id first id)
      (λ _ same.
      let e = same-equal first id same in (
        (λ k. elim k as (λ _. ⊥)
            [ inl is ↦ all.0 (inl (e ∙ sym is)) | inr q ↦ all.1.0 (subst (λ (z : NodeId). Has ids z) (sym e) q) ]),
        ((λ k. all.0 (inr k)), all.1.1),
      ))
      (λ _ other.
      let later : Has ids id = elim h as (λ _. Has ids id) [ inl e ↦ absurd (false≢true (sym other ∙ test_from_id first id e)) | inr k ↦ k ] in
      let rest : Distinct (id ∷ replaced ids) = distinct-replaced ids (λ k. all.0 (inr k), all.1.1) later in (
        (λ k. elim k as (λ _. ⊥)
            [ inl is ↦ false≢true (sym other ∙ test_from_id first id is) | inr q ↦ rest.0 q ]),
        ((λ k. elim (replaced-has ids first k) as (λ _. ⊥) [ inl e ↦ all.0 (inl (sym e)) | inr q ↦ all.1.0 q ]), rest.1),
      )) refl
