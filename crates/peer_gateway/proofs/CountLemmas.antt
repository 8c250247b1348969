-- The ids that a pass counts are those of the session's rows, each once.
use Rattle.std.proofs.Common.{◌≡◌, ◌⊎◌, ◌≤◌, Bool, true, false, not, cond, ◌&&◌, List, [], ◌∷◌, Option, Some, None, length, filter, map, refl, sym, ap, ◌∙◌, subst, inl, inr, arith}
use Rattle.std.specs.Cmp.{IsTotalOrder}
use Rattle.std.specs.Cmp.Lexicographic.{slice_cmp, texts_ties, on_texts, on_texts_equal}
use Rattle.std.specs.List.{IsDistinct}
use Rattle.std.specs.Ordering.{is_eq, nat_cmp}
use Rattle.std.specs.declared.cmp.Ordering.{Ordering}
use Rattle.std.specs.declared.cmp.Ordering.TheVariants.{Less, Equal, Greater}
use Rattle.std.proofs.lemmas.Bool.{false≢true, cases_Bool, and_parts, not-true}
use Rattle.std.proofs.lemmas.Map.Made.{length-from_keys}
use Rattle.lk_base.specs.IdOrder.{same_id}
use Rattle.lk_base.specs.declared.ids.NodeId.{NodeId}
use Rattle.peer_gateway.specs.Answers.{is_in, peers_in}
use Rattle.peer_gateway.specs.Happenings.{Happening, StandsFor, rows_of, Has}
use Rattle.peer_gateway.specs.Order.{row_order, Rise}
use Rattle.peer_gateway.specs.Picks.{is_last, is_counted, ids_counted}
use Rattle.peer_gateway.specs.Table.{Table}
use Rattle.peer_gateway.specs.declared.row.PeerRow.{PeerRow}
use Rattle.peer_gateway.proofs.KeyLemmas.{id_from_test}
use Rattle.peer_gateway.proofs.LimitLemmas.{first_less}
use Rattle.peer_gateway.proofs.MemberLemmas.{all_from_has, has_from_all, has_filter, filter_has, has_map, map_has, any_same}

abbrev pub id_order : NodeId → NodeId → Ordering
id_order a b = slice_cmp nat_cmp a.0 b.0

pub id_total : IsTotalOrder id_order
id_total = on_texts (λ (n : NodeId). n.0)

-- a pass counts only ids of the session's rows
pub counted_from : (session : NodeId) (last : Option NodeId) (rows : List PeerRow) (id : NodeId) → Has (ids_counted session last rows) id
    → (row : PeerRow) × Has rows row × (is_in session row ≡ true) × (row.id ≡ id)
counted_from session last [] id h = absurd h
counted_from session last (row ∷ rows) id h =
    elim (cases_Bool (is_counted session last row)) as (λ _. (r : PeerRow) × Has (row ∷ rows) r × (is_in session r ≡ true) × (r.id ≡ id)) [
      | inl e ↦
          let found : Has (row.id ∷ ids_counted session (Some row.id) rows) id = rw e at h in
          elim found as (λ _. (r : PeerRow) × Has (row ∷ rows) r × (is_in session r ≡ true) × (r.id ≡ id)) [
            | inl same ↦ (row, inl refl, (and_parts (is_in session row) (not (is_last last row.id)) e).0, same)
            | inr k ↦ let m = counted_from session (Some row.id) rows id k in (m.0, inr m.1, m.2, m.3)
          ]
      | inr e ↦
          let found : Has (ids_counted session last rows) id = rw e at h in
          let m = counted_from session last rows id found in (m.0, inr m.1, m.2, m.3)
    ]

is_last_some : (last : Option NodeId) (id : NodeId) → is_last last id ≡ true → last ≡ Some id
is_last_some None id e = absurd (false≢true e)
is_last_some (Some last) id e = ap (λ (n : NodeId). Some n) (id_from_test last id e)

passed_over : (a b : Bool) → a ≡ true → (a && not b) ≡ false → b ≡ true
passed_over true true t e = refl
passed_over true false t e = absurd (false≢true (sym e))
passed_over false b t e = absurd (false≢true t)

-- and each of them, but for the last one that was counted before
pub counts_each : (session : NodeId) (last : Option NodeId) (rows : List PeerRow) (row : PeerRow) → Has rows row → is_in session row ≡ true
    → Has (ids_counted session last rows) row.id ⊎ (last ≡ Some row.id)
counts_each session last [] row h t = absurd h
counts_each session last (first ∷ rows) row h t =
    elim (cases_Bool (is_counted session last first)) as (λ _. Has (ids_counted session last (first ∷ rows)) row.id ⊎ (last ≡ Some row.id)) [
      | inl e ↦ rw e
          (elim h as (λ _. Has (first.id ∷ ids_counted session (Some first.id) rows) row.id ⊎ (last ≡ Some row.id)) [
            | inl same ↦ inl (inl (ap (λ (r : PeerRow). r.id) same))
            | inr k ↦ elim (counts_each session (Some first.id) rows row k t)
                as (λ _. Has (first.id ∷ ids_counted session (Some first.id) rows) row.id ⊎ (last ≡ Some row.id))
                [ inl m ↦ inl (inr m) | inr s ↦ inl (inl (cc)) ]
          ])
      | inr e ↦ rw e
          (elim h as (λ _. Has (ids_counted session last rows) row.id ⊎ (last ≡ Some row.id)) [
            | inl same ↦
                let here : is_in session first ≡ true = ap (is_in session) same ∙ t in
                inr (is_last_some last first.id (passed_over (is_in session first) (is_last last first.id) here e)
                ∙ ap (λ (r : PeerRow). Some r.id) same)
            | inr k ↦ counts_each session last rows row k t
          ])
    ]

-- ids that rise, where those that are the same stand side by side
abbrev NotBelow : NodeId → List PeerRow → Type 0
NotBelow last rows = (row : PeerRow) → Has rows row → id_order last row.id ≡ Greater → ⊥

not_below_next : (row : PeerRow) (rows : List PeerRow) → Rise row_order (row ∷ rows) → NotBelow row.id rows
not_below_next row rows up other h more =
    let less : row_order row other ≡ Less = has_from_all (λ y. row_order row y ≡ Less) rows other up.0 h in
    elim (first_less (id_order row.id other.id) (nat_cmp row.gate.0 other.gate.0) less) as (λ _. ⊥)
    [ inl l ↦ let a : Less ≡ Greater = sym l ∙ more in cc | inr s ↦ let a : Equal ≡ Greater = sym s ∙ more in cc ]

below_from : (o : Ordering) → (o ≡ Greater → ⊥) → (o ≡ Equal → ⊥) → o ≡ Less
below_from Less a b = refl
below_from Equal a b = absurd (b refl)
below_from Greater a b = absurd (a refl)

pub equal_test : (a b : NodeId) → id_order a b ≡ Equal → same_id a b ≡ true
equal_test a b e = texts_ties a.0 b.0 ∙ ap is_eq e

apart_test : (a b : NodeId) → id_order a b ≡ Less → same_id a b ≡ false
apart_test a b e = texts_ties a.0 b.0 ∙ ap is_eq e

-- what is counted after an id is above it
above_last : (session last : NodeId) (rows : List PeerRow) (id : NodeId) → Rise row_order rows → NotBelow last rows
    → Has (ids_counted session (Some last) rows) id → id_order last id ≡ Less
above_last session last [] id up low h = absurd h
above_last session last (row ∷ rows) id up low h =
    elim (cases_Bool (is_counted session (Some last) row)) as (λ _. id_order last id ≡ Less) [
      | inl e ↦
          let found : Has (row.id ∷ ids_counted session (Some row.id) rows) id = rw e at h in
          let other : same_id last row.id ≡ false =
          not-true (same_id last row.id) (and_parts (is_in session row) (not (same_id last row.id)) e).1 in
          let here : id_order last row.id ≡ Less =
          below_from (id_order last row.id) (low row (inl refl)) (λ s. false≢true (sym other ∙ equal_test last row.id s)) in
          elim found as (λ _. id_order last id ≡ Less) [
            | inl same ↦ subst (λ (n : NodeId). id_order last n ≡ Less) same here
            | inr k ↦ id_total.trans last row.id id here (above_last session row.id rows id up.1 (not_below_next row rows up) k)
          ]
      | inr e ↦
          let found : Has (ids_counted session (Some last) rows) id = rw e at h in
          above_last session last rows id up.1 (λ r k. low r (inr k)) found
    ]

pub counted_once : (session : NodeId) (last : Option NodeId) (rows : List PeerRow) → Rise row_order rows
    → IsDistinct same_id (ids_counted session last rows)
unfolding IsDistinct
counted_once session last [] up = tt
counted_once session last (row ∷ rows) up =
    elim (cases_Bool (is_counted session last row)) as (λ _. IsDistinct same_id (ids_counted session last (row ∷ rows))) [
      | inl e ↦ rw e (
        all_from_has (λ y. same_id row.id y ≡ false) (ids_counted session (Some row.id) rows)
            (λ y h. apart_test row.id y (above_last session row.id rows y up.1 (not_below_next row rows up) h)),
        counted_once session (Some row.id) rows up.1,
      )
      | inr e ↦ rw e (counted_once session last rows up.1)
    ]

-- so a pass counts the ids of a session
pub counts_peers : (session : NodeId) (table : Table) (life : List Happening) → Rise row_order table.rows → StandsFor table life
    → length (ids_counted session None table.rows) ≡ peers_in session life
unfolding peers_in
counts_peers session table life up stands =
    let ids : List NodeId = map (λ (row : PeerRow). row.id) (filter (is_in session) (rows_of life)) in
    length-from_keys (on_texts_equal (λ (n : NodeId). n.0)) (ids_counted session None table.rows) ids
    (counted_once session None table.rows up)
    (λ q. any_same (same_id q) (ids_counted session None table.rows) ids
    (λ id h.
    let m = counted_from session None table.rows id h in
    subst (λ (n : NodeId). Has ids n) m.3
    (has_map (λ (row : PeerRow). row.id) (filter (is_in session) (rows_of life)) m.0
    (has_filter (is_in session) (rows_of life) m.0 (stands.kept m.0 m.1) m.2)))
    (λ id h.
    let m = map_has (λ (row : PeerRow). row.id) (filter (is_in session) (rows_of life)) id h in
    let f = filter_has (is_in session) (rows_of life) m.0 m.1 in
    elim (counts_each session None table.rows m.0 (stands.all m.0 f.0) f.1) as (λ _. Has (ids_counted session None table.rows) id)
    [ inl k ↦ subst (λ (n : NodeId). Has (ids_counted session None table.rows) n) m.2 k | inr none ↦ absurd (cc) ]))

pub counted_few : (session : NodeId) (last : Option NodeId) (rows : List PeerRow) → length (ids_counted session last rows) ≤ length rows
counted_few session last [] = omega arith
counted_few session last (row ∷ rows) =
    let one = counted_few session (Some row.id) rows in
    let none = counted_few session last rows in
    elim (is_counted session last row)
    as (λ b. length (cond b (row.id ∷ ids_counted session (Some row.id) rows) (ids_counted session last rows)) ≤ length (row ∷ rows))
    [ true ↦ omega arith | false ↦ omega arith ]
