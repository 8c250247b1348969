-- Which rows a life leaves.
use Rattle.std.proofs.Common.{◌≡◌, ℕ, ℤ, zero, suc, Bool, true, false, not, cond, ◌&&◌, List, [], ◌∷◌, ◌++◌, Some, length, filter, slice_get, refl, sym, ap, ◌∙◌, subst, inl, inr}
use Rattle.std.specs.List.{list_all, list_any}
use Rattle.std.proofs.lemmas.Bool.{not-true, not_from_false, false≢true, false_from_ne_true}
use Rattle.std.proofs.lemmas.List.{append-nil}
use Rattle.lk_base.specs.declared.endpoint.Gate.{Gate}
use Rattle.lk_base.specs.declared.ids.NodeId.{NodeId}
use Rattle.peer_gateway.specs.Happenings.{Happening, StandsFor, outlives, lives, is_row_of, rows_of, said_goodbye, was_pruned, Has}
use Rattle.peer_gateway.specs.Happenings.Happening.{sighting, goodbye, pruning}
use Rattle.peer_gateway.specs.Order.{row_order, Rise, IsEnded, IsWritten}
use Rattle.peer_gateway.specs.Table.{Table}
use Rattle.peer_gateway.specs.declared.row.PeerRow.{PeerRow}
use Rattle.peer_gateway.proofs.KeyLemmas.{row_total, test_from_key}
use Rattle.peer_gateway.proofs.MemberLemmas.{Distinct, has_left, has_right, has_parts, has_filter, filter_has, has_cond, has_from_all_of, has_from_any, any_same, count_same}
use Rattle.peer_gateway.proofs.OrderLemmas.{rise_distinct}

-- the row that a happening brings
abbrev pub brought : Happening → List PeerRow
brought (sighting row) = row ∷ []
brought (goodbye gate id) = []
brought (pruning moment) = []

all_push : {A : Type 0} (p : A → Bool) (xs : List A) (x : A) → list_all p (xs ++ x ∷ []) ≡ (list_all p xs && p x)
all_push p [] x = elim (p x) as (λ b. (b && true) ≡ b) [ true ↦ refl | false ↦ refl ]
all_push p (a ∷ xs) x =
    elim (p a) as (λ b. (b && list_all p (xs ++ x ∷ [])) ≡ ((b && list_all p xs) && p x))
    [ true ↦ all_push p xs x | false ↦ refl ]

goes_on : {A : Type 0} (p : A → Bool) (row : A) (xs bs : List A) (a b : Bool) → p row ≡ b
    → cond (a && b) (row ∷ (filter p xs ++ bs)) (filter p xs ++ bs) ≡ filter p (cond a (row ∷ xs) xs) ++ bs
goes_on p row xs bs true true e = rw e refl
goes_on p row xs bs true false e = rw e refl
goes_on p row xs bs false b e = refl

-- one more happening ends what doesn't outlive it, and brings its own
pub rows_more : (life : List Happening) (h : Happening)
    → rows_of (life ++ h ∷ []) ≡ filter (λ row. outlives row h) (rows_of life) ++ brought h
unfolding rows_of
rows_more [] (sighting row) = refl
rows_more [] (goodbye gate id) = refl
rows_more [] (pruning moment) = refl
rows_more (sighting row ∷ later) h =
    rw (all_push (outlives row) later h, rows_more later h)
    (goes_on (λ r. outlives r h) row (rows_of later) (brought h) (list_all (outlives row) later) (outlives row h) refl)
rows_more (goodbye gate id ∷ later) h = rows_more later h
rows_more (pruning moment ∷ later) h = rows_more later h

-- ---- what is kept of a life, through each call

ended_by_goodbye : (gate : Gate) (id : NodeId) (life : List Happening)
    → rows_of (life ++ goodbye gate id ∷ []) ≡ filter (λ row. not (is_row_of gate id row)) (rows_of life)
ended_by_goodbye gate id life = rows_more life (goodbye gate id) ∙ append-nil (filter (λ row. not (is_row_of gate id row)) (rows_of life))

pub stands_goodbye : (gate : Gate) (id : NodeId) (old new : Table) (life : List Happening) → StandsFor old life
    → IsEnded gate id old.rows new.rows → StandsFor new (said_goodbye gate id life)
stands_goodbye gate id old new life stands ended =
    let others : PeerRow → Bool = λ row. not (is_row_of gate id row) in
    record {
      kept = λ row h.
          let f = ended.from row h in
          subst (λ (rows : List PeerRow). Has rows row) (sym (ended_by_goodbye gate id life))
          (has_filter others (rows_of life) row (stands.kept row f.0) (not_from_false (is_row_of gate id row) f.1));
      all = λ row h.
          let m = filter_has others (rows_of life) row
          (subst (λ (rows : List PeerRow). Has rows row) (ended_by_goodbye gate id life) h) in
          ended.stay row (stands.all row m.0) (not-true (is_row_of gate id row) m.1);
    }

ended_by_pruning : (moment : ℤ) (life : List Happening) → rows_of (life ++ pruning moment ∷ []) ≡ filter (lives moment) (rows_of life)
ended_by_pruning moment life = rows_more life (pruning moment) ∙ append-nil (filter (lives moment) (rows_of life))

pub stands_pruning : (moment : ℤ) (old new : Table) (life : List Happening) → StandsFor old life
    → new.rows ≡ filter (lives moment) old.rows → StandsFor new (was_pruned moment life)
stands_pruning moment old new life stands same =
    record {
      kept = λ row h.
          let m = filter_has (lives moment) old.rows row (subst (λ (rows : List PeerRow). Has rows row) same h) in
          subst (λ (rows : List PeerRow). Has rows row) (sym (ended_by_pruning moment life))
          (has_filter (lives moment) (rows_of life) row (stands.kept row m.0) m.1);
      all = λ row h.
          let m = filter_has (lives moment) (rows_of life) row (subst (λ (rows : List PeerRow). Has rows row) (ended_by_pruning moment life) h) in
          subst (λ (rows : List PeerRow). Has rows row) (sym same) (has_filter (lives moment) old.rows row (stands.all row m.0) m.1);
    }

pub stands_sighting : (row : PeerRow) (old new : Table) (life : List Happening) → StandsFor old life
    → IsWritten row old.rows new.rows → StandsFor new (life ++ sighting row ∷ [])
stands_sighting row old new life stands written =
    let others : PeerRow → Bool = λ other. not (is_row_of row.gate row.id other) in
    let more : rows_of (life ++ sighting row ∷ []) ≡ filter others (rows_of life) ++ row ∷ [] = rows_more life (sighting row) in
    record {
      kept = λ other h.
          subst (λ (rows : List PeerRow). Has rows other) (sym more)
          (elim (written.from other h) as (λ _. Has (filter others (rows_of life) ++ row ∷ []) other) [
            | inl e ↦ has_right (filter others (rows_of life)) (row ∷ []) other (inl (sym e))
            | inr f ↦ has_left (filter others (rows_of life)) (row ∷ []) other
                (has_filter others (rows_of life) other (stands.kept other f.0) (not_from_false (is_row_of row.gate row.id other) f.1))
          ]);
      all = λ other h.
          elim (has_parts (filter others (rows_of life)) (row ∷ []) other (subst (λ (rows : List PeerRow). Has rows other) more h))
          as (λ _. Has new.rows other) [
            | inl p ↦ let m = filter_has others (rows_of life) other p in
                written.stay other (stands.all other m.0) (not-true (is_row_of row.gate row.id other) m.1)
            | inr q ↦ elim q as (λ _. Has new.rows other)
                [ inl e ↦ subst (λ (z : PeerRow). Has new.rows z) e written.here | inr none ↦ absurd none ]
          ];
    }

-- ---- a life has no two rows of one gate and id

pub is_sighted : (life : List Happening) (row : PeerRow) → Has (rows_of life) row → Has life (sighting row)
unfolding rows_of
is_sighted [] row h = absurd h
is_sighted (sighting first ∷ later) row h =
    elim (has_cond first (rows_of later) row (list_all (outlives first) later) h) as (λ _. Has (sighting first ∷ later) (sighting row))
    [ inl e ↦ inl (ap (λ (z : PeerRow). sighting z) e.0) | inr k ↦ inr (is_sighted later row k) ]
is_sighted (goodbye gate id ∷ later) row h = inr (is_sighted later row h)
is_sighted (pruning moment ∷ later) row h = inr (is_sighted later row h)

abbrev pub KeysApart : List PeerRow → Type 0
KeysApart [] = Unit {0}
KeysApart (row ∷ rows) = ((other : PeerRow) → Has rows other → is_row_of other.gate other.id row ≡ false) × KeysApart rows

apart_step : (row : PeerRow) (rows : List PeerRow) (b : Bool)
    → (b ≡ true → (other : PeerRow) → Has rows other → is_row_of other.gate other.id row ≡ false) → KeysApart rows
    → KeysApart (cond b (row ∷ rows) rows)
apart_step row rows true each apart = (each refl, apart)
apart_step row rows false each apart = apart

pub keys_apart : (life : List Happening) → KeysApart (rows_of life)
unfolding rows_of
keys_apart [] = tt
keys_apart (sighting row ∷ later) =
    apart_step row (rows_of later) (list_all (outlives row) later)
    (λ e other h. not-true (is_row_of other.gate other.id row)
    (has_from_all_of (outlives row) later (sighting other) e (is_sighted later other h)))
    (keys_apart later)
keys_apart (goodbye gate id ∷ later) = keys_apart later
keys_apart (pruning moment ∷ later) = keys_apart later

pub apart_distinct : (rows : List PeerRow) → KeysApart rows → Distinct rows
apart_distinct [] apart = tt
apart_distinct (row ∷ rows) apart =
    (λ h. false≢true (sym (apart.0 row h) ∙ test_from_key row.gate row.id row refl refl), apart_distinct rows apart.1)

pub life_distinct : (life : List Happening) → Distinct (rows_of life)
life_distinct life = apart_distinct (rows_of life) (keys_apart life)

got_has : {A : Type 0} (xs : List A) (k : ℕ) (x : A) → slice_get xs k ≡ Some x → Has xs x
got_has [] k x e = absurd (cc)
got_has (a ∷ xs) zero x e = inl (cc)
got_has (a ∷ xs) (suc k) x e = inr (got_has xs k x e)

pub place_of_key : (rows : List PeerRow) → KeysApart rows → (j k : ℕ) (a b : PeerRow) → slice_get rows j ≡ Some a → slice_get rows k ≡ Some b
    → a.gate ≡ b.gate → a.id ≡ b.id → j ≡ k
place_of_key [] apart j k a b p q g i = absurd (cc)
place_of_key (row ∷ rows) apart zero zero a b p q g i = refl
place_of_key (row ∷ rows) apart zero (suc k) a b p q g i =
    let is : row ≡ a = cc in
    absurd (false≢true (sym (apart.0 b (got_has rows k b q)) ∙ test_from_key b.gate b.id row
    (ap (λ (z : PeerRow). z.gate) is ∙ g) (ap (λ (z : PeerRow). z.id) is ∙ i)))
place_of_key (row ∷ rows) apart (suc j) zero a b p q g i =
    let is : row ≡ b = cc in
    absurd (false≢true (sym (apart.0 a (got_has rows j a p)) ∙ test_from_key a.gate a.id row
    (ap (λ (z : PeerRow). z.gate) is ∙ sym g) (ap (λ (z : PeerRow). z.id) is ∙ sym i)))
place_of_key (row ∷ rows) apart (suc j) (suc k) a b p q g i = ap suc (place_of_key rows apart.1 j k a b p q g i)

-- ---- what the rows of a life are, by the table's

pub any_stands : (p : PeerRow → Bool) (table : Table) (life : List Happening) → StandsFor table life
    → list_any p table.rows ≡ list_any p (rows_of life)
any_stands p table life stands = any_same p table.rows (rows_of life) stands.kept stands.all

pub count_stands : (p : PeerRow → Bool) (table : Table) (life : List Happening) → Rise row_order table.rows → StandsFor table life
    → length (filter p table.rows) ≡ length (filter p (rows_of life))
count_stands p table life up stands =
    count_same p table.rows (rows_of life) (rise_distinct row_total table.rows up) (life_distinct life) stands.kept stands.all

pub none_any : (p : PeerRow → Bool) (rows : List PeerRow) → ((row : PeerRow) → Has rows row → p row ≡ false) → list_any p rows ≡ false
none_any p rows each =
    false_from_ne_true (list_any p rows) (λ t. let m = has_from_any p rows t in false≢true (sym (each m.0 m.1) ∙ m.2))

pub stands_none : (table : Table) → table.rows ≡ [] → StandsFor table []
unfolding rows_of
stands_none table e =
    record {
      kept = λ row h. subst (λ (rows : List PeerRow). Has rows row) e h;
      all = λ row h. absurd h;
    }
