-- What a table answers is what the lives answer that it stands for.
use Rattle.std.proofs.Common.{◌≡◌, ◌<◌, ◌≤◌, ℕ, ℤ, suc, Bool, true, false, not, leb, List, [], ◌∷◌, length, filter, get_or, refl, sym, ap, ◌∙◌, subst, inl, inr, arith}
use Rattle.std.proofs.lemmas.Bool.{le-leb, lt-leb, cases_Bool}
use Rattle.lk_base.specs.declared.endpoint.Gate.{Gate}
use Rattle.lk_base.specs.declared.ids.NodeId.{NodeId}
use Rattle.peer_gateway.specs.Answers.{had_row, is_on, seen_of, ended_by}
use Rattle.peer_gateway.specs.Happenings.{Happening, StandsFor, is_row_of, lives, rows_of, Has, life_after}
use Rattle.peer_gateway.specs.Order.{order_at, row_order, Rise, IsAt, BelongsAt, IsEnded}
use Rattle.peer_gateway.specs.Table.{Table}
use Rattle.peer_gateway.specs.declared.row.PeerRow.{PeerRow}
use Rattle.peer_gateway.specs.declared.row.Seen.{Seen}
use Rattle.peer_gateway.specs.declared.row.Seen.TheVariants.{New, Known, TableFull}
use Rattle.peer_gateway.proofs.KeyLemmas.{row_at}
use Rattle.peer_gateway.proofs.LifeLemmas.{any_stands, count_stands, none_any}
use Rattle.peer_gateway.proofs.MemberLemmas.{any_from_has, index_has}
use Rattle.peer_gateway.proofs.TableLemmas.{is_found, each_other, filter_whole}

pub had_found : (gate : Gate) (id : NodeId) (table : Table) (life : List Happening) (i : ℕ) → StandsFor table life
    → IsAt (order_at gate id) table.rows i → had_row gate id life ≡ true
had_found gate id table life i stands place =
    let d = row_at gate id in
    sym (any_stands (is_row_of gate id) table life stands)
    ∙ any_from_has (is_row_of gate id) table.rows (get_or table.rows i d) (index_has table.rows i d place.within)
    (is_found table.rows gate id i d place)

pub had_none : (gate : Gate) (id : NodeId) (table : Table) (life : List Happening) (i : ℕ) → StandsFor table life
    → BelongsAt (order_at gate id) table.rows i → had_row gate id life ≡ false
had_none gate id table life i stands place =
    sym (any_stands (is_row_of gate id) table life stands)
    ∙ none_any (is_row_of gate id) table.rows (λ row h. each_other table.rows gate id i row place h)

-- where there is no such row a goodbye ends none
pub none_left : (gate : Gate) (id : NodeId) (rows : List PeerRow) (i : ℕ) → BelongsAt (order_at gate id) rows i → IsEnded gate id rows rows
none_left gate id rows i place =
    record { stay = λ row h _. h; from = λ row h. (h, each_other rows gate id i row place h) }

pub known : (gate : Gate) (id : NodeId) (table : Table) (life : List Happening) (i : ℕ) → StandsFor table life
    → IsAt (order_at gate id) table.rows i → seen_of gate id life ≡ Known
unfolding seen_of
known gate id table life i stands place = rw (had_found gate id table life i stands place) refl

pub full : (gate : Gate) (id : NodeId) (table : Table) (life : List Happening) (i : ℕ) → Rise row_order table.rows → StandsFor table life
    → BelongsAt (order_at gate id) table.rows i → 128 ≤ length (filter (is_on gate) table.rows) → seen_of gate id life ≡ TableFull
unfolding seen_of
full gate id table life i up stands place most =
    let same = count_stands (is_on gate) table life up stands in
    let test : leb 128 (length (filter (is_on gate) (rows_of life))) ≡ true = le-leb 128 _ (omega arith) in
    rw (had_none gate id table life i stands place, test) refl

pub new : (gate : Gate) (id : NodeId) (table : Table) (life : List Happening) (i : ℕ) → Rise row_order table.rows → StandsFor table life
    → BelongsAt (order_at gate id) table.rows i → length (filter (is_on gate) table.rows) < 128 → seen_of gate id life ≡ New
unfolding seen_of
new gate id table life i up stands place few =
    let same = count_stands (is_on gate) table life up stands in
    let test : leb 128 (length (filter (is_on gate) (rows_of life))) ≡ false = lt-leb 128 _ (omega arith) in
    rw (had_none gate id table life i stands place, test) refl

pub how_many_ended : (moment : ℤ) (table : Table) (life : List Happening) → Rise row_order table.rows → StandsFor table life
    → length (filter (λ row. not (lives moment row)) table.rows) ≡ ended_by moment life
unfolding ended_by
how_many_ended moment table life up stands = count_stands (λ row. not (lives moment row)) table life up stands

none_out : {A : Type 0} (p : A → Bool) (xs : List A) → length (filter (λ x. not (p x)) xs) ≡ 0 → (x : A) → Has xs x → p x ≡ true
none_out p [] e x h = absurd h
none_out {A} p (a ∷ xs) e x h =
    elim (cases_Bool (p a)) as (λ _. p x ≡ true) [
      | inl t ↦
          let rest : length (filter (λ (y : A). not (p y)) xs) ≡ 0 = rw t at e in
          elim h as (λ _. p x ≡ true) [ inl q ↦ sym (ap p q) ∙ t | inr k ↦ none_out p xs rest x k ]
      | inr f ↦
          let some : suc (length (filter (λ (y : A). not (p y)) xs)) ≡ 0 = rw f at e in
          absurd (omega arith)
    ]

-- where none ended all stay
pub all_stay : (moment : ℤ) (rows : List PeerRow) → length (filter (λ row. not (lives moment row)) rows) ≡ 0 → filter (lives moment) rows ≡ rows
all_stay moment rows e = filter_whole (lives moment) rows (λ row h. none_out (lives moment) rows e row h)

-- what a table stands for once it is known what a sighting was
pub stands_seen : (seen said : Seen) (row : PeerRow) (table : Table) (life : List Happening) → seen ≡ said
    → StandsFor table (life_after said row life) → StandsFor table (life_after seen row life)
stands_seen seen said row table life e h = subst (λ (s : Seen). StandsFor table (life_after s row life)) (sym e) h
