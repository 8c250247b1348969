-- By how much a row counts that is alone with its id.
use Rattle.std.proofs.Common.{◌≡◌, ◌+◌, ◌<◌, ◌≤◌, ℕ, zero, suc, true, false, not, cond, ◌&&◌, List, [], ◌∷◌, ◌++◌, Option, Some, None, length, get_or, set, take, drop, IfSome, refl, sym, ap, ◌∙◌, subst, inl, inr, arith}
use Rattle.std.specs.Ordering.{nat_cmp}
use Rattle.std.specs.declared.cmp.Ordering.TheVariants.{Less, Equal}
use Rattle.std.proofs.lemmas.Bool.{false_from_ne_true}
use Rattle.std.proofs.lemmas.Cmp.{tied_itself, alike_right}
use Rattle.lk_base.specs.IdOrder.{same_id}
use Rattle.lk_base.specs.declared.ids.NodeId.{NodeId}
use Rattle.peer_gateway.specs.Answers.{is_in}
use Rattle.peer_gateway.specs.Happenings.{Has}
use Rattle.peer_gateway.specs.Order.{row_order, Rise}
use Rattle.peer_gateway.specs.Picks.{is_last, is_counted, ids_counted, others_of, IsAlone}
use Rattle.peer_gateway.specs.declared.row.PeerRow.{PeerRow}
use Rattle.peer_gateway.proofs.CountLemmas.{id_order, id_total, equal_test}
use Rattle.peer_gateway.proofs.KeyLemmas.{id_from_test}
use Rattle.peer_gateway.proofs.LimitLemmas.{first_less}
use Rattle.peer_gateway.proofs.MemberLemmas.{has_left, has_right, has_parts, has_from_all, index_has}
use Rattle.peer_gateway.proofs.OrderLemmas.{rise_back, rise_across, split_here}

-- ---- which rows are alone

not_below_itself : (a b : NodeId) → a ≡ b → id_order a b ≡ Less → ⊥
not_below_itself a b same less =
    let equal : id_order a b ≡ Equal = subst (λ (n : NodeId). id_order a n ≡ Equal) same (tied_itself id_total a) in
    let apart : Less ≡ Equal = sym less ∙ equal in cc

id_tied : (a b c : PeerRow) → row_order a b ≡ Less → row_order b c ≡ Less → a.id ≡ c.id → id_order a.id b.id ≡ Equal
id_tied a b c up vp same =
    elim (first_less (id_order a.id b.id) (nat_cmp a.gate.0 b.gate.0) up) as (λ _. id_order a.id b.id ≡ Equal) [
      | inl below ↦ elim (first_less (id_order b.id c.id) (nat_cmp b.gate.0 c.gate.0) vp) as (λ _. id_order a.id b.id ≡ Equal) [
        | inl above ↦ absurd (not_below_itself a.id c.id same (id_total.trans a.id b.id c.id below above))
        | inr tied ↦ absurd (not_below_itself a.id c.id same (sym (alike_right id_total b.id c.id a.id tied) ∙ below))
      ]
      | inr tied ↦ tied
    ]

-- where two rows have the same id, each between them has it
between_first : (a b c : PeerRow) → row_order a b ≡ Less → row_order b c ≡ Less → a.id ≡ c.id → a.id ≡ b.id
between_first a b c up vp same = id_from_test a.id b.id (equal_test a.id b.id (id_tied a b c up vp same))

between_last : (a b c : PeerRow) → row_order a b ≡ Less → row_order b c ≡ Less → a.id ≡ c.id → b.id ≡ c.id
between_last a b c up vp same = sym (between_first a b c up vp same) ∙ same

next_less : (rows : List PeerRow) (j : ℕ) (d e : PeerRow) → Rise row_order rows → suc j < length rows
    → row_order (get_or rows j d) (get_or rows (suc j) e) ≡ Less
next_less [] j d e up l = absurd (omega arith)
next_less (a ∷ []) j d e up l = absurd (omega arith)
next_less (a ∷ b ∷ rows) zero d e up l = up.0.0
next_less (a ∷ b ∷ rows) (suc j) d e up l = next_less (b ∷ rows) j d e up.1 (omega arith)

-- the row before is of another id, and so are all before it
alone_before : (rows : List PeerRow) (j : ℕ) (prior row other : PeerRow) → Rise row_order rows → suc j < length rows
    → prior ≡ get_or rows j prior → row ≡ get_or rows (suc j) row → (prior.id ≡ row.id → ⊥)
    → Has (take (suc j) rows) other → other.id ≡ row.id → ⊥
alone_before [] j prior row other up l p r apart h same = absurd (omega arith)
alone_before (a ∷ rows) zero prior row other up l p r apart (inl e) same =
    apart (ap (λ (z : PeerRow). z.id) (p ∙ e) ∙ same)
alone_before (a ∷ rows) zero prior row other up l p r apart (inr h) same = absurd h
alone_before (a ∷ rows) (suc j) prior row other up l p r apart (inl e) same =
    let k : j < length rows = omega arith in
    let has : Has rows prior = subst (λ (z : PeerRow). Has rows z) (sym p) (index_has rows j prior k) in
    let first : row_order a prior ≡ Less = has_from_all (λ y. row_order a y ≡ Less) rows prior up.0 has in
    let next : row_order prior row ≡ Less =
    subst (λ (z : PeerRow). row_order z row ≡ Less) (sym p)
    (subst (λ (z : PeerRow). row_order (get_or rows j prior) z ≡ Less) (sym r) (next_less rows j prior row up.1 (omega arith))) in
    apart (between_last a prior row first next (ap (λ (z : PeerRow). z.id) e ∙ same))
alone_before (a ∷ rows) (suc j) prior row other up l p r apart (inr h) same =
    alone_before rows j prior row other up.1 (omega arith) p r apart h same

-- the row after is of another id, and so are all after it
alone_after : (rows : List PeerRow) (i : ℕ) (row other : PeerRow) → Rise row_order rows → i < length rows → row ≡ get_or rows i row
    → (suc i < length rows → (next : PeerRow) × (next ≡ get_or rows (suc i) next) × (next.id ≡ row.id → ⊥))
    → Has (drop (suc i) rows) other → other.id ≡ row.id → ⊥
alone_after [] i row other up l r after h same = absurd (omega arith)
alone_after (a ∷ []) zero row other up l r after h same = absurd h
alone_after (a ∷ b ∷ rows) zero row other up l r after (inl e) same =
    let m = after (omega arith) in m.2 (ap (λ (z : PeerRow). z.id) (m.1 ∙ e) ∙ same)
alone_after (a ∷ b ∷ rows) zero row other up l r after (inr h) same =
    let m = after (omega arith) in
    let next : row_order b other ≡ Less = has_from_all (λ y. row_order b y ≡ Less) rows other up.1.0 h in
    let ids : a.id ≡ row.id = ap (λ (z : PeerRow). z.id) (sym r) in
    m.2 (ap (λ (z : PeerRow). z.id) m.1 ∙ sym (between_first a b other up.0.0 next (ids ∙ sym same)) ∙ ids)
alone_after (a ∷ rows) (suc i) row other up l r after h same =
    alone_after rows i row other up.1 (omega arith) r (λ k. after (omega arith)) h same

same_read : (rows : List PeerRow) (i : ℕ) (a b : PeerRow) → i < length rows → a ≡ get_or rows i a → b ≡ get_or rows i b → a ≡ b
same_read [] i a b l p q = absurd (omega arith)
same_read (r ∷ rows) zero a b l p q = p ∙ sym q
same_read (r ∷ rows) (suc i) a b l p q = same_read rows i a b (omega arith) p q

all_before : (rows : List PeerRow) (i : ℕ) (row other : PeerRow) → Rise row_order rows → i < length rows → row ≡ get_or rows i row
    → ((j : ℕ) → i ≡ suc j → (prior : PeerRow) × (prior ≡ get_or rows j prior) × (prior.id ≡ row.id → ⊥))
    → Has (take i rows) other → other.id ≡ row.id → ⊥
all_before rows zero row other up l r before h same = absurd h
all_before rows (suc j) row other up l r before h same =
    let m = before j refl in alone_before rows j m.0 row other up l m.1 r m.2 h same

pub alone : (rows : List PeerRow) (i : ℕ) (row : PeerRow) → Rise row_order rows → i < length rows → row ≡ get_or rows i row
    → ((j : ℕ) → i ≡ suc j → (prior : PeerRow) × (prior ≡ get_or rows j prior) × (prior.id ≡ row.id → ⊥))
    → (suc i < length rows → (next : PeerRow) × (next ≡ get_or rows (suc i) next) × (next.id ≡ row.id → ⊥))
    → IsAlone i rows
alone rows i row up l read before after its other r h same =
    let here : other.id ≡ row.id = same ∙ ap (λ (z : PeerRow). z.id) (same_read rows i its row l r read) in
    elim (has_parts (take i rows) (drop (suc i) rows) other h) as (λ _. ⊥)
    [ inl p ↦ all_before rows i row other up l read before p here | inr q ↦ alone_after rows i row other up l read after q here ]

-- ---- what others count with it, and without it

-- one who isn't among the rows is as good as none
fresh : (session : NodeId) (last : Option NodeId) (rows : List PeerRow) → ((row : PeerRow) → Has rows row → is_last last row.id ≡ false)
    → ids_counted session last rows ≡ ids_counted session None rows
fresh session last [] new = refl
fresh session last (row ∷ rows) new =
    rw (new row (inl refl))
    (elim (is_in session row)
    as (λ b. cond (b && not false) (row.id ∷ ids_counted session (Some row.id) rows) (ids_counted session last rows)
    ≡ cond (b && not false) (row.id ∷ ids_counted session (Some row.id) rows) (ids_counted session None rows))
    [ true ↦ refl | false ↦ fresh session last rows (λ r h. new r (inr h)) ])

apart_test : (a b : NodeId) → (a ≡ b → ⊥) → same_id a b ≡ false
apart_test a b apart = false_from_ne_true (same_id a b) (λ t. apart (id_from_test a b t))

count_first : (session : NodeId) (last : Option NodeId) (ys : List PeerRow) (row : PeerRow)
    → ((y : PeerRow) → Has ys y → y.id ≡ row.id → ⊥) → is_last last row.id ≡ false
    → ((y : PeerRow) → Has ys y → is_last last y.id ≡ false)
    → length (ids_counted session last (row ∷ ys)) ≡ cond (is_in session row) 1 0 + length (ids_counted session last ys)
count_first session last ys row apart new others =
    let one : ids_counted session (Some row.id) ys ≡ ids_counted session None ys =
    fresh session (Some row.id) ys (λ y h. apart_test row.id y.id (λ e. apart y h (sym e))) in
    let none : ids_counted session last ys ≡ ids_counted session None ys = fresh session last ys others in
    let same : length (ids_counted session (Some row.id) ys) ≡ length (ids_counted session last ys) = ap length (one ∙ sym none) in
    rw new
    (elim (is_in session row)
    as (λ b. length (cond (b && not false) (row.id ∷ ids_counted session (Some row.id) ys) (ids_counted session last ys))
    ≡ cond b 1 0 + length (ids_counted session last ys))
    [ true ↦ omega arith | false ↦ omega arith ])

count_middle : (session : NodeId) (last : Option NodeId) (xs ys : List PeerRow) (row : PeerRow) → Rise row_order (xs ++ row ∷ ys)
    → ((x : PeerRow) → Has xs x → x.id ≡ row.id → ⊥) → ((y : PeerRow) → Has ys y → y.id ≡ row.id → ⊥)
    → is_last last row.id ≡ false → ((y : PeerRow) → Has ys y → is_last last y.id ≡ false)
    → length (ids_counted session last (xs ++ row ∷ ys)) ≡ cond (is_in session row) 1 0 + length (ids_counted session last (xs ++ ys))
count_middle session last [] ys row up before after new others = count_first session last ys row after new others
count_middle session last (x ∷ xs) ys row up before after new others =
    let next : row_order x row ≡ Less = rise_across row_order (x ∷ xs) (row ∷ ys) up x row (inl refl) (inl refl) in
    let later : (y : PeerRow) → Has ys y → row_order row y ≡ Less =
    λ y h. has_from_all (λ z. row_order row z ≡ Less) ys y (rise_back row_order (x ∷ xs) (row ∷ ys) up).0 h in
    let counted = count_middle session (Some x.id) xs ys row up.1 (λ z h. before z (inr h)) after
    (apart_test x.id row.id (before x (inl refl)))
    (λ y h. apart_test x.id y.id (λ e. before x (inl refl) (between_first x row y next (later y h) e))) in
    let passed = count_middle session last xs ys row up.1 (λ z h. before z (inr h)) after new others in
    elim (is_counted session last x)
    as (λ b. length (cond b (x.id ∷ ids_counted session (Some x.id) (xs ++ row ∷ ys)) (ids_counted session last (xs ++ row ∷ ys)))
    ≡ cond (is_in session row) 1 0 + length (cond b (x.id ∷ ids_counted session (Some x.id) (xs ++ ys)) (ids_counted session last (xs ++ ys))))
    [ true ↦ omega arith | false ↦ passed ]

pub counts_alone : (session : NodeId) (rows : List PeerRow) (i : ℕ) (row : PeerRow) → Rise row_order rows → i < length rows
    → row ≡ get_or rows i row → IsAlone i rows
    → length (ids_counted session None rows) ≡ cond (is_in session row) 1 0 + length (ids_counted session None (others_of i rows))
counts_alone session rows i row up l read alone =
    let split : rows ≡ take i rows ++ row ∷ drop (suc i) rows =
    subst (λ (z : PeerRow). rows ≡ take i rows ++ z ∷ drop (suc i) rows) (sym read) (split_here rows i row l) in
    ap (λ (zs : List PeerRow). length (ids_counted session None zs)) split
    ∙ count_middle session None (take i rows) (drop (suc i) rows) row (subst (λ (zs : List PeerRow). Rise row_order zs) split up)
    (λ x h. alone row x read (has_left (take i rows) (drop (suc i) rows) x h))
    (λ y h. alone row y read (has_right (take i rows) (drop (suc i) rows) y h)) refl (λ y h. refl)

-- ---- the others through each change

pub others_added : (rows : List PeerRow) (i : ℕ) (row : PeerRow) → i ≤ length rows → others_of i (take i rows ++ row ∷ drop i rows) ≡ rows
others_added rows zero row l = refl
others_added [] (suc i) row l = absurd (omega arith)
others_added (a ∷ rows) (suc i) row l = ap (λ (zs : List PeerRow). a ∷ zs) (others_added rows i row (omega arith))

pub others_set : (rows : List PeerRow) (i : ℕ) (row : PeerRow) → others_of i (set rows i row) ≡ others_of i rows
others_set [] i row = refl
others_set (a ∷ rows) zero row = refl
others_set (a ∷ rows) (suc i) row = ap (λ (zs : List PeerRow). a ∷ zs) (others_set rows i row)

pub place_added : (rows : List PeerRow) (i : ℕ) (row : PeerRow) → i ≤ length rows → i < length (take i rows ++ row ∷ drop i rows)
place_added rows zero row l = omega arith
place_added [] (suc i) row l = absurd (omega arith)
place_added (a ∷ rows) (suc i) row l = let more = place_added rows i row (omega arith) in omega arith

-- a row that keeps its session counts as before
pub same_counted : (session : NodeId) (last : Option NodeId) (rows : List PeerRow) (i : ℕ) (old row : PeerRow) → old ≡ get_or rows i old
    → old.id ≡ row.id → old.session ≡ row.session → ids_counted session last (set rows i row) ≡ ids_counted session last rows
same_counted session last [] i old row r ids sessions = refl
same_counted session last (a ∷ rows) zero old row r ids sessions =
    let step : NodeId → NodeId → List NodeId =
    λ id its. cond (same_id its session && not (is_last last id)) (id ∷ ids_counted session (Some id) rows) (ids_counted session last rows) in
    ap (λ (n : NodeId). step n row.session) (sym ids ∙ ap (λ (z : PeerRow). z.id) r)
    ∙ ap (λ (n : NodeId). step a.id n) (sym sessions ∙ ap (λ (z : PeerRow). z.session) r)
same_counted session last (a ∷ rows) (suc i) old row r ids sessions =
    elim (is_counted session last a)
    as (λ b. cond b (a.id ∷ ids_counted session (Some a.id) (set rows i row)) (ids_counted session last (set rows i row))
    ≡ cond b (a.id ∷ ids_counted session (Some a.id) rows) (ids_counted session last rows)) [
      | true ↦ ap (λ (ids : List NodeId). a.id ∷ ids) (same_counted session (Some a.id) rows i old row r ids sessions)
      | false ↦ same_counted session last rows i old row r ids sessions
    ]

-- ---- the number through each change

some_map : (o : Option ℕ) (P Q : ℕ → Type 0) → ((n : ℕ) → P n → Q n) → IfSome o P → IfSome o Q
some_map (Some n) P Q f h = f n h
some_map None P Q f h = tt

abbrev count_of : NodeId → List PeerRow → ℕ
count_of session rows = length (ids_counted session None rows)

-- by how much the row at this place counts, where that is known
abbrev pub Counts : NodeId → List PeerRow → ℕ → Option ℕ → Type 0
Counts session rows i alone =
    IfSome alone (λ n. length (ids_counted session None rows) ≡ n + length (ids_counted session None (others_of i rows)))

pub number_added : (session : NodeId) (before : ℕ) (rows new : List PeerRow) (i : ℕ) (gained : Option ℕ) → before ≡ count_of session rows
    → others_of i new ≡ rows → Counts session new i gained → IfSome gained (λ more. before + more ≡ 0 + count_of session new)
number_added session before rows new i gained is others counts =
    some_map gained (λ n. count_of session new ≡ n + count_of session (others_of i new)) (λ more. before + more ≡ 0 + count_of session new)
    (λ n e. let same : count_of session (others_of i new) ≡ count_of session rows = ap (count_of session) others in omega arith) counts

pub number_ended : (session : NodeId) (before : ℕ) (rows new : List PeerRow) (i : ℕ) (lost : Option ℕ) → before ≡ count_of session rows
    → new ≡ others_of i rows → Counts session rows i lost → IfSome lost (λ less. before + 0 ≡ less + count_of session new)
number_ended session before rows new i lost is others counts =
    some_map lost (λ n. count_of session rows ≡ n + count_of session (others_of i rows)) (λ less. before + 0 ≡ less + count_of session new)
    (λ n e. let same : count_of session new ≡ count_of session (others_of i rows) = ap (count_of session) others in omega arith) counts

pub number_renewed : (session : NodeId) (before : ℕ) (rows : List PeerRow) (i : ℕ) (row : PeerRow) (lost gained : Option ℕ)
    → before ≡ count_of session rows → Counts session rows i lost → Counts session (set rows i row) i gained
    → IfSome lost (λ less. IfSome gained (λ more. before + more ≡ less + count_of session (set rows i row)))
number_renewed session before rows i row lost gained is counts later =
    some_map lost (λ n. count_of session rows ≡ n + count_of session (others_of i rows))
    (λ less. IfSome gained (λ more. before + more ≡ less + count_of session (set rows i row)))
    (λ less e.
    some_map gained (λ n. count_of session (set rows i row) ≡ n + count_of session (others_of i (set rows i row)))
    (λ more. before + more ≡ less + count_of session (set rows i row))
    (λ more f.
    let same : count_of session (others_of i (set rows i row)) ≡ count_of session (others_of i rows) = ap (count_of session) (others_set rows i row) in
    omega arith) later) counts
