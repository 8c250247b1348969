-- The two lists of a table through each change.
use Rattle.std.proofs.Common.{◌≡◌, ◌⊎◌, ◌+◌, ◌*◌, ◌<◌, ◌≤◌, ◌<ℤ◌, ◌≤ℤ◌, ℕ, zero, suc, ℤ, Bool, true, false, not, cond, eqb, int_lt, ◌==◌, List, [], ◌∷◌, ◌++◌, length, filter, map, get_or, set, take, drop, refl, sym, ap, ◌∙◌, subst, inl, inr, arith}
use Rattle.std.specs.declared.cmp.Ordering.{Ordering}
use Rattle.std.specs.declared.cmp.Ordering.TheVariants.{Less, Equal, Greater}
use Rattle.std.specs.Cmp.{IsTotalOrder}
use Rattle.std.proofs.lemmas.Bool.{false≢true, eqb-false, eqb-true, not-true, cases_Bool, false_from_ne_true}
use Rattle.std.proofs.lemmas.Int.{ints}
use Rattle.std.proofs.lemmas.List.{take-append-drop, set_split, length-map, length-drop}
use Rattle.std.proofs.lemmas.List.Filters.{length-filter_both}
use Rattle.lk_base.specs.declared.endpoint.Gate.{Gate}
use Rattle.lk_base.specs.declared.ids.NodeId.{NodeId}
use Rattle.peer_gateway.specs.Answers.{is_on}
use Rattle.peer_gateway.specs.Expiry.{expiry_of}
use Rattle.peer_gateway.specs.Happenings.{Has, is_row_of, lives}
use Rattle.peer_gateway.specs.Order.{order_at, row_order, entry_order, Rise, IsAt, BelongsAt, IsTable, IsWith, IsWithout, IsEnded, IsWritten}
use Rattle.peer_gateway.specs.declared.expiry.Expiry.{Expiry}
use Rattle.peer_gateway.specs.declared.row.PeerRow.{PeerRow}
use Rattle.peer_gateway.proofs.KeyLemmas.{row_total, entry_total, key_from_order, key_from_test, test_from_key, order_from_key, other_from_order, key_from_expiry}
use Rattle.peer_gateway.proofs.MemberLemmas.{Distinct, has_parts, has_middle, middle_has, middle_itself, has_right, has_filter, filter_has, has_map, map_has, has_from_all, length_le, length_same, index_has}
use Rattle.peer_gateway.proofs.OrderLemmas.{rise_distinct, rise_filter, rise_back, rise_without, rise_replaced, rise_inserted, turned_back, apart_middle, split_here}

-- ---- how many pass a test

pub count_middle : {A : Type 0} (p : A → Bool) (xs ys : List A) (x : A)
    → length (filter p (xs ++ x ∷ ys)) ≡ cond (p x) 1 0 + length (filter p (xs ++ ys))
count_middle p [] ys x =
    elim (p x) as (λ b. length (cond b (x ∷ filter p ys) (filter p ys)) ≡ cond b 1 0 + length (filter p ys))
    [ true ↦ omega arith | false ↦ omega arith ]
count_middle p (a ∷ xs) ys x =
    let more = count_middle p xs ys x in
    elim (p a) as (λ b. length (cond b (a ∷ filter p (xs ++ x ∷ ys)) (filter p (xs ++ x ∷ ys)))
    ≡ cond (p x) 1 0 + length (cond b (a ∷ filter p (xs ++ ys)) (filter p (xs ++ ys))))
    [ true ↦ omega arith | false ↦ more ]

filter_le_step : {A : Type 0} (p : A → Bool) (a : A) (xs ys : List A) (b : Bool) → length (filter p ys) ≤ length (filter p xs)
    → length (filter p (cond b (a ∷ ys) ys)) ≤ length (cond (p a) (a ∷ filter p xs) (filter p xs))
filter_le_step p a xs ys true le =
    elim (p a) as (λ c. length (cond c (a ∷ filter p ys) (filter p ys)) ≤ length (cond c (a ∷ filter p xs) (filter p xs)))
    [ true ↦ omega arith | false ↦ le ]
filter_le_step p a xs ys false le =
    elim (p a) as (λ c. length (filter p ys) ≤ length (cond c (a ∷ filter p xs) (filter p xs))) [ true ↦ omega arith | false ↦ le ]

pub filter_le : {A : Type 0} (p q : A → Bool) (xs : List A) → length (filter p (filter q xs)) ≤ length (filter p xs)
filter_le p q [] = omega arith
filter_le p q (a ∷ xs) = filter_le_step p a xs (filter q xs) (q a) (filter_le p q xs)

pub filter_whole : {A : Type 0} (p : A → Bool) (xs : List A) → ((x : A) → Has xs x → p x ≡ true) → filter p xs ≡ xs
filter_whole p [] each = refl
filter_whole p (a ∷ xs) each =
    rw (each a (inl refl)) (ap (λ zs. a ∷ zs) (filter_whole p xs (λ x h. each x (inr h))))

is_later : (limit moment : ℤ) → moment <ℤ limit → int_lt moment limit ≡ true
is_later limit moment h = grind (arith, ints)

later_not : (limit moment : ℤ) → limit ≤ℤ moment → int_lt moment limit ≡ true → ⊥
later_not limit moment h e = grind (arith, ints)

-- ---- so few rows that there is room

gate_of : ℕ → Gate
gate_of n = record { 0 = n }

pub few_rows : (n : ℕ) (rows : List PeerRow) → ((row : PeerRow) → Has rows row → row.gate.0 < n)
    → ((gate : Gate) → length (filter (is_on gate) rows) ≤ 128) → length rows ≤ 128 * n
few_rows zero [] on few = omega arith
few_rows zero (row ∷ rows) on few = let none : row.gate.0 < 0 = on row (inl refl) in absurd (omega arith)
few_rows (suc n) rows on few =
    let last : Gate = record { 0 = n } in
    let others : PeerRow → Bool = λ row. not (is_on last row) in
    let fewer : length (filter others rows) ≤ 128 * n =
    few_rows n (filter others rows)
    (λ row h.
    let m = filter_has others rows row h in
    let below : row.gate.0 < suc n = on row m.0 in
    let other : row.gate.0 ≡ n → ⊥ = eqb-false row.gate.0 n (not-true (eqb row.gate.0 n) m.1) in
    omega arith)
    (λ gate. let le = filter_le (is_on gate) others rows in let most = few gate in omega arith) in
    let both : length (filter (is_on last) rows) + length (filter others rows) ≡ length rows =
    length-filter_both (is_on last) others (λ _. refl) rows in
    let most = few last in
    omega arith

expiries_distinct : (rows : List PeerRow) → Rise row_order rows → Distinct (map expiry_of rows)
expiries_distinct [] up = tt
expiries_distinct (row ∷ rows) up = (
  λ h.
      let m = map_has expiry_of rows (expiry_of row) h in
      let key = key_from_test m.0.gate m.0.id row (key_from_expiry row m.0 (sym m.2)) in
      let same : row_order row m.0 ≡ Equal = order_from_key m.0.gate m.0.id row key.0 key.1 in
      let less : row_order row m.0 ≡ Less = has_from_all (λ y. row_order row y ≡ Less) rows m.0 up.0 m.1 in
      cc,
  expiries_distinct rows up.1,
)

-- both lists have one entry a row
pub lengths : {gates : ℕ} {rows : List PeerRow} {limits : List Expiry} → IsTable gates rows limits → length limits ≡ length rows
lengths {gates} {rows} {limits} t =
    length_same limits (map expiry_of rows) (rise_distinct entry_total limits t.limits_in_order) (expiries_distinct rows t.in_order)
    (λ e h. let b = t.back e h in subst (λ (z : Expiry). Has (map expiry_of rows) z) b.2 (has_map expiry_of rows b.0 b.1))
    (λ e h. let m = map_has expiry_of rows e h in subst (λ (z : Expiry). Has limits z) m.2 (t.there m.0 m.1))
    ∙ length-map rows expiry_of

pub room : {gates : ℕ} {rows : List PeerRow} {limits : List Expiry} → IsTable gates rows limits → length rows ≤ 128 * gates
room {gates} {rows} t = few_rows gates rows t.on_gates t.few_on

-- ---- rows by gate and id

pub rise_unique : {A : Type 0} {order : A → A → Ordering} (o : IsTotalOrder order) (xs : List A) (a b : A) → Rise order xs
    → Has xs a → Has xs b → order a b ≡ Equal → a ≡ b
rise_unique o [] a b up h k e = absurd h
rise_unique o (x ∷ xs) a b up (inl p) (inl q) e = sym p ∙ q
rise_unique {A} {order} o (x ∷ xs) a b up (inl p) (inr k) e =
    let less : order x b ≡ Less = has_from_all (λ y. order x y ≡ Less) xs b up.0 k in
    let same : order x b ≡ Equal = ap (λ z. order z b) p ∙ e in
    absurd (cc)
rise_unique {A} {order} o (x ∷ xs) a b up (inr h) (inl q) e =
    let more : order a x ≡ Greater = turned_back o x a (has_from_all (λ y. order x y ≡ Less) xs a up.0 h) in
    let same : order a x ≡ Equal = ap (λ z. order a z) q ∙ e in
    absurd (cc)
rise_unique o (x ∷ xs) a b up (inr h) (inr k) e = rise_unique o xs a b up.1 h k e

-- the row of a gate and an id
pub row_unique : (rows : List PeerRow) (gate : Gate) (id : NodeId) (a b : PeerRow) → Rise row_order rows → Has rows a → Has rows b
    → is_row_of gate id a ≡ true → is_row_of gate id b ≡ true → a ≡ b
row_unique rows gate id a b up h k p q =
    let one = key_from_test gate id a p in
    let two = key_from_test gate id b q in
    rise_unique row_total rows a b up h k (order_from_key b.gate b.id a (one.0 ∙ sym two.0) (one.1 ∙ sym two.1))

pub is_found : (rows : List PeerRow) (gate : Gate) (id : NodeId) (i : ℕ) (d : PeerRow) → IsAt (order_at gate id) rows i
    → is_row_of gate id (get_or rows i d) ≡ true
is_found rows gate id i d place =
    let key = key_from_order gate id (get_or rows i d) (place.equal d) in
    test_from_key gate id (get_or rows i d) key.0 key.1

-- where it isn't found each row is another's
pub each_other : (rows : List PeerRow) (gate : Gate) (id : NodeId) (i : ℕ) (row : PeerRow) → BelongsAt (order_at gate id) rows i
    → Has rows row → is_row_of gate id row ≡ false
each_other rows gate id i row place h =
    elim (has_parts (take i rows) (drop i rows) row (subst (λ (zs : List PeerRow). Has zs row) (sym (take-append-drop i rows)) h))
    as (λ _. is_row_of gate id row ≡ false) [
      | inl p ↦ other_from_order gate id row (λ e. let less : order_at gate id row ≡ Less = place.before row p in cc)
      | inr q ↦ other_from_order gate id row (λ e. let more : order_at gate id row ≡ Greater = place.after row q in cc)
    ]

-- beside the row of a gate and an id each is another's
apart_row : (xs ys : List PeerRow) (old : PeerRow) (gate : Gate) (id : NodeId) (other : PeerRow) → Rise row_order (xs ++ old ∷ ys)
    → is_row_of gate id old ≡ true → Has (xs ++ ys) other → is_row_of gate id other ≡ false
apart_row xs ys old gate id other up same h =
    let key = key_from_test gate id old same in
    other_from_order gate id other
    (λ e.
    let found = key_from_order gate id other e in
    apart_middle row_total xs ys old other up h (order_from_key old.gate old.id other (found.0 ∙ sym key.0) (found.1 ∙ sym key.1)))

-- what goes in the place of a row of the same gate and id
pub written_over : (xs ys : List PeerRow) (old row : PeerRow) → Rise row_order (xs ++ old ∷ ys) → is_row_of row.gate row.id old ≡ true
    → IsWritten row (xs ++ old ∷ ys) (xs ++ row ∷ ys)
written_over xs ys old row up same =
    record {
      here = middle_itself xs ys row;
      stay = λ other h else'.
          elim (has_middle xs ys old other h) as (λ _. Has (xs ++ row ∷ ys) other)
          [ inl e ↦ absurd (false≢true (sym else' ∙ ap (is_row_of row.gate row.id) e ∙ same)) | inr q ↦ middle_has xs ys row other q ];
      from = λ other h.
          elim (has_middle xs ys row other h) as (λ _. (other ≡ row) ⊎ (Has (xs ++ old ∷ ys) other × (is_row_of row.gate row.id other ≡ false)))
          [ inl e ↦ inl e | inr q ↦ inr (middle_has xs ys old other q, apart_row xs ys old row.gate row.id other up same q) ];
    }

pub written_between : (rows : List PeerRow) (row : PeerRow) (i : ℕ) → BelongsAt (order_at row.gate row.id) rows i
    → IsWritten row rows (take i rows ++ row ∷ drop i rows)
written_between rows row i place =
    record {
      here = middle_itself (take i rows) (drop i rows) row;
      stay = λ other h _. middle_has (take i rows) (drop i rows) row other
          (subst (λ (zs : List PeerRow). Has zs other) (sym (take-append-drop i rows)) h);
      from = λ other h.
          elim (has_middle (take i rows) (drop i rows) row other h)
          as (λ _. (other ≡ row) ⊎ (Has rows other × (is_row_of row.gate row.id other ≡ false))) [
            | inl e ↦ inl e
            | inr q ↦ let k : Has rows other = subst (λ (zs : List PeerRow). Has zs other) (take-append-drop i rows) q in
                inr (k, each_other rows row.gate row.id i other place k)
          ];
    }

pub taken_out : (xs ys : List PeerRow) (old : PeerRow) (gate : Gate) (id : NodeId) → Rise row_order (xs ++ old ∷ ys)
    → is_row_of gate id old ≡ true → IsEnded gate id (xs ++ old ∷ ys) (xs ++ ys)
taken_out xs ys old gate id up same =
    record {
      stay = λ other h else'.
          elim (has_middle xs ys old other h) as (λ _. Has (xs ++ ys) other)
          [ inl e ↦ absurd (false≢true (sym else' ∙ ap (is_row_of gate id) e ∙ same)) | inr q ↦ q ];
      from = λ other h. (middle_has xs ys old other h, apart_row xs ys old gate id other up same h);
    }

-- ---- the list by limit

-- it has the entries of the rows but for that of a gate and an id
pub record HasOthers (gate : Gate) (id : NodeId) (rows : List PeerRow) (limits : List Expiry) : Type 0 where
  pub there : (row : PeerRow) → Has rows row → is_row_of gate id row ≡ false → Has limits (expiry_of row)
  pub back : (e : Expiry) → Has limits e → (row : PeerRow) × Has rows row × (is_row_of gate id row ≡ false) × (expiry_of row ≡ e)

pub others_left : {gates : ℕ} {rows : List PeerRow} {limits : List Expiry} (gate : Gate) (id : NodeId) (old : PeerRow) (less : List Expiry)
    → IsTable gates rows limits → Has rows old → is_row_of gate id old ≡ true → IsWithout (expiry_of old) limits less
    → HasOthers gate id rows less
others_left {gates} {rows} {limits} gate id old less t had same w =
    let key = key_from_test gate id old same in
    record {
      there = λ row h else'. w.stay (expiry_of row) (t.there row h)
          (λ e.
          let its = key_from_test old.gate old.id row (key_from_expiry row old e) in
          false≢true (sym else' ∙ test_from_key gate id row (its.0 ∙ key.0) (its.1 ∙ key.1)));
      back = λ e h.
          let f = w.from e h in
          let b = t.back e f.0 in (
            b.0,
            b.1,
            false_from_ne_true (is_row_of gate id b.0)
                (λ p. f.1 (sym b.2 ∙ ap expiry_of (row_unique rows gate id b.0 old t.in_order b.1 had p same))),
            b.2,
          );
    }

pub others_all : {gates : ℕ} {rows : List PeerRow} {limits : List Expiry} (gate : Gate) (id : NodeId) (i : ℕ)
    → IsTable gates rows limits → BelongsAt (order_at gate id) rows i → HasOthers gate id rows limits
others_all {gates} {rows} gate id i t place =
    record {
      there = λ row h _. t.there row h;
      back = λ e h. let b = t.back e h in (b.0, b.1, each_other rows gate id i b.0 place b.1, b.2);
    }

-- ---- the table after each change

-- a row is written, where the list by limit had the others' entries and got its own
pub table_written : {rows : List PeerRow} {less limits : List Expiry} (gates : ℕ) (row : PeerRow) (new : List PeerRow)
    → HasOthers row.gate row.id rows less → IsWith (expiry_of row) less limits → IsWritten row rows new
    → Rise row_order new → Rise entry_order limits → ((other : PeerRow) → Has rows other → other.gate.0 < gates) → row.gate.0 < gates
    → ((gate : Gate) → length (filter (is_on gate) new) ≤ 128) → IsTable gates new limits
table_written {rows} {less} {limits} gates row new others with' written up limits_up on here few =
    record {
      in_order = up;
      on_gates = λ other h. elim (written.from other h) as (λ _. other.gate.0 < gates)
          [ inl e ↦ subst (λ (z : PeerRow). z.gate.0 < gates) (sym e) here | inr k ↦ on other k.0 ];
      few_on = few;
      limits_in_order = limits_up;
      there = λ other h. elim (written.from other h) as (λ _. Has limits (expiry_of other)) [
        | inl e ↦ subst (λ (z : PeerRow). Has limits (expiry_of z)) (sym e) with'.here
        | inr k ↦ with'.stay (expiry_of other) (others.there other k.0 k.1)
      ];
      back = λ e h. elim (with'.from e h) as (λ _. (other : PeerRow) × Has new other × (expiry_of other ≡ e)) [
        | inl same ↦ (row, written.here, sym same)
        | inr k ↦ let b = others.back e k in (b.0, written.stay b.0 b.1 b.2, b.3)
      ];
    }

-- a row is taken out, where the list by limit has the others' entries
pub table_ended : {rows : List PeerRow} (limits : List Expiry) (gates : ℕ) (gate : Gate) (id : NodeId) (new : List PeerRow)
    → HasOthers gate id rows limits → IsEnded gate id rows new
    → Rise row_order new → Rise entry_order limits → ((other : PeerRow) → Has rows other → other.gate.0 < gates)
    → ((gate : Gate) → length (filter (is_on gate) new) ≤ 128) → IsTable gates new limits
table_ended {rows} limits gates gate id new others ended up limits_up on few =
    record {
      in_order = up;
      on_gates = λ other h. on other (ended.from other h).0;
      few_on = few;
      limits_in_order = limits_up;
      there = λ other h. let k = ended.from other h in others.there other k.0 k.1;
      back = λ e h. let b = others.back e h in (b.0, ended.stay b.0 b.1 b.2, b.3);
    }

-- the front, the row at the place, and the back
split_row : (rows : List PeerRow) (i : ℕ) (old : PeerRow) → i < length rows → old ≡ get_or rows i old
    → rows ≡ take i rows ++ old ∷ drop (suc i) rows
split_row rows i old l read =
    subst (λ (z : PeerRow). rows ≡ take i rows ++ z ∷ drop (suc i) rows) (sym read) (split_here rows i old l)

pub read_found : (rows : List PeerRow) (gate : Gate) (id : NodeId) (i : ℕ) (old : PeerRow) → IsAt (order_at gate id) rows i → old ≡ get_or rows i old
    → is_row_of gate id old ≡ true
read_found rows gate id i old place read = ap (is_row_of gate id) read ∙ is_found rows gate id i old place

read_has : (rows : List PeerRow) (i : ℕ) (old : PeerRow) → i < length rows → old ≡ get_or rows i old → Has rows old
read_has rows i old l read = subst (λ (z : PeerRow). Has rows z) (sym read) (index_has rows i old l)

-- the list by limit is shorter without the entry of a row
pub shorter : {gates : ℕ} {rows : List PeerRow} {limits : List Expiry} (i : ℕ) (old : PeerRow) (less : List Expiry)
    → IsTable gates rows limits → i < length rows → old ≡ get_or rows i old → IsWithout (expiry_of old) limits less → Rise entry_order less
    → length less < 128 * gates
shorter {gates} {rows} {limits} i old less t l read w up =
    let had : Has limits (expiry_of old) = t.there old (read_has rows i old l read) in
    let apart : Distinct (expiry_of old ∷ less) = (λ h. (w.from (expiry_of old) h).1 refl, rise_distinct entry_total less up) in
    let le : suc (length less) ≤ length limits =
    length_le (expiry_of old ∷ less) limits apart
    (λ e h. elim h as (λ _. Has limits e) [ inl same ↦ subst (λ (z : Expiry). Has limits z) same had | inr k ↦ (w.from e k).0 ]) in
    let same = lengths t in
    let most = room t in
    omega arith

pub row_ended : {gates : ℕ} {rows : List PeerRow} {limits : List Expiry} (gate : Gate) (id : NodeId) (i : ℕ) (old : PeerRow) (less : List Expiry)
    → IsTable gates rows limits → IsAt (order_at gate id) rows i → old ≡ get_or rows i old
    → IsWithout (expiry_of old) limits less → Rise entry_order less
    → IsTable gates (take i rows ++ drop (suc i) rows) less × IsEnded gate id rows (take i rows ++ drop (suc i) rows)
row_ended {gates} {rows} {limits} gate id i old less t place read w up =
    let split = split_row rows i old place.within read in
    let same = read_found rows gate id i old place read in
    let rise : Rise row_order (take i rows ++ old ∷ drop (suc i) rows) = subst (λ (zs : List PeerRow). Rise row_order zs) split t.in_order in
    let ended : IsEnded gate id rows (take i rows ++ drop (suc i) rows) =
    subst (λ (zs : List PeerRow). IsEnded gate id zs (take i rows ++ drop (suc i) rows)) (sym split)
    (taken_out (take i rows) (drop (suc i) rows) old gate id rise same) in (
      table_ended less gates gate id (take i rows ++ drop (suc i) rows)
          (others_left gate id old less t (read_has rows i old place.within read) same w) ended
          (rise_without row_order (take i rows) (drop (suc i) rows) old rise) up t.on_gates
          (λ g.
          let most = t.few_on g in
          let whole : length (filter (is_on g) rows) ≡ cond (is_on g old) 1 0 + length (filter (is_on g) (take i rows ++ drop (suc i) rows)) =
          ap (λ (zs : List PeerRow). length (filter (is_on g) zs)) split ∙ count_middle (is_on g) (take i rows) (drop (suc i) rows) old in
          omega arith),
      ended,
    )

pub row_renewed : {gates : ℕ} {rows : List PeerRow} {limits : List Expiry} (row : PeerRow) (i : ℕ) (old : PeerRow) (less more : List Expiry)
    → IsTable gates rows limits → IsAt (order_at row.gate row.id) rows i → old ≡ get_or rows i old
    → IsWithout (expiry_of old) limits less → IsWith (expiry_of row) less more → Rise entry_order more
    → IsTable gates (set rows i row) more × IsWritten row rows (set rows i row)
row_renewed {gates} {rows} {limits} row i old less more t place read w v up =
    let split = split_row rows i old place.within read in
    let same = read_found rows row.gate row.id i old place read in
    let key = key_from_test row.gate row.id old same in
    let rise : Rise row_order (take i rows ++ old ∷ drop (suc i) rows) = subst (λ (zs : List PeerRow). Rise row_order zs) split t.in_order in
    let written : IsWritten row rows (take i rows ++ row ∷ drop (suc i) rows) =
    subst (λ (zs : List PeerRow). IsWritten row zs (take i rows ++ row ∷ drop (suc i) rows)) (sym split)
    (written_over (take i rows) (drop (suc i) rows) old row rise same) in
    let had = read_has rows i old place.within read in
    subst (λ (zs : List PeerRow). IsTable gates zs more × IsWritten row rows zs) (sym (set_split rows i row place.within)) (
      table_written gates row (take i rows ++ row ∷ drop (suc i) rows)
          (others_left row.gate row.id old less t had same w) v written
          (rise_replaced row_total (take i rows) (drop (suc i) rows) old row (order_from_key row.gate row.id old key.0 key.1) rise) up t.on_gates
          (subst (λ (g : Gate). g.0 < gates) key.0 (t.on_gates old had))
          (λ g.
          let most = t.few_on g in
          let alike : is_on g old ≡ is_on g row = ap (λ (z : Gate). z.0 == g.0) key.0 in
          let whole : length (filter (is_on g) rows) ≡ cond (is_on g old) 1 0 + length (filter (is_on g) (take i rows ++ drop (suc i) rows)) =
          ap (λ (zs : List PeerRow). length (filter (is_on g) zs)) split ∙ count_middle (is_on g) (take i rows) (drop (suc i) rows) old in
          let now' : length (filter (is_on g) (take i rows ++ row ∷ drop (suc i) rows)) ≡ length (filter (is_on g) rows) =
          count_middle (is_on g) (take i rows) (drop (suc i) rows) row
          ∙ ap (λ b. cond b 1 0 + length (filter (is_on g) (take i rows ++ drop (suc i) rows))) (sym alike) ∙ sym whole in
          omega arith),
      written,
    )

-- one more row of a gate with room
few_with : {gates : ℕ} {rows : List PeerRow} {limits : List Expiry} (row : PeerRow) (g : Gate) → IsTable gates rows limits
    → length (filter (is_on row.gate) rows) < 128 → cond (is_on g row) 1 0 + length (filter (is_on g) rows) ≤ 128
few_with {gates} {rows} row g t few =
    let most = t.few_on g in
    elim (cases_Bool (is_on g row)) as (λ _. cond (is_on g row) 1 0 + length (filter (is_on g) rows) ≤ 128) [
      | inl e ↦
          let alike : row.gate.0 ≡ g.0 = eqb-true row.gate.0 g.0 e in
          let here : length (filter (is_on g) rows) < 128 = subst (λ n. length (filter (λ (r : PeerRow). r.gate.0 == n) rows) < 128) alike few in
          rw e (omega arith)
      | inr e ↦ rw e (omega arith)
    ]

pub room_with : {gates : ℕ} {rows : List PeerRow} {limits : List Expiry} (row : PeerRow) → IsTable gates rows limits
    → row.gate.0 < gates → length (filter (is_on row.gate) rows) < 128 → length rows < 128 * gates
room_with {gates} {rows} row t on few =
    few_rows gates (row ∷ rows)
    (λ other h. elim h as (λ _. other.gate.0 < gates)
    [ inl e ↦ subst (λ (z : PeerRow). z.gate.0 < gates) e on | inr k ↦ t.on_gates other k ])
    (λ g. let most = few_with row g t few in let whole = count_middle (is_on g) [] rows row in omega arith)

pub row_added : {gates : ℕ} {rows : List PeerRow} {limits : List Expiry} (row : PeerRow) (i : ℕ) (more : List Expiry)
    → IsTable gates rows limits → BelongsAt (order_at row.gate row.id) rows i → row.gate.0 < gates
    → length (filter (is_on row.gate) rows) < 128 → IsWith (expiry_of row) limits more → Rise entry_order more
    → IsTable gates (take i rows ++ row ∷ drop i rows) more × IsWritten row rows (take i rows ++ row ∷ drop i rows)
row_added {gates} {rows} {limits} row i more t place on few v up =
    let written = written_between rows row i place in (
      table_written gates row (take i rows ++ row ∷ drop i rows) (others_all row.gate row.id i t place) v written
          (rise_inserted row_total rows row i t.in_order place) up t.on_gates on
          (λ g.
          let most = few_with row g t few in
          let whole : length (filter (is_on g) (take i rows ++ row ∷ drop i rows)) ≡ cond (is_on g row) 1 0 + length (filter (is_on g) rows) =
          count_middle (is_on g) (take i rows) (drop i rows) row
          ∙ ap (λ (zs : List PeerRow). cond (is_on g row) 1 0 + length (filter (is_on g) zs)) (take-append-drop i rows) in
          omega arith),
      written,
    )

-- ---- what ends at a moment

pub rows_ended : {gates : ℕ} {rows : List PeerRow} {limits : List Expiry} (moment : ℤ) (n : ℕ) → IsTable gates rows limits
    → ((e : Expiry) → Has (take n limits) e → e.limit ≤ℤ moment) → ((e : Expiry) → Has (drop n limits) e → moment <ℤ e.limit)
    → IsTable gates (filter (lives moment) rows) (drop n limits)
rows_ended {gates} {rows} {limits} moment n t ended left =
    record {
      in_order = rise_filter row_order (lives moment) rows t.in_order;
      on_gates = λ row h. t.on_gates row (filter_has (lives moment) rows row h).0;
      few_on = λ g. let le = filter_le (is_on g) (lives moment) rows in let most = t.few_on g in omega arith;
      limits_in_order = rise_back entry_order (take n limits) (drop n limits)
          (subst (λ (zs : List Expiry). Rise entry_order zs) (sym (take-append-drop n limits)) t.limits_in_order);
      there = λ row h.
          let m = filter_has (lives moment) rows row h in
          elim (has_parts (take n limits) (drop n limits) (expiry_of row)
          (subst (λ (zs : List Expiry). Has zs (expiry_of row)) (sym (take-append-drop n limits)) (t.there row m.0)))
          as (λ _. Has (drop n limits) (expiry_of row)) [
            | inl p ↦ let over : row.limit ≤ℤ moment = ended (expiry_of row) p in absurd (later_not row.limit moment over m.1)
            | inr q ↦ q
          ];
      back = λ e h.
          let whole = subst (λ (zs : List Expiry). Has zs e) (take-append-drop n limits) (has_right (take n limits) (drop n limits) e h) in
          let b = t.back e whole in (
            b.0,
            has_filter (lives moment) rows b.0 b.1
                (is_later b.0.limit moment (subst (λ (z : Expiry). moment <ℤ z.limit) (sym b.2) (left e h))),
            b.2,
          );
    }

-- so many rows ended as entries of the list by limit
pub count_ended : {gates : ℕ} {rows : List PeerRow} {limits : List Expiry} (moment : ℤ) (n : ℕ) → IsTable gates rows limits → n ≤ length limits
    → IsTable gates (filter (lives moment) rows) (drop n limits) → n ≡ length (filter (λ row. not (lives moment row)) rows)
count_ended {gates} {rows} {limits} moment n t within after =
    let before = lengths t in
    let later = lengths after in
    let dropped = length-drop n limits in
    let both : length (filter (lives moment) rows) + length (filter (λ row. not (lives moment row)) rows) ≡ length rows =
    length-filter_both (lives moment) (λ row. not (lives moment row)) (λ _. refl) rows in
    omega arith

-- where no entry ends each row stays
pub none_ended : {gates : ℕ} {rows : List PeerRow} {limits : List Expiry} (moment : ℤ) → IsTable gates rows limits
    → ((e : Expiry) → Has limits e → moment <ℤ e.limit) → filter (lives moment) rows ≡ rows
none_ended {gates} {rows} moment t left =
    filter_whole (lives moment) rows (λ row h. is_later row.limit moment (left (expiry_of row) (t.there row h)))

pub not_lives_le : (moment : ℤ) (rows : List PeerRow) → length (filter (λ row. not (lives moment row)) rows) ≤ length rows
not_lives_le moment rows =
    let both : length (filter (lives moment) rows) + length (filter (λ row. not (lives moment row)) rows) ≡ length rows =
    length-filter_both (lives moment) (λ row. not (lives moment row)) (λ _. refl) rows in
    omega arith
