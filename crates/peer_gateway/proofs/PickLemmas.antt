-- What one pass over the rows in their order picks and counts, and what stands first in the list by limit.
use Rattle.std.proofs.Common.{◌≡◌, ◌⊎◌, ◌<◌, ◌<ℤ◌, ◌≤ℤ◌, ℕ, ℤ, Bool, true, false, cond, ◌||◌, ◌&&◌, List, [], ◌∷◌, Option, Some, None, length, map, slice_get, refl, sym, ap, ◌∙◌, subst, inl, inr, arith}
use Rattle.std.specs.Prelude.{option_map, nat_lt, IsTrue, if◌then◌else◌}
use Rattle.std.specs.Cmp.{int_ranks}
use Rattle.std.specs.Cmp.Lexicographic.{slice_cmp, texts_ties}
use Rattle.std.specs.Int.{int_min}
use Rattle.std.specs.List.{find}
use Rattle.std.specs.Option.{option_map_or}
use Rattle.std.specs.Ordering.{is_lt, is_eq, nat_cmp, int_cmp, ordering_then, MatchOrdering}
use Rattle.std.specs.declared.cmp.Ordering.{Ordering}
use Rattle.std.specs.declared.cmp.Ordering.TheVariants.{Less, Equal, Greater}
use Rattle.std.proofs.lemmas.Bool.{false≢true, cases_Bool, cases_cond, and_parts, and_from}
use Rattle.std.proofs.lemmas.Bool.Decides.{nat_tests}
use Rattle.std.proofs.lemmas.Cmp.{ranked}
use Rattle.std.proofs.lemmas.Int.{ints, clamps}
use Rattle.lk_base.specs.IdOrder.{same_id, id_lt}
use Rattle.lk_base.specs.declared.ids.NodeId.{NodeId}
use Rattle.peer_gateway.specs.Answers.{least_in, least_limit_of, comes_before, first_of, answering_in, founder_in, target_at, target_of}
use Rattle.peer_gateway.specs.Expiry.{expiry_of, IsEarlier, IsInOrder, HaveSame}
use Rattle.peer_gateway.specs.Happenings.{Happening, StandsFor, rows_of, Has}
use Rattle.peer_gateway.specs.Order.{row_order, entry_order, Rise, IsTable}
use Rattle.peer_gateway.specs.Picks.{is_answering, is_founding}
use Rattle.peer_gateway.specs.Table.{Table}
use Rattle.peer_gateway.specs.declared.expiry.Expiry.{Expiry}
use Rattle.peer_gateway.specs.declared.row.PeerRow.{PeerRow}
use Rattle.peer_gateway.proofs.KeyLemmas.{row_total}
use Rattle.peer_gateway.proofs.LifeLemmas.{life_distinct}
use Rattle.peer_gateway.proofs.LimitLemmas.{limit_le, first_less}
use Rattle.peer_gateway.proofs.MemberLemmas.{all_from_has, has_from_all, has_filter, filter_has, has_map, map_has, length_same}
use Rattle.peer_gateway.proofs.OrderLemmas.{rise_distinct, turned_back}
use Rattle.peer_gateway.proofs.TableLemmas.{lengths}

-- ---- the list by limit

gate_earlier : (a b : Expiry) → ordering_then (nat_cmp a.gate.0 b.gate.0) (slice_cmp nat_cmp a.id.0 b.id.0) ≡ Less
    → (a.gate.0 < b.gate.0) ⊎ ((a.gate.0 ≡ b.gate.0) × IsTrue (id_lt a.id b.id))
gate_earlier a b e =
    let ranks : MatchOrdering (nat_cmp a.gate.0 b.gate.0) (a.gate.0 < b.gate.0) (a.gate.0 ≡ b.gate.0) (b.gate.0 < a.gate.0) =
    ranked a.gate.0 b.gate.0 (nat_cmp a.gate.0 b.gate.0) refl in
    elim (first_less (nat_cmp a.gate.0 b.gate.0) (slice_cmp nat_cmp a.id.0 b.id.0) e)
    as (λ _. (a.gate.0 < b.gate.0) ⊎ ((a.gate.0 ≡ b.gate.0) × IsTrue (id_lt a.id b.id))) [
      | inl less ↦ inl (rw less at ranks)
      | inr same ↦
          let rest : slice_cmp nat_cmp a.id.0 b.id.0 ≡ Less = rw same at e in
          inr (rw same at ranks, ap is_lt rest)
    ]

earlier : (a b : Expiry) → entry_order a b ≡ Less → IsEarlier a b
earlier a b e =
    let ranks : MatchOrdering (int_cmp a.limit b.limit) (a.limit <ℤ b.limit) (a.limit ≡ b.limit) (b.limit <ℤ a.limit) = int_ranks a.limit b.limit in
    elim (first_less (int_cmp a.limit b.limit) (ordering_then (nat_cmp a.gate.0 b.gate.0) (slice_cmp nat_cmp a.id.0 b.id.0)) e)
    as (λ _. IsEarlier a b) [
      | inl less ↦ inl (rw less at ranks)
      | inr same ↦
          let rest : ordering_then (nat_cmp a.gate.0 b.gate.0) (slice_cmp nat_cmp a.id.0 b.id.0) ≡ Less = rw same at e in
          inr (rw same at ranks, gate_earlier a b rest)
    ]

pub in_order : (es : List Expiry) → Rise entry_order es → IsInOrder es
in_order [] up = tt
in_order (e ∷ es) up =
    (all_from_has (IsEarlier e) es (λ f h. earlier e f (has_from_all (λ y. entry_order e y ≡ Less) es f up.0 h)), in_order es up.1)

pub same_limits : {gates : ℕ} {limits : List Expiry} (table : Table) (life : List Happening) → IsTable gates table.rows limits → StandsFor table life
    → HaveSame limits (map expiry_of (rows_of life))
same_limits {gates} {limits} table life t stands =
    record {
      there = λ e h.
          let b = t.back e h in
          subst (λ (z : Expiry). Has (map expiry_of (rows_of life)) z) b.2 (has_map expiry_of (rows_of life) b.0 (stands.kept b.0 b.1));
      back = λ e h.
          let m = map_has expiry_of (rows_of life) e h in
          subst (λ (z : Expiry). Has limits z) m.2 (t.there m.0 (stands.all m.0 m.1));
    }

pub count_limits : {gates : ℕ} {limits : List Expiry} (table : Table) (life : List Happening) → IsTable gates table.rows limits → StandsFor table life
    → length limits ≡ length (rows_of life)
count_limits {gates} {limits} table life t stands =
    lengths t ∙ length_same table.rows (rows_of life) (rise_distinct row_total table.rows t.in_order) (life_distinct life) stands.kept stands.all

low_step : (m x : ℤ) (o : Option ℤ) → m ≤ℤ x → ((y : ℤ) → o ≡ Some y → m ≤ℤ y) → m ≤ℤ option_map_or (int_min x) o x
low_step m x None le above = le
low_step m x (Some y) le above = let ge : m ≤ℤ y = above y refl in omega (arith, ints, clamps)

high_step : (x : ℤ) (o : Option ℤ) → option_map_or (int_min x) o x ≤ℤ x
high_step x None = omega (arith, ints)
high_step x (Some y) = omega (arith, ints, clamps)

low_end : (xs : List ℤ) (m : ℤ) → ((x : ℤ) → Has xs x → m ≤ℤ x) → (y : ℤ) → least_in xs ≡ Some y → m ≤ℤ y
low_end [] m all y e = absurd (cc)
low_end (x ∷ xs) m all y e =
    let low : m ≤ℤ option_map_or (int_min x) (least_in xs) x =
    low_step m x (least_in xs) (all x (inl refl)) (low_end xs m (λ z h. all z (inr h))) in
    let same : option_map_or (int_min x) (least_in xs) x ≡ y = cc in
    subst (λ (z : ℤ). m ≤ℤ z) same low

lesser : (x m : ℤ) → m ≤ℤ x → int_min x m ≡ m
lesser x m le = omega (arith, ints, clamps)

least_is : (xs : List ℤ) (m : ℤ) → Has xs m → ((x : ℤ) → Has xs x → m ≤ℤ x) → least_in xs ≡ Some m
least_is [] m h all = absurd h
least_is (x ∷ xs) m (inl e) all =
    let low : m ≤ℤ option_map_or (int_min x) (least_in xs) x =
    low_step m x (least_in xs) (all x (inl refl)) (low_end xs m (λ z h. all z (inr h))) in
    let high : option_map_or (int_min x) (least_in xs) x ≤ℤ x = high_step x (least_in xs) in
    let same : option_map_or (int_min x) (least_in xs) x ≡ m = omega (arith, ints) in
    ap (λ (z : ℤ). Some z) same
least_is (x ∷ xs) m (inr h) all =
    rw (least_is xs m h (λ z k. all z (inr k))) (ap (λ (z : ℤ). Some z) (lesser x m (all x (inl refl))))

no_members : {A : Type 0} (xs : List A) → ((x : A) → Has xs x → ⊥) → xs ≡ []
no_members [] none = refl
no_members (x ∷ xs) none = absurd (none x (inl refl))

pub first_limit_is : {gates : ℕ} (limits : List Expiry) (table : Table) (life : List Happening) → IsTable gates table.rows limits → StandsFor table life
    → option_map (λ e. e.limit) (slice_get limits 0) ≡ least_limit_of life
unfolding least_limit_of
first_limit_is [] table life t stands =
    sym (ap (λ (rows : List PeerRow). least_in (map (λ row. row.limit) rows))
    (no_members (rows_of life) (λ row h. t.there row (stands.all row h))))
first_limit_is (e ∷ es) table life t stands =
    let b = t.back e (inl refl) in
    let limits_of : PeerRow → ℤ = λ row. row.limit in
    sym (least_is (map limits_of (rows_of life)) e.limit
    (subst (λ (z : Expiry). Has (map limits_of (rows_of life)) z.limit) b.2 (has_map limits_of (rows_of life) b.0 (stands.kept b.0 b.1)))
    (λ x h.
    let m = map_has limits_of (rows_of life) x h in
    subst (λ (z : ℤ). e.limit ≤ℤ z) m.2
    (elim (t.there m.0 (stands.all m.0 m.1)) as (λ _. e.limit ≤ℤ m.0.limit) [
      | inl same ↦ subst (λ (z : Expiry). e.limit ≤ℤ z.limit) same (omega (arith, ints))
      | inr k ↦ limit_le e (expiry_of m.0) (has_from_all (λ y. entry_order e y ≡ Less) es (expiry_of m.0) t.limits_in_order.0 k)
    ])))

-- ---- the first row that passes a test

lt_then : (o u : Ordering) (s l : Bool) → s ≡ is_eq o → l ≡ is_lt u → (is_lt o || (s && l)) ≡ is_lt (ordering_then o u)
lt_then Less u s l p q = refl
lt_then Equal u s l p q = rw p q
lt_then Greater u s l p q = rw p refl

nat_lt_is : (a b : ℕ) → nat_lt a b ≡ is_lt (nat_cmp a b)
nat_lt_is a b = grind (arith, nat_tests)

pub before_is : (a b : PeerRow) → comes_before a b ≡ is_lt (row_order a b)
before_is a b = lt_then (slice_cmp nat_cmp a.id.0 b.id.0) (nat_cmp a.gate.0 b.gate.0) (same_id a.id b.id) (nat_lt a.gate.0 b.gate.0)
    (texts_ties a.id.0 b.id.0) (nat_lt_is a.gate.0 b.gate.0)

pub find_has : {A : Type 0} (p : A → Bool) (xs : List A) (x : A) → find p xs ≡ Some x → Has xs x × (p x ≡ true)
find_has p [] x e = absurd (cc)
find_has {A} p (a ∷ xs) x e =
    elim (cases_Bool (p a)) as (λ _. Has (a ∷ xs) x × (p x ≡ true)) [
      | inl t ↦
          let same : Some a ≡ Some x = rw t at e in
          let is : a ≡ x = cc in
          (inl is, sym (ap p is) ∙ t)
      | inr f ↦ let rest : find p xs ≡ Some x = rw f at e in let m = find_has p xs x rest in (inr m.0, m.1)
    ]

find_first : (p : PeerRow → Bool) (rows : List PeerRow) (a b : PeerRow) → Rise row_order rows → find p rows ≡ Some a → Has rows b → p b ≡ true
    → (b ≡ a) ⊎ (row_order a b ≡ Less)
find_first p [] a b up e h t = absurd h
find_first p (row ∷ rows) a b up e h t =
    elim (cases_Bool (p row)) as (λ _. (b ≡ a) ⊎ (row_order a b ≡ Less)) [
      | inl passes ↦
          let same : Some row ≡ Some a = rw passes at e in
          let is : row ≡ a = cc in
          elim h as (λ _. (b ≡ a) ⊎ (row_order a b ≡ Less)) [
            | inl q ↦ inl (sym q ∙ is)
            | inr k ↦ inr (subst (λ (z : PeerRow). row_order z b ≡ Less) is (has_from_all (λ y. row_order row y ≡ Less) rows b up.0 k))
          ]
      | inr fails ↦
          let rest : find p rows ≡ Some a = rw fails at e in
          elim h as (λ _. (b ≡ a) ⊎ (row_order a b ≡ Less))
          [ inl q ↦ absurd (false≢true (sym fails ∙ ap p q ∙ t)) | inr k ↦ find_first p rows a b up.1 rest k t ]
    ]

find_none : {A : Type 0} (p : A → Bool) (xs : List A) (x : A) → find p xs ≡ None → Has xs x → p x ≡ true → ⊥
find_none p [] x e h t = h
find_none p (a ∷ xs) x e h t =
    elim (cases_Bool (p a)) as (λ _. ⊥) [
      | inl passes ↦ let same : Some a ≡ None = rw passes at e in cc
      | inr fails ↦
          let rest : find p xs ≡ None = rw fails at e in
          elim h as (λ _. ⊥) [ inl q ↦ false≢true (sym fails ∙ ap p q ∙ t) | inr k ↦ find_none p xs x rest k t ]
    ]

not_before : (a b : PeerRow) → row_order a b ≡ Less → comes_before b a ≡ false
not_before a b e = before_is b a ∙ ap is_lt (turned_back row_total a b e)

either_same : {A : Type 0} (y x a : A) → y ≡ a → x ≡ a → (b : Bool) → cond b y x ≡ a
either_same y x a p q true = p
either_same y x a p q false = q

first_step : (a x : PeerRow) (o : Option PeerRow) → (x ≡ a) ⊎ (row_order a x ≡ Less) → (x ≡ a) ⊎ (o ≡ Some a)
    → ((y : PeerRow) → o ≡ Some y → (y ≡ a) ⊎ (row_order a y ≡ Less))
    → option_map_or (λ other. if comes_before other x then other else x) o x ≡ a
first_step a x None le which above = elim which as (λ _. x ≡ a) [ inl e ↦ e | inr e ↦ absurd (cc) ]
first_step a x (Some y) le which above =
    elim which as (λ _. cond (comes_before y x) y x ≡ a) [
      | inl e ↦ elim (above y refl) as (λ _. cond (comes_before y x) y x ≡ a) [
        | inl s ↦ either_same y x a s e (comes_before y x)
        | inr less ↦ rw (subst (λ (z : PeerRow). comes_before y z ≡ false) (sym e) (not_before a y less)) e
      ]
      | inr o ↦
          let is : y ≡ a = cc in
          elim le as (λ _. cond (comes_before y x) y x ≡ a) [
            | inl s ↦ either_same y x a is s (comes_before y x)
            | inr less ↦ rw (subst (λ (z : PeerRow). comes_before z x ≡ true) (sym is) (before_is a x ∙ ap is_lt less)) is
          ]
    ]

first_has_step : (rows : List PeerRow) (row a : PeerRow) (o : Option PeerRow) → ((y : PeerRow) → o ≡ Some y → Has rows y)
    → option_map_or (λ other. if comes_before other row then other else row) o row ≡ a → Has (row ∷ rows) a
first_has_step rows row a None has e = inl e
first_has_step rows row a (Some y) has e =
    elim (cases_cond (comes_before y row) y row a (sym e)) as (λ _. Has (row ∷ rows) a)
    [ inl s ↦ inr (subst (λ (z : PeerRow). Has rows z) (sym s) (has y refl)) | inr s ↦ inl (sym s) ]

pub first_has : (rows : List PeerRow) (a : PeerRow) → first_of rows ≡ Some a → Has rows a
first_has [] a e = absurd (cc)
first_has (row ∷ rows) a e = first_has_step rows row a (first_of rows) (first_has rows) (cc)

first_is : (rows : List PeerRow) (a : PeerRow) → Has rows a → ((b : PeerRow) → Has rows b → (b ≡ a) ⊎ (row_order a b ≡ Less)) → first_of rows ≡ Some a
first_is [] a h all = absurd h
first_is (row ∷ rows) a h all =
    ap (λ (z : PeerRow). Some z)
    (first_step a row (first_of rows) (all row (inl refl))
    (elim h as (λ _. (row ≡ a) ⊎ (first_of rows ≡ Some a)) [ inl e ↦ inl e | inr k ↦ inr (first_is rows a k (λ b m. all b (inr m))) ])
    (λ y e. all y (inr (first_has rows y e))))

found_as : (p : PeerRow → Bool) (rows some : List PeerRow) → Rise row_order rows
    → ((row : PeerRow) → Has some row → Has rows row × (p row ≡ true)) → ((row : PeerRow) → Has rows row → p row ≡ true → Has some row)
    → (o : Option PeerRow) → find p rows ≡ o → first_of some ≡ o
found_as p rows some up there back None e =
    ap first_of (no_members some (λ row h. let m = there row h in find_none p rows row e m.0 m.1))
found_as p rows some up there back (Some a) e =
    let f = find_has p rows a e in
    first_is some a (back a f.0 f.1) (λ b h. let m = there b h in find_first p rows a b up e m.0 m.1)

-- the first of some rows that are just those of the table which pass a test
pub first_found : (p : PeerRow → Bool) (rows some : List PeerRow) → Rise row_order rows
    → ((row : PeerRow) → Has some row → Has rows row × (p row ≡ true)) → ((row : PeerRow) → Has rows row → p row ≡ true → Has some row)
    → first_of some ≡ find p rows
first_found p rows some up there back = found_as p rows some up there back (find p rows) refl

first_answers : (session : NodeId) (table : Table) (life : List Happening) → Rise row_order table.rows → StandsFor table life
    → first_of (answering_in session life) ≡ find (is_answering session) table.rows
first_answers session table life up stands =
    first_found (is_answering session) table.rows (answering_in session life) up
    (λ row h. let m = filter_has (is_answering session) (rows_of life) row h in (stands.all row m.0, m.1))
    (λ row h t. has_filter (is_answering session) (rows_of life) row (stands.kept row h) t)

first_founds : (session : NodeId) (table : Table) (life : List Happening) → Rise row_order table.rows → StandsFor table life
    → first_of (founder_in session life) ≡ find (is_founding session) table.rows
first_founds session table life up stands =
    let founds : PeerRow → Bool = λ row. same_id row.id session in
    first_found (is_founding session) table.rows (founder_in session life) up
    (λ row h.
    let f = filter_has founds (answering_in session life) row h in
    let m = filter_has (is_answering session) (rows_of life) row f.0 in
    (stands.all row m.0, and_from (is_answering session row) (founds row) m.1 f.1))
    (λ row h t.
    let parts = and_parts (is_answering session row) (founds row) t in
    has_filter founds (answering_in session life) row
    (has_filter (is_answering session) (rows_of life) row (stands.kept row h) parts.0) parts.1)

pub target_found : (session : NodeId) (table : Table) (life : List Happening) (row : PeerRow) → Rise row_order table.rows → StandsFor table life
    → find (is_founding session) table.rows ≡ Some row → target_at row ≡ target_of session life
unfolding target_of
target_found session table life row up stands e =
    let founder : first_of (founder_in session life) ≡ Some row = first_founds session table life up stands ∙ e in
    rw founder refl

pub target_other : (session : NodeId) (table : Table) (life : List Happening) (row : PeerRow) → Rise row_order table.rows → StandsFor table life
    → find (is_founding session) table.rows ≡ None → find (is_answering session) table.rows ≡ Some row → target_at row ≡ target_of session life
unfolding target_of
target_other session table life row up stands none e =
    let founder : first_of (founder_in session life) ≡ None = first_founds session table life up stands ∙ none in
    let other : first_of (answering_in session life) ≡ Some row = first_answers session table life up stands ∙ e in
    rw (founder, other) refl

pub target_none : (session : NodeId) (table : Table) (life : List Happening) → Rise row_order table.rows → StandsFor table life
    → find (is_founding session) table.rows ≡ None → find (is_answering session) table.rows ≡ None → None ≡ target_of session life
unfolding target_of
target_none session table life up stands none e =
    let founder : first_of (founder_in session life) ≡ None = first_founds session table life up stands ∙ none in
    let other : first_of (answering_in session life) ≡ None = first_answers session table life up stands ∙ e in
    rw (founder, other) refl
