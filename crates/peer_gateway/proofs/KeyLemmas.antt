-- The orders of the two lists: total, and what ranks the same has the same gate and id.
use Rattle.std.proofs.Common.{◌≡◌, ◌<◌, ◌<ℤ◌, ℕ, ℤ, pos, true, false, ◌==◌, List, None, refl, ap, ◌∙◌, subst}
use Rattle.std.specs.Cmp.{IsTotalOrder, int_ranks}
use Rattle.std.specs.Cmp.Lexicographic.{slice_cmp, bytes_decides, texts_ties, nat_list_cmp_total}
use Rattle.std.specs.Ordering.{is_eq, nat_cmp, int_cmp, ordering_then, MatchOrdering}
use Rattle.std.specs.declared.cmp.Ordering.{Ordering}
use Rattle.std.specs.declared.cmp.Ordering.TheVariants.{Less, Equal, Greater}
use Rattle.std.proofs.lemmas.Bool.{and_parts, and_from, eqb-true, eq-eqb, false_from_ne_true}
use Rattle.std.proofs.lemmas.Cmp.{then_total, on_total, nat_cmp_total, int_cmp_total, ranked, tied_itself}
use Rattle.lk_base.specs.IdOrder.{same_id}
use Rattle.lk_base.specs.declared.endpoint.Gate.{Gate}
use Rattle.lk_base.specs.declared.ids.NodeId.{NodeId}
use Rattle.peer_gateway.specs.Happenings.{is_row_of}
use Rattle.peer_gateway.specs.Expiry.{expiry_of}
use Rattle.peer_gateway.specs.Order.{order_at, row_order, entry_order}
use Rattle.peer_gateway.specs.declared.expiry.Expiry.{Expiry}
use Rattle.peer_gateway.specs.declared.row.PeerRow.{PeerRow}

pub row_total : IsTotalOrder row_order
row_total = then_total (on_total (λ (row : PeerRow). row.id.0) nat_list_cmp_total) (on_total (λ (row : PeerRow). row.gate.0) nat_cmp_total)

pub entry_total : IsTotalOrder entry_order
entry_total =
    then_total (on_total (λ (e : Expiry). e.limit) int_cmp_total)
    (then_total (on_total (λ (e : Expiry). e.gate.0) nat_cmp_total) (on_total (λ (e : Expiry). e.id.0) nat_list_cmp_total))

-- a row of this gate and id
abbrev pub row_at : Gate → NodeId → PeerRow
row_at gate id = record { gate = gate; id = id; session = id; endpoint = None; limit = pos 0 }

both_equal : (a b : Ordering) → ordering_then a b ≡ Equal → (a ≡ Equal) × (b ≡ Equal)
both_equal Less b e = absurd (cc)
both_equal Equal b e = (refl, e)
both_equal Greater b e = absurd (cc)

number_equal : (x y : ℕ) → nat_cmp x y ≡ Equal → x ≡ y
number_equal x y e = let r : MatchOrdering (nat_cmp x y) (x < y) (x ≡ y) (y < x) = ranked x y (nat_cmp x y) refl in rw e at r

list_equal : (xs ys : List ℕ) → slice_cmp nat_cmp xs ys ≡ Equal → xs ≡ ys
list_equal xs ys e = (bytes_decides xs ys).0 (texts_ties xs ys ∙ ap is_eq e)

int_equal : (x y : ℤ) → int_cmp x y ≡ Equal → x ≡ y
int_equal x y e = let r : MatchOrdering (int_cmp x y) (x <ℤ y) (x ≡ y) (y <ℤ x) = int_ranks x y in rw e at r

pub same_gate : (a b : Gate) → a.0 ≡ b.0 → a ≡ b
same_gate a b e = let mk : ℕ → Gate = λ n. record { 0 = n } in ap mk e

pub same_node : (a b : NodeId) → a.0 ≡ b.0 → a ≡ b
same_node a b e = let mk : List ℕ → NodeId = λ xs. record { 0 = xs } in ap mk e

pub id_from_test : (a b : NodeId) → same_id a b ≡ true → a ≡ b
id_from_test a b e = same_node a b ((bytes_decides a.0 b.0).0 e)

pub test_from_id : (a b : NodeId) → a ≡ b → same_id a b ≡ true
test_from_id a b e = (bytes_decides a.0 b.0).1 (ap (λ (n : NodeId). n.0) e)

pub key_from_order : (gate : Gate) (id : NodeId) (row : PeerRow) → order_at gate id row ≡ Equal → (row.gate ≡ gate) × (row.id ≡ id)
key_from_order gate id row e =
    let parts = both_equal (slice_cmp nat_cmp row.id.0 id.0) (nat_cmp row.gate.0 gate.0) e in
    (same_gate row.gate gate (number_equal row.gate.0 gate.0 parts.1), same_node row.id id (list_equal row.id.0 id.0 parts.0))

pub key_from_test : (gate : Gate) (id : NodeId) (row : PeerRow) → is_row_of gate id row ≡ true → (row.gate ≡ gate) × (row.id ≡ id)
key_from_test gate id row e =
    let parts = and_parts (row.gate.0 == gate.0) (same_id row.id id) e in
    (same_gate row.gate gate (eqb-true row.gate.0 gate.0 parts.0), id_from_test row.id id parts.1)

pub test_from_key : (gate : Gate) (id : NodeId) (row : PeerRow) → row.gate ≡ gate → row.id ≡ id → is_row_of gate id row ≡ true
test_from_key gate id row g i =
    and_from (row.gate.0 == gate.0) (same_id row.id id) (eq-eqb row.gate.0 gate.0 (ap (λ (x : Gate). x.0) g)) (test_from_id row.id id i)

pub order_from_key : (gate : Gate) (id : NodeId) (row : PeerRow) → row.gate ≡ gate → row.id ≡ id → order_at gate id row ≡ Equal
order_from_key gate id row g i =
    let same : order_at row.gate row.id row ≡ Equal = tied_itself row_total row in
    subst (λ (n : NodeId). order_at gate n row ≡ Equal) i (subst (λ (x : Gate). order_at x row.id row ≡ Equal) g same)

-- a row that ranks otherwise isn't of the gate and the id
pub other_from_order : (gate : Gate) (id : NodeId) (row : PeerRow) → (order_at gate id row ≡ Equal → ⊥) → is_row_of gate id row ≡ false
other_from_order gate id row apart =
    false_from_ne_true (is_row_of gate id row)
    (λ t. let key = key_from_test gate id row t in apart (order_from_key gate id row key.0 key.1))

pub entry_equal : (a b : Expiry) → entry_order a b ≡ Equal → a ≡ b
entry_equal a b e =
    let first = both_equal (int_cmp a.limit b.limit) (ordering_then (nat_cmp a.gate.0 b.gate.0) (slice_cmp nat_cmp a.id.0 b.id.0)) e in
    let then = both_equal (nat_cmp a.gate.0 b.gate.0) (slice_cmp nat_cmp a.id.0 b.id.0) first.1 in
    let limits : a.limit ≡ b.limit = int_equal a.limit b.limit first.0 in
    let gates : a.gate ≡ b.gate = same_gate a.gate b.gate (number_equal a.gate.0 b.gate.0 then.0) in
    let ids : a.id ≡ b.id = same_node a.id b.id (list_equal a.id.0 b.id.0 then.1) in
    let mk : ℤ → Gate → NodeId → Expiry = λ l g i. record { limit = l; gate = g; id = i } in
    ap (λ (l : ℤ). mk l a.gate a.id) limits ∙ ap (λ (g : Gate). mk b.limit g a.id) gates ∙ ap (λ (i : NodeId). mk b.limit b.gate i) ids

-- rows that end alike have the same gate and id
pub key_from_expiry : (a b : PeerRow) → expiry_of a ≡ expiry_of b → is_row_of b.gate b.id a ≡ true
key_from_expiry a b e = test_from_key b.gate b.id a (ap (λ (x : Expiry). x.gate) e) (ap (λ (x : Expiry). x.id) e)
