-- Only for proofs: the orders of the lists that a table keeps, and what their calls leave of them.
use Rattle.std.specs.Prelude.{◌≡◌, ◌⊎◌, ◌<◌, ◌≤◌, ℕ, false, List, [], ◌∷◌, length, filter, take, drop, slice_index_or}
use Rattle.std.specs.List.{AllByRecursion}
use Rattle.std.specs.Cmp.Lexicographic.{slice_cmp}
use Rattle.std.specs.Ordering.{nat_cmp, int_cmp, ordering_then}
use Rattle.std.specs.declared.cmp.Ordering.{Ordering}
use Rattle.std.specs.declared.cmp.Ordering.TheVariants.{Less, Equal, Greater}
use Rattle.lk_base.specs.declared.endpoint.Gate.{Gate}
use Rattle.lk_base.specs.declared.ids.NodeId.{NodeId}
use Rattle.peer_gateway.specs.Answers.{is_on}
use Rattle.peer_gateway.specs.Expiry.{expiry_of}
use Rattle.peer_gateway.specs.Happenings.{Has, is_row_of}
use Rattle.peer_gateway.specs.declared.expiry.Expiry.{Expiry}
use Rattle.peer_gateway.specs.declared.row.PeerRow.{PeerRow}

-- how a row stands to a gate and an id: by id, and of one id by gate
abbrev pub order_at : Gate → NodeId → PeerRow → Ordering
order_at gate id row = ordering_then (slice_cmp nat_cmp row.id.0 id.0) (nat_cmp row.gate.0 gate.0)

abbrev pub row_order : PeerRow → PeerRow → Ordering
row_order a b = order_at b.gate b.id a

-- by limit, of one limit by gate, and of one gate by id
abbrev pub entry_order : Expiry → Expiry → Ordering
entry_order a b =
    ordering_then (int_cmp a.limit b.limit)
    (ordering_then (nat_cmp a.gate.0 b.gate.0) (slice_cmp nat_cmp a.id.0 b.id.0))

-- each comes before all that follow
abbrev pub Rise : {X : Type 0} → (X → X → Ordering) → List X → Type 0
Rise order [] = Unit {0}
Rise order (x ∷ xs) = AllByRecursion (λ y. order x y ≡ Less) xs × Rise order xs

-- at this place stands what is looked for
pub record IsAt {X : Type 0} (stands : X → Ordering) (xs : List X) (i : ℕ) : Type 0 where
  pub within : i < length xs
  pub equal : (d : X) → stands (slice_index_or xs i d) ≡ Equal

-- what is looked for isn't there, and belongs at this place
pub record BelongsAt {X : Type 0} (stands : X → Ordering) (xs : List X) (i : ℕ) : Type 0 where
  pub within : i ≤ length xs
  pub before : (x : X) → Has (take i xs) x → stands x ≡ Less
  pub after : (x : X) → Has (drop i xs) x → stands x ≡ Greater

-- what is kept of the rows on so many gates, and of when they end
pub record IsTable (gates : ℕ) (rows : List PeerRow) (by_limit : List Expiry) : Type 0 where
  pub in_order : Rise row_order rows
  pub on_gates : (row : PeerRow) → Has rows row → row.gate.0 < gates
  pub few_on : (gate : Gate) → length (filter (is_on gate) rows) ≤ 128
  pub limits_in_order : Rise entry_order by_limit
  pub there : (row : PeerRow) → Has rows row → Has by_limit (expiry_of row)
  pub back : (e : Expiry) → Has by_limit e → (row : PeerRow) × Has rows row × (expiry_of row ≡ e)

-- xs with one more
pub record IsWith {X : Type 0} (x : X) (old new : List X) : Type 0 where
  pub here : Has new x
  pub stay : (y : X) → Has old y → Has new y
  pub from : (y : X) → Has new y → (y ≡ x) ⊎ Has old y

-- xs without one
pub record IsWithout {X : Type 0} (x : X) (old new : List X) : Type 0 where
  pub stay : (y : X) → Has old y → (y ≡ x → ⊥) → Has new y
  pub from : (y : X) → Has new y → Has old y × (y ≡ x → ⊥)

-- the rows without that of a gate and an id
pub record IsEnded (gate : Gate) (id : NodeId) (old new : List PeerRow) : Type 0 where
  pub stay : (row : PeerRow) → Has old row → is_row_of gate id row ≡ false → Has new row
  pub from : (row : PeerRow) → Has new row → Has old row × (is_row_of gate id row ≡ false)

-- the rows with this one, which takes the place of that of its gate and id
pub record IsWritten (row : PeerRow) (old new : List PeerRow) : Type 0 where
  pub here : Has new row
  pub stay : (other : PeerRow) → Has old other → is_row_of row.gate row.id other ≡ false → Has new other
  pub from : (other : PeerRow) → Has new other
      → (other ≡ row) ⊎ (Has old other × (is_row_of row.gate row.id other ≡ false))
