-- What happens to peers, and which rows that leaves: each sighting that nothing later ends.
use Rattle.std.specs.Prelude.{◌≡◌, ◌⊎◌, ◌+◌, ◌*◌, ℕ, ℤ, pos, ◌+ℤ◌, ◌≤ℤ◌, int_lt, Bool, not, ◌&&◌, ◌==◌, if◌then◌else◌, List, [], ◌∷◌, ◌++◌, drop, All, Option, Some, slice_get}
use Rattle.std.specs.List.{list_all}
use Rattle.lk_base.specs.IdOrder.{same_id}
use Rattle.lk_base.specs.declared.endpoint.Endpoint.{Endpoint}
use Rattle.lk_base.specs.declared.endpoint.Gate.{Gate}
use Rattle.lk_base.specs.declared.ids.NodeId.{NodeId}
use Rattle.peer_gateway.specs.Table.{Table}
use Rattle.peer_gateway.specs.declared.row.PeerRow.{PeerRow}
use Rattle.peer_gateway.specs.declared.row.Seen.{Seen}
use Rattle.peer_gateway.specs.declared.row.Seen.TheVariants.{New, Known, TableFull}

-- a peer is seen on a gate, says goodbye there, or all rows are pruned at a moment
pub data Happening : Type 0 where
  sighting : (row : PeerRow) → Happening
  goodbye : (gate : Gate) → (id : NodeId) → Happening
  pruning : (moment : ℤ) → Happening

-- the happening ends the row: the peer is seen anew or says goodbye on that gate, or rows are pruned at or after its limit
abbrev pub Ends : Happening → PeerRow → Type 0
Ends (sighting next) row = (next.gate ≡ row.gate) × (next.id ≡ row.id)
Ends (goodbye gate id) row = (gate ≡ row.gate) × (id ≡ row.id)
Ends (pruning moment) row = row.limit ≤ℤ moment

-- the row is a sighting that nothing later ends
abbrev pub IsRowAfter : List Happening → PeerRow → Type 0
IsRowAfter life row =
    (k : ℕ) × (slice_get life k ≡ Some (sighting row)) × All (λ later. Ends later row → ⊥) (drop (k + 1) life)

-- ---- the same as a list

abbrev pub is_row_of : Gate → NodeId → PeerRow → Bool
is_row_of gate id row = (row.gate.0 == gate.0) && same_id row.id id

-- the limit is after the moment
abbrev pub lives : ℤ → PeerRow → Bool
lives moment row = int_lt moment row.limit

-- what happens doesn't end the row
abbrev pub outlives : PeerRow → Happening → Bool
outlives row (sighting next) = not (is_row_of next.gate next.id row)
outlives row (goodbye gate id) = not (is_row_of gate id row)
outlives row (pruning moment) = lives moment row

-- Rule: A peer has at most one row a gate: its last sighting there that found room, unless a later goodbye on that gate or a pruning at or
-- after the row's limit has ended it.
-- in order of their sightings
unfoldable pub rows_of : List Happening → List PeerRow
rows_of [] = []
rows_of (sighting row ∷ later) = if list_all (outlives row) later then row ∷ rows_of later else rows_of later
rows_of (goodbye gate id ∷ later) = rows_of later
rows_of (pruning moment ∷ later) = rows_of later

-- the row is one of these
abbrev pub Has : {A : Type 0} → List A → A → Type 0
Has [] row = ⊥
Has (x ∷ xs) row = (x ≡ row) ⊎ Has xs row

-- ---- what the calls make happen

-- Rule: The limit of a peer's row is a second after its time to live: (ttl + 1) * 1,000,000 microseconds after it was heard, usually 6
-- seconds.
abbrev pub row_seen : Gate → NodeId → ℕ → NodeId → Option Endpoint → ℤ → PeerRow
row_seen gate id ttl session endpoint now =
    record { gate = gate; id = id; session = session; endpoint = endpoint; limit = now +ℤ pos ((ttl + 1) * 1_000_000) }

-- Rule: A sighting ends the peer's row on that gate, if there is one, and its own row stands there from then on; one that is answered full
-- changes nothing.
-- a sighting for which there is no room didn't happen
abbrev pub life_after : Seen → PeerRow → List Happening → List Happening
life_after TableFull row life = life
life_after New row life = life ++ sighting row ∷ []
life_after Known row life = life ++ sighting row ∷ []

-- Rule: A goodbye ends the peer's row on that gate alone.
abbrev pub said_goodbye : Gate → NodeId → List Happening → List Happening
said_goodbye gate id life = life ++ goodbye gate id ∷ []

-- Rule: Pruning ends each peer's row whose limit is at or before the moment.
abbrev pub was_pruned : ℤ → List Happening → List Happening
was_pruned moment life = life ++ pruning moment ∷ []

-- ---- what is kept of a life

-- the rows kept are those of the life
pub record StandsFor (table : Table) (life : List Happening) : Type 0 where
  pub kept : (row : PeerRow) → Has table.rows row → Has (rows_of life) row
  pub all : (row : PeerRow) → Has (rows_of life) row → Has table.rows row
