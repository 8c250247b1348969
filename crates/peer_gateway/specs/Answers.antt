-- What a life of peers answers, by its rows alone.
use Rattle.std.specs.Prelude.{ℕ, ℤ, ◌==◌, nat_le, nat_lt, Bool, not, ◌&&◌, ◌||◌, if◌then◌else◌, List, [], ◌∷◌, length, map, filter, is_some, Option, Some, None, option_map, option_and_then}
use Rattle.std.specs.Int.{int_min}
use Rattle.std.specs.List.{list_any}
use Rattle.std.specs.Option.{option_map_or}
use Rattle.std.specs.Set.{distinct_count}
use Rattle.lk_base.specs.IdOrder.{same_id, id_lt}
use Rattle.lk_base.specs.declared.endpoint.Gate.{Gate}
use Rattle.lk_base.specs.declared.endpoint.Target.{Target}
use Rattle.lk_base.specs.declared.ids.NodeId.{NodeId}
use Rattle.peer_gateway.specs.Happenings.{Happening, is_row_of, lives, rows_of}
use Rattle.peer_gateway.specs.declared.row.PeerRow.{PeerRow}
use Rattle.peer_gateway.specs.declared.row.Seen.{Seen}
use Rattle.peer_gateway.specs.declared.row.Seen.TheVariants.{New, Known, TableFull}

-- ---- sightings, goodbyes and prunings

abbrev pub had_row : Gate → NodeId → List Happening → Bool
had_row gate id life = list_any (is_row_of gate id) (rows_of life)

abbrev pub is_on : Gate → PeerRow → Bool
is_on gate row = row.gate.0 == gate.0

-- Rule: A gate is full at 128 rows of peers; a sighting on a full gate that has no row of the peer changes nothing.
abbrev pub is_full_on : Gate → List Happening → Bool
is_full_on gate life = nat_le 128 (length (filter (is_on gate) (rows_of life)))

-- Rule: A sighting is answered known where the peer has a row on that gate, else full where the gate is full, else new.
unfoldable pub seen_of : Gate → NodeId → List Happening → Seen
seen_of gate id life = if had_row gate id life then Known else if is_full_on gate life then TableFull else New

-- how many rows a pruning ends
unfoldable pub ended_by : ℤ → List Happening → ℕ
ended_by moment life = length (filter (λ row. not (lives moment row)) (rows_of life))

-- ---- limits

-- the least of some numbers
abbrev pub least_in : List ℤ → Option ℤ
least_in [] = None
least_in (x ∷ xs) = Some (option_map_or (int_min x) (least_in xs) x)

unfoldable pub least_limit_of : List Happening → Option ℤ
least_limit_of life = least_in (map (λ row. row.limit) (rows_of life))

-- ---- sessions

abbrev pub is_in : NodeId → PeerRow → Bool
is_in session row = same_id row.session session

-- Rule: The peers of a session are the ids with a row in it, each counted once on whatever gates it is.
unfoldable pub peers_in : NodeId → List Happening → ℕ
peers_in session life = distinct_count same_id (map (λ row. row.id) (filter (is_in session) (rows_of life)))

unfoldable pub has_peers : NodeId → List Happening → Bool
has_peers session life = list_any (is_in session) (rows_of life)

-- by id, and of one id by gate
abbrev pub comes_before : PeerRow → PeerRow → Bool
comes_before a b = id_lt a.id b.id || (same_id a.id b.id && nat_lt a.gate.0 b.gate.0)

-- the first of some rows in that order
abbrev pub first_of : List PeerRow → Option PeerRow
first_of [] = None
first_of (row ∷ rows) = Some (option_map_or (λ other. if comes_before other row then other else row) (first_of rows) row)

-- the rows of a session that tell where they answer
abbrev pub answering_in : NodeId → List Happening → List PeerRow
answering_in session life = filter (λ row. is_in session row && is_some row.endpoint) (rows_of life)

-- those of its founder, whose id is the session's
abbrev pub founder_in : NodeId → List Happening → List PeerRow
founder_in session life = filter (λ row. same_id row.id session) (answering_in session life)

abbrev pub target_at : PeerRow → Option Target
target_at row = option_map (λ endpoint. record { gate = row.gate; id = row.id; endpoint = endpoint }) row.endpoint

-- Rule: A session is measured at a peer in it that tells an endpoint: its founder, whose id is the session's, else the peer of least id;
-- and of the gates where that peer tells one, at the first.
unfoldable pub target_of : NodeId → List Happening → Option Target
target_of session life =
    option_and_then target_at
    (if is_some (first_of (founder_in session life)) then first_of (founder_in session life)
    else first_of (answering_in session life))
