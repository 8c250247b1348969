-- Only for proofs: how rows are picked and counted in one pass over them in their order.
use Rattle.std.specs.Prelude.{◌≡◌, ℕ, suc, Bool, false, not, ◌&&◌, if◌then◌else◌, List, [], ◌∷◌, ◌++◌, take, drop, slice_index_or, is_some, Option, Some, None}
use Rattle.lk_base.specs.IdOrder.{same_id}
use Rattle.lk_base.specs.declared.ids.NodeId.{NodeId}
use Rattle.peer_gateway.specs.Answers.{is_in}
use Rattle.peer_gateway.specs.Happenings.{Has}
use Rattle.peer_gateway.specs.declared.row.PeerRow.{PeerRow}

-- it is in the session and tells where it answers
abbrev pub is_answering : NodeId → PeerRow → Bool
is_answering session row = is_in session row && is_some row.endpoint

-- and it is the founder's
abbrev pub is_founding : NodeId → PeerRow → Bool
is_founding session row = is_answering session row && same_id row.id session

abbrev pub is_last : Option NodeId → NodeId → Bool
is_last None id = false
is_last (Some last) id = same_id last id

-- it is in the session, and its id isn't the one that was counted last
abbrev pub is_counted : NodeId → Option NodeId → PeerRow → Bool
is_counted session last row = is_in session row && not (is_last last row.id)

-- the ids that a pass counts after this one
abbrev pub ids_counted : NodeId → Option NodeId → List PeerRow → List NodeId
ids_counted session last [] = []
ids_counted session last (row ∷ rows) =
    if is_counted session last row then row.id ∷ ids_counted session (Some row.id) rows else ids_counted session last rows

-- the rows but for that at this place
abbrev pub others_of : ℕ → List PeerRow → List PeerRow
others_of i rows = take i rows ++ drop (suc i) rows

-- no other row has the id of the row at this place
abbrev pub IsAlone : ℕ → List PeerRow → Type 0
IsAlone i rows =
    (row other : PeerRow) → row ≡ slice_index_or rows i row → Has (others_of i rows) other → other.id ≡ row.id → ⊥
