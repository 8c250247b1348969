-- When rows end, in order.
use Rattle.std.specs.Prelude.{◌≡◌, ◌⊎◌, ◌<◌, ◌<ℤ◌, List, [], ◌∷◌, IsTrue}
use Rattle.std.specs.List.{AllByRecursion}
use Rattle.lk_base.specs.IdOrder.{id_lt}
use Rattle.peer_gateway.specs.Happenings.{Has}
use Rattle.peer_gateway.specs.declared.expiry.Expiry.{Expiry}
use Rattle.peer_gateway.specs.declared.row.PeerRow.{PeerRow}

abbrev pub expiry_of : PeerRow → Expiry
expiry_of row = record { limit = row.limit; gate = row.gate; id = row.id }

-- by limit, of one limit by gate, and of one gate by id
abbrev pub IsEarlier : Expiry → Expiry → Type 0
IsEarlier a b =
    (a.limit <ℤ b.limit)
    ⊎ ((a.limit ≡ b.limit) × ((a.gate.0 < b.gate.0) ⊎ ((a.gate.0 ≡ b.gate.0) × IsTrue (id_lt a.id b.id))))

-- each is earlier than all that follow
abbrev pub IsInOrder : List Expiry → Type 0
IsInOrder [] = Unit {0}
IsInOrder (first ∷ rest) = AllByRecursion (IsEarlier first) rest × IsInOrder rest

-- the same members
pub record HaveSame (xs ys : List Expiry) : Type 0 where
  pub there : (e : Expiry) → Has xs e → Has ys e
  pub back : (e : Expiry) → Has ys e → Has xs e
