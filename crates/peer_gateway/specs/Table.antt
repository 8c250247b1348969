-- What is kept of the peers: how many gates there are, and the rows.
use Rattle.std.specs.Prelude.{ℕ, List}
use Rattle.peer_gateway.specs.declared.row.PeerRow.{PeerRow}

pub record Table : Type 0 where
  pub gates : ℕ
  pub rows : List PeerRow
