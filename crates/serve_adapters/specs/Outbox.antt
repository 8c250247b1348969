-- Bytes on their way to a client.
use Rattle.std.specs.Prelude.{◌≡◌, ◌≤◌, ℕ, List, drop, take, length, Option}
use Rattle.std.specs.Io.KnownBytes.{Appends}
use Rattle.serve_adapters.specs.declared.outbox.Outbox.{Outbox}

-- the bytes that wait, in order
abbrev pub waiting_of : Outbox → List ℕ
waiting_of outbox = drop outbox.taken outbox.bytes.items

-- Rule: What a client's stream took, and then what waits, is what was said, in order.
-- the writer grew by some of the bytes at the front of those that waited, and the others still wait
pub record IsFlushed (before after : Option (List ℕ)) (waited waits : List ℕ) : Type 0 where
  pub count : ℕ
  pub few : count ≤ length waited
  pub written : Appends before after (take count waited)
  pub rest : waits ≡ drop count waited
