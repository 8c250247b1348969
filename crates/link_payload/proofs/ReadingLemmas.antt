-- What the parts of a payload that were read say of the whole.
use Rattle.std.proofs.Common.{◌≡◌, ℕ, ◌+◌, List, ◌++◌, length, append_assoc, length-append, arith}
use Rattle.byteorder.specs.Endian.{big_bytes}
use Rattle.link_payload.specs.Entries.{spelled_entry_of}

-- an entry, its parts one after the other
pub entry_parted : (key : ℕ) (value rest : List ℕ) → spelled_entry_of key value ++ rest ≡ big_bytes 4 key ++ (big_bytes 4 (length value) ++ (value ++ rest))
unfolding spelled_entry_of
entry_parted key value rest = simp append_assoc

-- eight bytes at least stand before the value
pub length-entry_rest : (key : ℕ) (value rest : List ℕ) → length (spelled_entry_of key value ++ rest) ≡ 8 + length value + length rest
unfolding spelled_entry_of
length-entry_rest key value rest = simp (length-append) (omega arith)
