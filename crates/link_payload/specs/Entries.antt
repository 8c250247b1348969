-- How a number and an entry of a payload are spelled, and which entries bytes spell.
use Rattle.std.specs.Prelude.{◌≡◌, ◌≢◌, ◌<◌, ◌^◌, ℕ, ℤ, List, [], ◌++◌, length, slice_index, Option, Some, None}
use Rattle.std.specs.Int.{w64, cast_unsigned}
use Rattle.std.specs.List.{AllByRecursion, flat_map}
use Rattle.byteorder.specs.Endian.{big_bytes}

-- eight bytes, the highest first, in two's complement
unfoldable pub spelled_number_of : ℤ → List ℕ
spelled_number_of z = big_bytes 8 (cast_unsigned w64 z)

-- the key in four bytes, the size of the value in four bytes, the value
unfoldable pub spelled_entry_of : ℕ → List ℕ → List ℕ
spelled_entry_of key value = big_bytes 4 key ++ big_bytes 4 (length value) ++ value

-- an entry without where it lies in memory
pub record EntryValue : Type 0 where
  pub key : ℕ
  pub value : List ℕ

-- the key and the size have four bytes each
abbrev pub IsEntry : EntryValue → Type 0
IsEntry e = (e.key < 2 ^ 32) × (length e.value < 2 ^ 32)

-- one entry after the other
unfoldable pub spelled_entries_of : List EntryValue → List ℕ
spelled_entries_of es = flat_map (λ e. spelled_entry_of e.key e.value) es

-- Rule: A payload is entries back to back, each a key of four bytes, the size of its value in four bytes, and the value.
-- the bytes are these entries
pub record Spells (bytes : List ℕ) (es : List EntryValue) : Type 0 where
  pub each : AllByRecursion IsEntry es
  pub spelled : bytes ≡ spelled_entries_of es

-- Rule: A payload is cut where the header or the value of an entry passes its end.
-- The first n bytes are these entries. More bytes follow, and no entry begins with them.
pub record IsCutAt (bytes : List ℕ) (n : ℕ) (es : List EntryValue) : Type 0 where
  pub each : AllByRecursion IsEntry es
  pub rest : List ℕ
  pub split : bytes ≡ spelled_entries_of es ++ rest
  pub place : n ≡ length (spelled_entries_of es)
  pub some : rest ≢ []
  pub no_entry : (e : EntryValue) (more : List ℕ) → IsEntry e → rest ≡ spelled_entry_of e.key e.value ++ more → ⊥

-- the bytes are these entries, and then perhaps a cut at this place
abbrev pub AreEntriesIn : List ℕ → List EntryValue → Option ℕ → Type 0
AreEntriesIn bytes es None = Spells bytes es
AreEntriesIn bytes es (Some n) = IsCutAt bytes n es

-- each is below 256
abbrev pub AreBytes : List ℕ → Type 0
AreBytes bytes = (i : ℕ) → slice_index bytes i < 256
