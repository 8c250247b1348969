-- Only for proofs: the word for the bytes of a datagram.
use Rattle.std.specs.Prelude.{◌≤◌, ℕ, List, [], length}
use Rattle.std.specs.Result.{result_unwrap_or}
use Rattle.hex.specs.Hex.{decode_of}
use Rattle.link_payload.specs.Entries.{AreBytes}
use Rattle.link_script.specs.ReplayScript.{IsHexOf}

-- the bytes that hex digits say, and none for a hyphen
unfoldable pub hex_bytes : List ℕ → List ℕ
hex_bytes hex = result_unwrap_or (decode_of hex) []

abbrev pub IsHexWord : List ℕ → Type 0
IsHexWord hex = IsHexOf hex (hex_bytes hex) × AreBytes (hex_bytes hex) × (length (hex_bytes hex) ≤ 513)
