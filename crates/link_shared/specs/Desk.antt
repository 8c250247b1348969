-- Only for proofs: what the applications' reader keeps between two reads.
use Rattle.std.specs.Prelude.{◌≡◌, ℕ, ◌≤◌, List}
use mathlib.Core.Option.{some}
use lib.ListN.{get_elem?}
use Rattle.audio_handoff.specs.Cell.{Pair, ReaderView, NumbersNeverFall}

-- no pair read is newer than the one read last
abbrev pub NoneIsNewer : ℕ → List Pair → Type 0
NoneIsNewer number seen = (k : ℕ) (pair : Pair) → get_elem? seen k ≡ some pair → pair.0 ≤ number

-- no number falls, and the reader's number is the greatest
abbrev pub RestsAsReader : ReaderView → Type 0
RestsAsReader reader = NumbersNeverFall reader.seen × NoneIsNewer reader.number reader.seen
