-- What a decode writes: for each line of the text, in order, the line that says how its bytes are read.
use Rattle.std.specs.Prelude.{◌≡◌, ℕ, List, [], ◌∷◌, Result, Ok}
use Rattle.std.specs.List.{concat}
use Rattle.hex.specs.Hex.{decode_of}
use Rattle.asdp_messages.specs.declared.fault.WireFault.{WireFault}
use Rattle.asdp_messages.specs.Datagram.{MessageValue, IsReadAs}
use Rattle.link_text.specs.ReadingLine.{reading_line_of}
use Rattle.link_lines.specs.Lines.{lines_of}

-- the line's digits, of either case, say the bytes of a datagram, and `reading_line` says how that is read
pub record IsDecodedLine (line reading_line : List ℕ) : Type 0 where
  pub bytes : List ℕ
  pub spelled : decode_of line ≡ Ok bytes
  pub reading : Result MessageValue WireFault
  pub read : IsReadAs bytes reading
  pub said : reading_line ≡ reading_line_of reading

-- each line with the one that says how it is read
abbrev pub AreDecodedLines : List (List ℕ) → List (List ℕ) → Type 0
AreDecodedLines [] [] = Unit {0}
AreDecodedLines (line ∷ lines) (reading_line ∷ rest) = IsDecodedLine line reading_line × AreDecodedLines lines rest
AreDecodedLines [] (reading_line ∷ rest) = ⊥
AreDecodedLines (line ∷ lines) [] = ⊥

-- Rule: `decode` writes for each line of its input, in order, how its bytes are read.
pub record IsDecodeText (text output : List ℕ) : Type 0 where
  pub reading_lines : List (List ℕ)
  pub lines : AreDecodedLines (lines_of text) reading_lines
  pub whole : output ≡ concat reading_lines

-- a text has one output at most
abbrev pub HasOneOutput : Type 0
HasOneOutput = (text output other : List ℕ) → IsDecodeText text output → IsDecodeText text other → output ≡ other
