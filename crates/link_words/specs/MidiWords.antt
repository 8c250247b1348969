-- The words of `midi`: those that a simple command of clap takes, which has two values and no flag.
use Rattle.std.specs.Prelude.{◌≡◌, ℕ, List, [], map, codes}
use Rattle.std.specs.String.{string_bytes}
use Rattle.std.specs.declared.alloc.Global.{Global}
use Rattle.std.specs.declared.string.String.{String}
use Rattle.clap.specs.Words.{App, fault_of}
use Rattle.clap.specs.declared.builder.command.Command.{Command}
use Rattle.link_words.specs.CommandNames.{BeginsBy}
use Rattle.link_words.specs.CommandWords.{Says}
use Rattle.link_words.specs.ValueCommand.{IsValuesCommand}
use Rattle.link_words.specs.ValueWords.{values_app}
use Rattle.link_words.specs.declared.command_name.CommandName.TheVariants as name

abbrev pub midi_app : App
midi_app = values_app (codes "midi") (codes "LENGTH") 1 1_000_000 (codes "BLOCKS") 0 524_288

-- the command that reads them
abbrev pub IsMidiCommand : Command → Type 0
IsMidiCommand = IsValuesCommand (codes "midi") (codes "LENGTH") 1 1_000_000 (codes "BLOCKS") 0 524_288

-- the first of the words is `midi`
abbrev pub BeginsMidi : List (String Global) → Type 0
BeginsMidi = BeginsBy name.Midi

-- and clap finds no fault in the words behind it
abbrev pub IsMidi : List (String Global) → Type 0
IsMidi words = BeginsMidi words × (fault_of midi_app (map string_bytes words) ≡ [])

-- Rule: `midi` takes the length of a block from 1 to 1,000,000 microseconds and a number of blocks from 0 to 524,288.
pub record NamesMidi (words : List (String Global)) (length blocks : ℕ) : Type 0 where
  pub midi : IsMidi words
  pub length_is : Says midi_app words (codes "LENGTH") length
  pub blocks_is : Says midi_app words (codes "BLOCKS") blocks
