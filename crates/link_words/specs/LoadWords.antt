-- The words of `load`: those that a simple command of clap takes, which has two values and no flag.
use Rattle.std.specs.Prelude.{◌≡◌, ◌-◌, ◌^◌, ℕ, List, [], map, codes}
use Rattle.std.specs.String.{string_bytes}
use Rattle.std.specs.declared.alloc.Global.{Global}
use Rattle.std.specs.declared.string.String.{String}
use Rattle.clap.specs.Words.{App, fault_of}
use Rattle.clap.specs.declared.builder.command.Command.{Command}
use Rattle.link_words.specs.CommandNames.{BeginsBy}
use Rattle.link_words.specs.CommandWords.{Says}
use Rattle.link_words.specs.ValueCommand.{IsValuesCommand}
use Rattle.link_words.specs.ValueWords.{values_app}
use Rattle.link_words.specs.declared.command_name.CommandName.TheVariants as name

abbrev pub load_app : App
load_app = values_app (codes "load") (codes "SEED") 0 (2 ^ 64 - 1) (codes "COUNT") 1 524_288

-- the command that reads them
abbrev pub IsLoadCommand : Command → Type 0
IsLoadCommand = IsValuesCommand (codes "load") (codes "SEED") 0 (2 ^ 64 - 1) (codes "COUNT") 1 524_288

-- the first of the words is `load`
abbrev pub BeginsLoad : List (String Global) → Type 0
BeginsLoad = BeginsBy name.Load

-- and clap finds no fault in the words behind it
abbrev pub IsLoad : List (String Global) → Type 0
IsLoad words = BeginsLoad words × (fault_of load_app (map string_bytes words) ≡ [])

-- Rule: `load` takes a seed from 0 to 2^64 - 1 and a number of events from 1 to 524,288.
pub record NamesLoad (words : List (String Global)) (seed count : ℕ) : Type 0 where
  pub load : IsLoad words
  pub seed_is : Says load_app words (codes "SEED") seed
  pub count_is : Says load_app words (codes "COUNT") count
