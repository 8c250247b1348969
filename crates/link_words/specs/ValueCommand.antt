-- The command of clap that reads the words of a command with two values.
use Rattle.std.specs.Prelude.{◌≡◌, ◌≤◌, ℕ, true, false, List, [], ◌∷◌, Some, None}
use Rattle.clap.specs.Facts.{least_values}
use Rattle.clap.specs.Words.{IsPlain, IsPlainArg, app_of, args_of}
use Rattle.clap.specs.declared.builder.action.ArgAction.TheVariants.{Set}
use Rattle.clap.specs.declared.builder.arg.Arg.{Arg}
use Rattle.clap.specs.declared.builder.command.Command.{Command}
use Rattle.clap.specs.declared.builder.command.Command.TheViews.{out-Command}
use Rattle.clap.specs.declared.builder.value_parser.ValueParser.TheVariants as parser
use Rattle.link_words.specs.ValueWords.{values_app}

-- a value that is needed, a whole number in this range
pub record IsNumberArg (a : Arg) (id : List ℕ) (least most : ℕ) : Type 0 where
  pub id_is : a.id.now ≡ id
  pub plain : IsPlainArg a
  pub local : a.global ≡ false
  pub needed : a.required ≡ true
  pub kept : a.action ≡ Some Set
  pub whole : a.val_delim ≡ None
  pub least_one : 1 ≤ least_values a
  pub parsed : a.value_parser ≡ Some (parser.Unsigned least most)

-- the command of this name has two values, each by its name and its range, and nothing else
pub record IsValuesCommand (name one : List ℕ) (least most : ℕ) (other : List ℕ) (least' most' : ℕ) (c : Command) : Type 0 where
  pub app : app_of c ≡ values_app name one least most other least' most'
  pub first : Arg
  pub second : Arg
  pub args : args_of c ≡ first ∷ second ∷ []
  pub first_is : IsNumberArg first one least most
  pub second_is : IsNumberArg second other least' most'
  pub plain : IsPlain c
  pub local : (out-Command c).has_globals ≡ false
  pub negates : (out-Command c).subcommand_negates_reqs ≡ false
