-- The words of a command: its name, and behind it those that clap reads.
use Rattle.std.specs.Prelude.{◌≡◌, ℕ, true, false, List, [], Some, map}
use Rattle.std.specs.Str.Parse.{IsNumeral, digits_value, without_leading_plus}
use Rattle.std.specs.String.{string_bytes}
use Rattle.std.specs.declared.alloc.Global.{Global}
use Rattle.std.specs.declared.string.String.{String}
use Rattle.clap.specs.Simple.{on_top}
use Rattle.clap.specs.Values.{IsUnsignedIn}
use Rattle.clap.specs.Words.{App, app_of, args_of, found_of, groups_of, matches_of, new_app, one_of, one_text}
use Rattle.clap.specs.declared.builder.command.Command.{Command}
use Rattle.clap.specs.declared.builder.command.Command.TheViews.{out-Command}
use Rattle.clap.specs.declared.parser.matches.ArgMatches.{ArgMatches}

-- a command of this name, without the flags for help and for the version
abbrev pub bare_app : List ℕ → App
bare_app name = on_top (λ shape. record shape { disable_help_flag = true; disable_version_flag = true }) (new_app name)

-- clap's command of this name, before its arguments
pub record IsBare (name : List ℕ) (c : Command) : Type 0 where
  pub app : app_of c ≡ bare_app name
  pub none : args_of c ≡ []
  pub groups : groups_of c ≡ []
  pub local : (out-Command c).has_globals ≡ false
  pub negates : (out-Command c).subcommand_negates_reqs ≡ false

-- the value of this name among the words is this number
abbrev pub Says : App → List (String Global) → List ℕ → ℕ → Type 0
Says app words id number =
    (text : List ℕ) × (one_of id (matches_of app (map string_bytes words)) ≡ Some text)
    × IsNumeral 10 (without_leading_plus text) × (digits_value 10 (without_leading_plus text) ≡ number)

-- the value of this name is a number in this range
abbrev pub HasNumber : ArgMatches → List ℕ → ℕ → ℕ → Type 0
HasNumber m id least most = (text : List ℕ) × (one_text (found_of m) id ≡ Some text) × IsUnsignedIn least most text

-- the value of this name is this number
abbrev pub IsNumberIn : ArgMatches → List ℕ → ℕ → Type 0
IsNumberIn m id number =
    (text : List ℕ) × (one_text (found_of m) id ≡ Some text)
    × IsNumeral 10 (without_leading_plus text) × (digits_value 10 (without_leading_plus text) ≡ number)
