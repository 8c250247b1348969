-- The words of a command that has two values and no flag.
use Rattle.std.specs.Prelude.{ℕ, true, List, Some}
use Rattle.clap.specs.Words.{App, Rule, new_rule, with_rule}
use Rattle.clap.specs.declared.builder.action.ArgAction.TheVariants.{Set}
use Rattle.clap.specs.declared.builder.value_parser.ValueParser.TheVariants as parser
use Rattle.link_words.specs.CommandWords.{bare_app}

-- a value that is needed, a whole number in this range
abbrev pub number_rule : List ℕ → ℕ → ℕ → Rule
number_rule id least most = record (new_rule id) { action = Some Set; required = true; parser = Some (parser.Unsigned least most) }

-- a command of this name with two such values, each by its name and its range
abbrev pub values_app : List ℕ → List ℕ → ℕ → ℕ → List ℕ → ℕ → ℕ → App
values_app name one least most other least' most' =
    with_rule
    (with_rule
    (bare_app name)
    (number_rule one least most))
    (number_rule other least' most')
