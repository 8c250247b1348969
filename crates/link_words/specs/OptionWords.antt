-- Options and flags: the rule of each, and the argument of clap that has it.
use Rattle.std.specs.Prelude.{◌≡◌, ◌≤◌, ℕ, false, List, [], ◌∷◌, Some, None}
use Rattle.clap.specs.Facts.{WantsDefault, least_values}
use Rattle.clap.specs.Words.{IsPlainArg, Rule, new_rule}
use Rattle.clap.specs.declared.builder.action.ArgAction.TheVariants.{Set, SetTrue}
use Rattle.clap.specs.declared.builder.arg.Arg.{Arg}
use Rattle.clap.specs.declared.builder.value_parser.ValueParser.TheVariants as parser

-- an option whose value is a whole number in this range; where the words don't give it, it is the default
abbrev pub option_rule : List ℕ → ℕ → ℕ → List ℕ → Rule
option_rule id least most default = record (new_rule id) {
  long = Some id;
  action = Some Set;
  value_names = 1;
  parser = Some (parser.Unsigned least most);
  defaults = default ∷ [];
}

-- Rule: `live` writes the record of a run only with `--record`.
-- a flag: `true` where the words give it, and else `false`
abbrev pub flag_rule : List ℕ → Rule
flag_rule id = record (new_rule id) { long = Some id; action = Some SetTrue }

-- an option with a default, whose value is a whole number in this range
pub record IsOptionArg (a : Arg) (id : List ℕ) (least most : ℕ) : Type 0 where
  pub id_is : a.id.now ≡ id
  pub plain : IsPlainArg a
  pub local : a.global ≡ false
  pub defaulted : WantsDefault a
  pub kept : a.action ≡ Some Set
  pub whole : a.val_delim ≡ None
  pub least_one : 1 ≤ least_values a
  pub parsed : a.value_parser ≡ Some (parser.Unsigned least most)

-- an argument of this name that is not global
pub record IsLocalArg (a : Arg) (id : List ℕ) : Type 0 where
  pub id_is : a.id.now ≡ id
  pub plain : IsPlainArg a
  pub local : a.global ≡ false
