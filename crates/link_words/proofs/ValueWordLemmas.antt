-- What clap read of the words of a command with two values.
use Rattle.std.proofs.Common.{◌≡◌, ◌<◌, ◌≤◌, ◌∙◌, ℕ, zero, suc, List, [], ◌∷◌, Some, true, false, length, get_or, refl, sym, ap, subst, arith}
use Rattle.std.specs.List.{slice_index_or}
use Rattle.std.specs.Str.{bytes_eq}
use Rattle.clap.specs.Facts.{least_values}
use Rattle.clap.specs.Words.{IsParsedFrom, IsPlain, rule_of, args_of, found_of, one_text}
use Rattle.clap.specs.Built.{AddsArg, IsAuto, SameRules}
use Rattle.clap.specs.declared.builder.action.ArgAction.TheVariants.{Set}
use Rattle.clap.specs.declared.builder.arg.Arg.{Arg}
use Rattle.clap.specs.declared.builder.command.Command.{Command}
use Rattle.clap.specs.declared.builder.command.Command.TheViews.{out-Command}
use Rattle.clap.specs.declared.builder.value_parser.ValueParser.TheVariants as parser
use Rattle.clap.specs.declared.parser.matches.ArgMatches.{ArgMatches}
use Rattle.clap.proofs.CallerReads.{required_reads}
use Rattle.link_words.specs.CommandWords.{HasNumber, IsBare}
use Rattle.link_words.specs.ValueCommand.{IsNumberArg, IsValuesCommand}
use Rattle.link_words.specs.ValueWords.{number_rule}
use Rattle.link_words.proofs.CommandWordLemmas.{letter, named, none_yet, one_more, own, same_first}

-- ---- the two values

-- the two names begin with different letters
module _ (a b : Arg) (one other : List ℕ) (a_is : a.id.now ≡ one) (b_is : b.id.now ≡ other) (apart : get_or one 0 0 ≡ get_or other 0 0 → ⊥) where
  only_first : (j : ℕ) (e : Arg) → j < 2 → bytes_eq (slice_index_or (a ∷ b ∷ []) j e).id.now a.id.now ≡ true → j ≡ 0
  only_first zero e low same = refl
  only_first (suc zero) e low same = absurd (apart (sym (letter a one a_is) ∙ sym (same_first b.id.now a.id.now same) ∙ letter b other b_is))
  only_first (suc (suc j)) e low same = absurd (omega arith)

  only_second : (j : ℕ) (e : Arg) → j < 2 → bytes_eq (slice_index_or (a ∷ b ∷ []) j e).id.now b.id.now ≡ true → j ≡ 1
  only_second zero e low same = absurd (apart (sym (letter a one a_is) ∙ same_first a.id.now b.id.now same ∙ letter b other b_is))
  only_second (suc zero) e low same = refl
  only_second (suc (suc j)) e low same = absurd (omega arith)

-- a value of the command is a number in its range
number_read : (c : Command) (m : ArgMatches) → IsParsedFrom c m → IsPlain c
    → (out-Command c).has_globals ≡ false → (out-Command c).subcommand_negates_reqs ≡ false
    → (k : ℕ) (a : Arg) (id : List ℕ) (least most : ℕ) → k < length (args_of c) → slice_index_or (args_of c) k a ≡ a
    → IsNumberArg a id least most
    → ((j : ℕ) (e : Arg) → j < length (args_of c) → bytes_eq (slice_index_or (args_of c) j e).id.now a.id.now ≡ true → j ≡ k)
    → 1 ≤ get_or id 0 0 → get_or id 0 0 < 104
    → HasNumber m id least most
number_read c m p plain local negates k a id least most lt at is unique some low =
    let read = required_reads c m p plain local negates k a lt
    (ap (λ (x : Arg). x.required) at ∙ is.needed)
    (ap (λ (x : Arg). x.action) at ∙ is.kept)
    (ap (λ (x : Arg). x.val_delim) at ∙ is.whole)
    (subst (λ (x : Arg). 1 ≤ least_values x) (sym at) is.least_one)
    (λ j e below same. unique j e below (subst (λ (x : Arg). bytes_eq (slice_index_or (args_of c) j e).id.now x.id.now ≡ true) at same))
    (λ empty. named id (get_or id 0 0) refl some (sym is.id_is ∙ ap (λ (x : Arg). x.id.now) (sym at) ∙ empty))
    (λ auto. own a (get_or id 0 0) (letter a id is.id_is) (λ e. omega (arith, low, e)) (λ e. omega (arith, low, e)) (subst IsAuto at auto))
    (parser.Unsigned least most) (ap (λ (x : Arg). x.value_parser) at ∙ is.parsed) in (
      read.0,
      subst (λ (w : List ℕ). one_text (found_of m) w ≡ Some read.0) (ap (λ (x : Arg). x.id.now) at ∙ is.id_is) read.1,
      read.2,
    )

-- of two values whose names begin with different letters, the first
pub first_read : (name one : List ℕ) (least most : ℕ) (other : List ℕ) (least' most' : ℕ) (c : Command) (m : ArgMatches)
    → IsValuesCommand name one least most other least' most' c → IsParsedFrom c m → (get_or one 0 0 ≡ get_or other 0 0 → ⊥)
    → 1 ≤ get_or one 0 0 → get_or one 0 0 < 104
    → HasNumber m one least most
first_read name one least most other least' most' c m is p apart some low =
    number_read c m p is.plain is.local is.negates 0 is.first one least most
    (subst (λ (xs : List Arg). 0 < length xs) (sym is.args) (omega arith))
    (ap (λ (xs : List Arg). slice_index_or xs 0 is.first) is.args)
    is.first_is
    (λ j e below same.
    only_first is.first is.second one other is.first_is.id_is is.second_is.id_is apart j e
    (subst (λ (xs : List Arg). j < length xs) is.args below)
    (subst (λ (xs : List Arg). bytes_eq (slice_index_or xs j e).id.now is.first.id.now ≡ true) is.args same))
    some low

-- and the second
pub second_read : (name one : List ℕ) (least most : ℕ) (other : List ℕ) (least' most' : ℕ) (c : Command) (m : ArgMatches)
    → IsValuesCommand name one least most other least' most' c → IsParsedFrom c m → (get_or one 0 0 ≡ get_or other 0 0 → ⊥)
    → 1 ≤ get_or other 0 0 → get_or other 0 0 < 104
    → HasNumber m other least' most'
second_read name one least most other least' most' c m is p apart some low =
    number_read c m p is.plain is.local is.negates 1 is.second other least' most'
    (subst (λ (xs : List Arg). 1 < length xs) (sym is.args) (omega arith))
    (ap (λ (xs : List Arg). slice_index_or xs 1 is.second) is.args)
    is.second_is
    (λ j e below same.
    only_second is.first is.second one other is.first_is.id_is is.second_is.id_is apart j e
    (subst (λ (xs : List Arg). j < length xs) is.args below)
    (subst (λ (xs : List Arg). bytes_eq (slice_index_or xs j e).id.now is.second.id.now ≡ true) is.args same))
    some low

-- ---- the command

-- an argument keeps what it is where it is added
number_added : (a b : Arg) (id : List ℕ) (least most : ℕ) → SameRules a b → IsNumberArg a id least most → IsNumberArg b id least most
number_added a b id least most same is = record {
  id_is = ap (λ x. x.now) same.id ∙ is.id_is;
  plain = (same.exclusive ∙ is.plain.0, same.conflicts ∙ is.plain.1, same.overrides ∙ is.plain.2, same.groups ∙ is.plain.3);
  local = same.global ∙ is.local;
  needed = same.required ∙ is.needed;
  kept = same.action Set is.kept;
  whole = same.val_delim ∙ is.whole;
  least_one = same.least is.kept is.least_one;
  parsed = same.parser (parser.Unsigned least most) is.parsed;
}

-- both values are added
pub whole_command : (name one : List ℕ) (least most : ℕ) (other : List ℕ) (least' most' : ℕ) (c mid end : Command) (a b : Arg)
    → IsBare name c → AddsArg c a mid → AddsArg mid b end
    → rule_of a ≡ number_rule one least most → IsNumberArg a one least most
    → rule_of b ≡ number_rule other least' most' → IsNumberArg b other least' most'
    → IsValuesCommand name one least most other least' most' end
whole_command name one least most other least' most' c mid end a b bare to_mid to_end a_rule a_is b_rule b_is =
    let with_first = one_more _ _ c mid a _ (none_yet name c bare) to_mid a_rule a_is.plain a_is.local in
    let whole = one_more _ _ mid end b _ with_first to_end b_rule b_is.plain b_is.local in record {
      app = whole.app;
      first = to_mid.arg;
      second = to_end.arg;
      args = whole.args;
      first_is = number_added a to_mid.arg one least most to_mid.rules a_is;
      second_is = number_added b to_end.arg other least' most' to_end.rules b_is;
      plain = whole.plain;
      local = whole.local;
      negates = to_end.negates ∙ (to_mid.negates ∙ bare.negates);
    }
