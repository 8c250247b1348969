-- What clap read of the words of a command.
use Rattle.std.proofs.Common.{◌≡◌, ◌<◌, ◌≤◌, ◌∙◌, ◌-◌, ◌^◌, ◌++◌, ◌∷◌, ◌||◌, ℕ, ℤ, pos, Bool, true, false, true≢false, List, [], length, Option, Some, map, get_or, sym, ap, ap₂, subst, nat_cmp, w64, inl, inr, arith}
use Rattle.std.specs.Int.{saturate_unsigned}
use Rattle.std.specs.Ordering.{ord_max, ord_min}
use Rattle.std.specs.Borrow.{Bor}
use Rattle.std.specs.List.{All, IsDistinct, slice_index_or}
use Rattle.std.specs.Str.{bytes_eq}
use Rattle.std.specs.String.{string_bytes}
use Rattle.std.specs.declared.alloc.Global.{Global}
use Rattle.std.specs.declared.string.String.{String}
use Rattle.std.proofs.lemmas.Bool.{cases_lt}
use Rattle.std.proofs.lemmas.List.{get_or_default}
use Rattle.std.proofs.lemmas.List.Elements.{All-nil}
use Rattle.std.proofs.lemmas.Map.Keys.{apart_from_distinct}
use Rattle.std.proofs.lemmas.Slice.Eq.{bytes_eq-Decides}
use Rattle.clap.specs.Words.{App, HasMatchesOf, IsPlain, IsPlainArg, Rule, app_of, groups_of, args_of, found_of, is_simple, matches_of, new_app, one_of, one_text, rule_of, with_rule}
use Rattle.clap.specs.Built.{AddsArg, IsAuto}
use Rattle.clap.specs.Values.{NarrowsTo, unsigned_up_to}
use Rattle.clap.specs.declared.builder.value_parser.ValueParser.{ValueParser}
use Rattle.clap.specs.declared.builder.value_parser.ValueParser.TheVariants.{Unsigned}
use Rattle.clap.specs.Simple.{app_of_fields, on_top}
use Rattle.clap.specs.declared.builder.arg.Arg.{Arg}
use Rattle.clap.specs.declared.builder.command.Command.{Command}
use Rattle.clap.specs.declared.builder.command.Command.TheViews.{out-Command}
use Rattle.clap.specs.declared.parser.matches.ArgMatches.{ArgMatches}
use Rattle.clap.specs.declared.builder.command.Command.TheOpen.{Command-F}
use Rattle.clap.proofs.CallerLemmas.{added_plain}
use Rattle.clap.proofs.WalkLemmas.{one_text-rows}
use Rattle.link_words.specs.CommandWords.{IsBare, IsNumberIn, Says, bare_app}

-- ---- what is read

-- the text of a name, by the matches that the command has on the words
pub text_said : (app : App) (words : List (String Global)) (m : ArgMatches) (id : List ℕ) → is_simple app ≡ true
    → HasMatchesOf app (map string_bytes words) m → one_text (found_of m) id ≡ one_of id (matches_of app (map string_bytes words))
text_said app words m id simple matches = one_text-rows (found_of m) id ∙ ap (one_of id) (matches simple).0

-- the number of a name
pub said : (app : App) (words : List (String Global)) (m : ArgMatches) (id : List ℕ) (number : ℕ) → is_simple app ≡ true
    → HasMatchesOf app (map string_bytes words) m → IsNumberIn m id number → Says app words id number
said app words m id number simple matches is = (is.0, sym (text_said app words m id simple matches) ∙ is.1, is.2, is.3)

-- ---- names

-- names that are one have the same first letter
pub same_first : (x y : List ℕ) → bytes_eq x y ≡ true → get_or x 0 0 ≡ get_or y 0 0
same_first x y same = ap (λ (xs : List ℕ). get_or xs 0 0) ((bytes_eq-Decides x y).0 same)

pub letter : (a : Arg) (id : List ℕ) → a.id.now ≡ id → get_or a.id.now 0 0 ≡ get_or id 0 0
letter a id is = ap (λ (xs : List ℕ). get_or xs 0 0) is

-- a name with a first letter is not empty
pub named : (id : List ℕ) (first : ℕ) → get_or id 0 0 ≡ first → 1 ≤ first → id ≡ [] → ⊥
named id first is some e = omega (arith, is, some, ap (λ (xs : List ℕ). get_or xs 0 0) e)

-- and is none of clap's own, where the letter is not theirs
pub own : (a : Arg) (first : ℕ) → get_or a.id.now 0 0 ≡ first → (first ≡ 104 → ⊥) → (first ≡ 118 → ⊥) → IsAuto a → ⊥
own a first is no_help no_version (inl h) = no_help (sym is ∙ ap (λ (xs : List ℕ). get_or xs 0 0) h)
own a first is no_help no_version (inr h) = no_version (sym is ∙ ap (λ (xs : List ℕ). get_or xs 0 0) h)

-- whether two arguments have one name
abbrev pub same_id : Arg → Arg → Bool
same_id a b = bytes_eq a.id.now b.id.now

-- of arguments whose names differ, only one has the name of one
pub only_one : (xs : List Arg) → IsDistinct same_id xs → (k : ℕ) (a : Arg) → k < length xs → slice_index_or xs k a ≡ a
    → (j : ℕ) (e : Arg) → j < length xs → bytes_eq (slice_index_or xs j e).id.now a.id.now ≡ true → j ≡ k
only_one xs distinct k a low at j e below same = elim (cases_lt j k) [
  | inl before ↦
      let there : slice_index_or xs k e ≡ a = get_or_default xs k e a low ∙ at in
      absurd (true≢false (sym same ∙ subst (λ (x : Arg). same_id (slice_index_or xs j e) x ≡ false) there
      (apart_from_distinct same_id xs j k e distinct before low)))
  | inr not_before ↦ elim (cases_lt k j) [
    | inl after ↦
        let there : slice_index_or xs k e ≡ a = get_or_default xs k e a low ∙ at in
        let apart : bytes_eq a.id.now (slice_index_or xs j e).id.now ≡ false =
        subst (λ (x : Arg). same_id x (slice_index_or xs j e) ≡ false) there (apart_from_distinct same_id xs k j e distinct after below) in
        absurd (true≢false (sym ((bytes_eq-Decides a.id.now (slice_index_or xs j e).id.now).1
        (sym ((bytes_eq-Decides (slice_index_or xs j e).id.now a.id.now).0 same))) ∙ apart))
    | inr not_after ↦ omega arith
  ]
]

-- ---- the command before its arguments

pub bare_command : (name : List ℕ) (new worded helpless end : Command)
    → app_of new ≡ new_app name → args_of new ≡ [] → groups_of new ≡ [] → (out-Command new).has_globals ≡ false → (out-Command new).subcommand_negates_reqs ≡ false
    → out-Command worded ≡ record (out-Command new) { bin_name = (out-Command worded).bin_name }
    → out-Command helpless ≡ record (out-Command worded) { disable_help_flag = true }
    → out-Command end ≡ record (out-Command helpless) { disable_version_flag = true }
    → IsBare name end
bare_command name new worded helpless end app none groups local negates f g h = record {
  app = ap app_of_fields h
      ∙ ap (on_top (λ s. record s { disable_version_flag = true })) (ap app_of_fields g
      ∙ ap (on_top (λ s. record s { disable_help_flag = true })) (ap app_of_fields f ∙ app));
  none = ap (λ (c : Command-F Command). c.args.items) h ∙ ap (λ (c : Command-F Command). c.args.items) g ∙ ap (λ (c : Command-F Command). c.args.items) f ∙ none;
  groups = ap (λ (c : Command-F Command). c.groups.items) h ∙ ap (λ (c : Command-F Command). c.groups.items) g ∙ ap (λ (c : Command-F Command). c.groups.items) f ∙ groups;
  local = ap (λ (c : Command-F Command). c.has_globals) h ∙ ap (λ (c : Command-F Command). c.has_globals) g ∙ ap (λ (c : Command-F Command). c.has_globals) f ∙ local;
  negates = ap (λ (c : Command-F Command). c.subcommand_negates_reqs) h ∙ ap (λ (c : Command-F Command). c.subcommand_negates_reqs) g
      ∙ ap (λ (c : Command-F Command). c.subcommand_negates_reqs) f ∙ negates;
}

-- the usage that is told changes nothing of this
pub told_command : (name : List ℕ) (c told : Command) (text : Option (Bor (List ℕ))) → out-Command told ≡ record (out-Command c) { usage_str = text }
    → IsBare name c → IsBare name told
told_command name c told text f is = record {
  app = ap app_of_fields f ∙ is.app;
  none = ap (λ (x : Command-F Command). x.args.items) f ∙ is.none;
  groups = ap (λ (x : Command-F Command). x.groups.items) f ∙ is.groups;
  local = ap (λ (x : Command-F Command). x.has_globals) f ∙ is.local;
  negates = ap (λ (x : Command-F Command). x.subcommand_negates_reqs) f ∙ is.negates;
}

-- ---- the command with its arguments

-- a command of this shape with these arguments, none of them global, where nothing excludes anything
pub record HasArgs (whole : App) (xs : List Arg) (c : Command) : Type 0 where
  pub app : app_of c ≡ whole
  pub args : args_of c ≡ xs
  pub plain : IsPlain c
  pub local : (out-Command c).has_globals ≡ false

pub none_yet : (name : List ℕ) (c : Command) → IsBare name c → HasArgs (bare_app name) [] c
none_yet name c bare = record {
  app = bare.app;
  args = bare.none;
  plain = (subst (All IsPlainArg) (sym bare.none) (All-nil IsPlainArg), bare.groups);
  local = bare.local;
}

-- one more is added
pub one_more : (whole : App) (xs : List Arg) (c d : Command) (a : Arg) (rule : Rule) → HasArgs whole xs c → (added : AddsArg c a d)
    → rule_of a ≡ rule → IsPlainArg a → a.global ≡ false → HasArgs (with_rule whole rule) (xs ++ added.arg ∷ []) d
one_more whole xs c d a rule before added rule_is plain local = record {
  app = added.shape local ∙ ap₂ with_rule before.app rule_is;
  args = added.args ∙ ap (λ (ys : List Arg). ys ++ added.arg ∷ []) before.args;
  plain = added_plain c d a added before.plain plain;
  local = added.globals ∙ ap₂ (λ x y. x || y) before.local local;
}

-- ---- parsers

-- a parser of `u64` in a range
pub narrowed : (whole r : ValueParser) (from to : ℤ) (least most : ℕ) → whole ≡ Unsigned 0 (2 ^ 64 - 1) → NarrowsTo whole (Some from) (Some to) r
    → from ≡ pos least → to ≡ pos most → r ≡ unsigned_up_to (ord_max nat_cmp 0 (saturate_unsigned w64 (pos least))) (2 ^ 64 - 1) (Some (pos most))
narrowed whole r from to least most is made start end =
    subst (λ (p : ValueParser). NarrowsTo p (Some from) (Some to) r) is made
    ∙ ap₂ (λ (low high : ℤ). unsigned_up_to (ord_max nat_cmp 0 (saturate_unsigned w64 low)) (2 ^ 64 - 1) (Some high)) start end

-- the type has all of it
pub all_of_range : (least most : ℕ) → least < 2 ^ 64 → most < 2 ^ 64
    → unsigned_up_to (ord_max nat_cmp 0 (saturate_unsigned w64 (pos least))) (2 ^ 64 - 1) (Some (pos most)) ≡ Unsigned least most
all_of_range least most low high =
    let first : ord_max nat_cmp 0 (saturate_unsigned w64 (pos least)) ≡ least = grind (arith, low) in
    let last : ord_min nat_cmp (2 ^ 64 - 1) most ≡ most = grind (arith, high) in
    ap₂ Unsigned first last
