-- Options with a default whose values are whole numbers: what clap reads of them, and what they keep.
use Rattle.std.proofs.Common.{◌≡◌, ◌<◌, ◌≤◌, ◌∙◌, ℕ, zero, suc, Bool, true, false, List, [], ◌∷◌, length, is_some, Option, Some, None, get_or, refl, sym, ap, subst, inl, inr, arith}
use Rattle.std.specs.Prelude.{find, option_map, slice_get}
use Rattle.std.specs.Borrow.{Bor}
use Rattle.std.specs.List.{All, IsDistinct, slice_index_or}
use Rattle.std.specs.Str.{bytes_eq}
use Rattle.std.proofs.lemmas.List.Elements.{All-get_or}
use Rattle.std.proofs.lemmas.Slice.Eq.{bytes_eq-Decides}
use Rattle.clap.specs.Built.{IsAuto, IsParsedFrom, IsPlain, SameRules}
use Rattle.clap.specs.Facts.{Entry, EntryPasses, HasId, HasReading, PassesArg, WantsDefault, args_of, groups_of, least_values, parser_of_value}
use Rattle.clap.specs.Matches.{found_of, matched_of, one_text}
use Rattle.clap.specs.Values.{Accepts, IsUnsignedIn, reading_of}
use Rattle.clap.specs.declared.builder.action.ArgAction.TheVariants.{Count, Set}
use Rattle.clap.specs.declared.builder.arg.Arg.{Arg}
use Rattle.clap.specs.declared.builder.command.Command.{Command}
use Rattle.clap.specs.declared.builder.command.Command.TheViews.{out-Command}
use Rattle.clap.specs.declared.builder.value_parser.Reading.{Reading}
use Rattle.clap.specs.declared.builder.value_parser.Reading.TheVariants as reading
use Rattle.clap.specs.declared.builder.value_parser.ValueParser.{ValueParser}
use Rattle.clap.specs.declared.builder.value_parser.ValueParser.TheVariants as parser
use Rattle.clap.specs.declared.parser.matches.ArgMatches.{ArgMatches}
use Rattle.clap.specs.declared.parser.matches.Found.{Found}
use Rattle.clap.specs.declared.parser.matches.MatchedArg.{MatchedArg}
use Rattle.clap.proofs.CallerLemmas.{default_present, entry_by_id, same_rules_by_id}
use Rattle.link_words.specs.CommandWords.{HasNumber}
use Rattle.link_words.specs.OptionWords.{IsLocalArg, IsOptionArg}
use Rattle.link_words.proofs.CommandWordLemmas.{letter, named, only_one, own, same_id}

-- ---- the entry

-- an id that an entry has is found
has_entry : (xs : List Entry) (id : List ℕ) (i : ℕ) → i < length xs → ((d : Entry) → bytes_eq (slice_index_or xs i d).0.now id ≡ true)
    → is_some (option_map (λ (e : Entry). e.1) (find (λ (e : Entry). bytes_eq e.0.now id) xs)) ≡ true
has_entry [] id i low hit = absurd (omega arith)
has_entry (x ∷ xs) id i low hit = go (bytes_eq x.0.now id) refl i low hit (has_entry xs id)
  where
    go : (t : Bool) → bytes_eq x.0.now id ≡ t → (i : ℕ) → i < length (x ∷ xs)
        → ((d : Entry) → bytes_eq (slice_index_or (x ∷ xs) i d).0.now id ≡ true)
        → ((i : ℕ) → i < length xs → ((d : Entry) → bytes_eq (slice_index_or xs i d).0.now id ≡ true)
        → is_some (option_map (λ (e : Entry). e.1) (find (λ (e : Entry). bytes_eq e.0.now id) xs)) ≡ true)
        → is_some (option_map (λ (e : Entry). e.1) (find (λ (e : Entry). bytes_eq e.0.now id) (x ∷ xs))) ≡ true
    go true t i low hit rest = rw t refl
    go false t zero low hit rest =
        let here : bytes_eq x.0.now id ≡ true = hit x in
        cc
    go false t (suc i) low hit rest = rw t (rest i (omega arith) (λ d. hit d))

first_of_some : (P : Bor (List ℕ) → Type 0) (vs : List (Bor (List ℕ))) → 0 < length vs → All P vs
    → (v : Bor (List ℕ)) × (slice_get vs 0 ≡ Some v) × P v
first_of_some P [] some all = absurd (omega arith)
first_of_some P (v ∷ vs) some all = (v, refl, All-get_or P (v ∷ vs) 0 v (omega arith) all)

text_at : (f : Found) (id : List ℕ) (x : MatchedArg) (v : Bor (List ℕ)) → matched_of f id ≡ Some x → x.reading ≡ reading.AsWritten
    → slice_get x.vals.items 0 ≡ Some v → one_text f id ≡ Some v.now
text_at f id x v found read first = rw (found, read, first) refl

module _ (c : Command) (a : Arg) (id : List ℕ) (least most : ℕ) (groups : groups_of c ≡ []) (some : id ≡ [] → ⊥)
    (same : (j : ℕ) (x : Arg) → j < length (args_of c) → slice_index_or (args_of c) j x ≡ x → bytes_eq x.id.now id ≡ true → SameRules a x)
    (kept : a.action ≡ Some Set) (whole : a.val_delim ≡ None) (least_one : 1 ≤ least_values a)
    (parsed : a.value_parser ≡ Some (parser.Unsigned least most)) where
  no_group : (e : Entry) → e.0.now ≡ id → EntryPasses c e → e.1.is_group ≡ true → ⊥
  no_group e key pass is = elim (pass.3 is) [
    | inl empty ↦ some (sym key ∙ empty)
    | inr lots ↦
        let bad : 0 < 0 = rw groups at lots in
        omega (arith, bad)
  ]

  has_value : (e : Entry) → e.0.now ≡ id → EntryPasses c e → 0 < length e.1.vals.items
  has_value e key pass = elim pass.1 [
    | inl h ↦ absurd (no_group e key pass h.0)
    | inr (inl there) ↦ there
    | inr (inr (inl h)) ↦
        let any = h.1 in
        let rules = same any.0 any.1 any.2 any.3 (rw key at any.4.0) in
        let is_set : any.1.action ≡ Some Set = rules.action Set kept in
        let bad : Set ≡ Count = rw is_set at any.4.1 in
        cc
    | inr (inr (inr any)) ↦
        let rules = same any.0 any.1 any.2 any.3 (rw key at any.4.0) in
        elim any.4.1 [
          | inl none ↦
              let one = rules.least kept least_one in
              absurd (omega arith)
          | inr has ↦
              let bad : false ≡ true = rw (rules.val_delim, whole) at has in
              cc
        ]
  ]

  value_passes : (v : List ℕ) → PassesArg c id v → IsUnsignedIn least most v
  value_passes v any =
      let rules = same any.0 any.1 any.2 any.3 any.4.0 in
      subst (λ (q : ValueParser). Accepts any.1.ignore_case q v) (ap parser_of_value (rules.parser (parser.Unsigned least most) parsed)) any.4.1

  as_written : (r : Reading) → HasReading c id r → r ≡ reading.AsWritten
  as_written r any =
      let rules = same any.0 any.1 any.2 any.3 any.4.0 in
      sym any.4.1 ∙ ap reading_of (ap parser_of_value (rules.parser (parser.Unsigned least most) parsed))

  value_read : (f : Found) (e : Entry) → e.0.now ≡ id → EntryPasses c e → matched_of f id ≡ Some e.1
      → (t : List ℕ) × (one_text f id ≡ Some t) × IsUnsignedIn least most t
  value_read f e key pass found =
      let read : e.1.reading ≡ reading.AsWritten = elim pass.4 [
        | inl is ↦ absurd (no_group e key pass is)
        | inr h ↦ as_written e.1.reading (subst (λ (w : List ℕ). HasReading c w e.1.reading) key h)
      ] in
      let all : All (λ v. PassesArg c id v.now) e.1.vals.items = elim pass.0 [
        | inl is ↦ absurd (no_group e key pass is)
        | inr values ↦ subst (λ (w : List ℕ). All (λ v. PassesArg c w v.now) e.1.vals.items) key values
      ] in
      let first = first_of_some (λ v. PassesArg c id v.now) e.1.vals.items (has_value e key pass) all in
      (first.0.now, text_at f id e.1 first.0 found read first.1, value_passes first.0.now first.2)

  -- the entry of the id, where there is one
  found_read : (f : Found) → All (EntryPasses c) f.entries.items → HasId f id
      → (t : List ℕ) × (one_text f id ≡ Some t) × IsUnsignedIn least most t
  found_read f values there = go (matched_of f id) refl (has_entry f.entries.items id there.0 there.1 there.2)
    where
      go : (o : Option MatchedArg) → matched_of f id ≡ o → is_some (matched_of f id) ≡ true
          → (t : List ℕ) × (one_text f id ≡ Some t) × IsUnsignedIn least most t
      go None e has =
          let bad : false ≡ true = rw e at has in
          cc
      go (Some x) e has =
          let got = entry_by_id (EntryPasses c) f.entries.items id x values e in
          value_read f got.0 ((bytes_eq-Decides got.0.0.now id).0 got.2) got.3 (e ∙ ap (λ (y : MatchedArg). Some y) (sym got.1))

-- ---- the option

-- an option of a command whose arguments' names differ has a number in its range
pub option_read : (c : Command) (m : ArgMatches) → IsParsedFrom c m → IsPlain c → (out-Command c).has_globals ≡ false
    → (xs : List Arg) → args_of c ≡ xs → IsDistinct same_id xs
    → (k : ℕ) (a : Arg) (id : List ℕ) (least most : ℕ) → k < length xs → slice_index_or xs k a ≡ a → IsOptionArg a id least most
    → 1 ≤ get_or id 0 0 → (get_or id 0 0 ≡ 104 → ⊥) → (get_or id 0 0 ≡ 118 → ⊥)
    → HasNumber m id least most
option_read c m p plain local xs args distinct k a id least most low at is some no_help no_version =
    let parsed = p.parsed (p.from.globals ∙ local) in
    let first : get_or a.id.now 0 0 ≡ get_or id 0 0 = letter a id is.id_is in
    let lt : k < length (args_of c) = subst (λ (ys : List Arg). k < length ys) (sym args) low in
    let at_c : slice_index_or (args_of c) k a ≡ a = ap (λ (ys : List Arg). slice_index_or ys k a) args ∙ at in
    let there : HasId (found_of m) a.id.now =
    subst (λ (x : Arg). HasId (found_of m) x.id.now) at_c (default_present c m p local k a lt (subst WantsDefault (sym at_c) is.defaulted)) in
    let same : (j : ℕ) (x : Arg) → j < length (args_of p.built) → slice_index_or (args_of p.built) j x ≡ x → bytes_eq x.id.now a.id.now ≡ true
    → SameRules a x =
    λ j x below at_x hit. subst (λ (y : Arg). SameRules y x) at_c (same_rules_by_id c m p k a lt
    (λ i e under one.
    only_one (args_of c) (subst (IsDistinct same_id) (sym args) distinct) k a lt at_c i e under
    (subst (λ (y : Arg). bytes_eq (slice_index_or (args_of c) i e).id.now y.id.now ≡ true) at_c one))
    (λ auto. own a (get_or id 0 0) first no_help no_version (subst IsAuto at_c auto))
    j x below at_x (subst (λ (y : Arg). bytes_eq x.id.now y.id.now ≡ true) (sym at_c) hit)) in
    subst (λ (w : List ℕ). HasNumber m w least most) is.id_is
    (found_read p.built a a.id.now least most (p.from.plain plain).1 (named a.id.now (get_or id 0 0) first some) same
    is.kept is.whole is.least_one is.parsed (found_of m) parsed.values there)

-- ---- arguments keep what they are where they are added

pub option_added : (a b : Arg) (id : List ℕ) (least most : ℕ) → SameRules a b → IsOptionArg a id least most → IsOptionArg b id least most
option_added a b id least most same is = record {
  id_is = ap (λ x. x.now) same.id ∙ is.id_is;
  plain = (same.exclusive ∙ is.plain.0, same.conflicts ∙ is.plain.1, same.overrides ∙ is.plain.2, same.groups ∙ is.plain.3);
  local = same.global ∙ is.local;
  defaulted = (same.ifs ∙ is.defaulted.0, rw (same.defaults is.defaulted.1) is.defaulted.1);
  kept = same.action Set is.kept;
  whole = same.val_delim ∙ is.whole;
  least_one = same.least is.kept is.least_one;
  parsed = same.parser (parser.Unsigned least most) is.parsed;
}

pub local_added : (a b : Arg) (id : List ℕ) → SameRules a b → IsLocalArg a id → IsLocalArg b id
local_added a b id same is = record {
  id_is = ap (λ x. x.now) same.id ∙ is.id_is;
  plain = (same.exclusive ∙ is.plain.0, same.conflicts ∙ is.plain.1, same.overrides ∙ is.plain.2, same.groups ∙ is.plain.3);
  local = same.global ∙ is.local;
}
