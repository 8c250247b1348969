-- Which command a first word names.
use Rattle.std.proofs.Common.{◌≡◌, ◌≤◌, ◌<◌, ◌∷◌, ◌∙◌, [], length, get_or, map, List, ℕ, Bool, IsTrue, true, false, Option, Some, None, codes, refl, ap, sym, subst, arith}
use Rattle.std.specs.declared.alloc.Global.{Global}
use Rattle.std.specs.declared.string.String.{String}
use Rattle.std.specs.Prelude.{if◌then◌else◌}
use Rattle.std.specs.Str.{bytes_eq}
use Rattle.std.specs.String.{string_bytes}
use Rattle.std.proofs.lemmas.Slice.Eq.{bytes_eq-Decides}
use Rattle.link_words.specs.CommandNames.{BeginsBy, command_of, named_by, word_of}
use Rattle.link_words.specs.declared.command_name.CommandName.{CommandName}
use Rattle.link_words.specs.declared.command_name.CommandName.TheVariants as name

-- no word
pub no_word : (words : List (String Global)) → length words < 1 → None ≡ named_by words
unfolding named_by
no_word [] short = refl
no_word (word ∷ words) short = absurd (omega arith)

-- the first word alone says which command it is
pub by_first : (words : List (String Global)) (word : String Global) (found : Option CommandName) → 1 ≤ length words
    → word ≡ get_or words 0 word → command_of (string_bytes word) ≡ found → found ≡ named_by words
unfolding named_by
by_first [] word found some first is = absurd (omega arith)
by_first (w ∷ words) word found some first is = sym is ∙ ap (λ (v : String Global). command_of (string_bytes v)) first

-- the word of a command is its own
pub is_command : (text : List ℕ) (named : CommandName) → text ≡ word_of named → command_of text ≡ Some named
unfolding command_of
is_command text name.Replay is = ap command_of is
is_command text name.Decode is = ap command_of is
is_command text name.Load is = ap command_of is
is_command text name.Live is = ap command_of is
is_command text name.Filter is = ap command_of is
is_command text name.Midi is = ap command_of is
is_command text name.Control is = ap command_of is

some_one : {A : Type 0} {one other : A} → Some one ≡ Some other → one ≡ other
some_one is = cc

not_true : (b : Bool) → (IsTrue b → ⊥) → b ≡ false
not_true true differ = absurd (differ refl)
not_true false differ = refl

-- a text that isn't another one is told from it
apart : (text word : List ℕ) → (text ≡ word → ⊥) → bytes_eq text word ≡ false
apart text word differ = not_true (bytes_eq text word) (λ yes. differ ((bytes_eq-Decides text word).0 yes))

no_then : {A : Type 0} (test : Bool) (one other : A) → test ≡ false → (if test then one else other) ≡ other
no_then test one other is = ap (λ (b : Bool). if b then one else other) is

-- the word of no command
pub is_no_command : (text : List ℕ) → (text ≡ codes "replay" → ⊥) → (text ≡ codes "decode" → ⊥) → (text ≡ codes "load" → ⊥)
    → (text ≡ codes "live" → ⊥) → (text ≡ codes "filter" → ⊥) → (text ≡ codes "midi" → ⊥) → (text ≡ codes "control" → ⊥)
    → command_of text ≡ None
unfolding command_of
is_no_command text no_replay no_decode no_load no_live no_filter no_midi no_control =
    no_then (bytes_eq text (codes "replay")) _ _ (apart text (codes "replay") no_replay)
    ∙ no_then (bytes_eq text (codes "decode")) _ _ (apart text (codes "decode") no_decode)
    ∙ no_then (bytes_eq text (codes "load")) _ _ (apart text (codes "load") no_load)
    ∙ no_then (bytes_eq text (codes "live")) _ _ (apart text (codes "live") no_live)
    ∙ no_then (bytes_eq text (codes "filter")) _ _ (apart text (codes "filter") no_filter)
    ∙ no_then (bytes_eq text (codes "midi")) _ _ (apart text (codes "midi") no_midi)
    ∙ no_then (bytes_eq text (codes "control")) _ _ (apart text (codes "control") no_control)

-- words that begin with a command's word name it
pub begun_is : (words : List (String Global)) (named : CommandName) → BeginsBy named words → named_by words ≡ Some named
unfolding named_by
begun_is [] named (rest, is) = cc
begun_is (word ∷ words) named (rest, is) = is_command (string_bytes word) named (ap (λ (xs : List (List ℕ)). get_or xs 0 []) is)

-- the command of a text, by which words it is
of_tests : (text : List ℕ) (replay decode load live filter midi control : Bool) (named : CommandName) → bytes_eq text (codes "replay") ≡ replay
    → bytes_eq text (codes "decode") ≡ decode → bytes_eq text (codes "load") ≡ load → bytes_eq text (codes "live") ≡ live
    → bytes_eq text (codes "filter") ≡ filter → bytes_eq text (codes "midi") ≡ midi → bytes_eq text (codes "control") ≡ control
    → (if replay then Some name.Replay else if decode then Some name.Decode else if load then Some name.Load else if live then Some name.Live
    else if filter then Some name.Filter else if midi then Some name.Midi else if control then Some name.Control else None) ≡ Some named
    → text ≡ word_of named
of_tests text true decode load live filter midi control named r d l v f m c is =
    subst (λ (n : CommandName). text ≡ word_of n) (some_one is) ((bytes_eq-Decides text (codes "replay")).0 r)
of_tests text false true load live filter midi control named r d l v f m c is =
    subst (λ (n : CommandName). text ≡ word_of n) (some_one is) ((bytes_eq-Decides text (codes "decode")).0 d)
of_tests text false false true live filter midi control named r d l v f m c is =
    subst (λ (n : CommandName). text ≡ word_of n) (some_one is) ((bytes_eq-Decides text (codes "load")).0 l)
of_tests text false false false true filter midi control named r d l v f m c is =
    subst (λ (n : CommandName). text ≡ word_of n) (some_one is) ((bytes_eq-Decides text (codes "live")).0 v)
of_tests text false false false false true midi control named r d l v f m c is =
    subst (λ (n : CommandName). text ≡ word_of n) (some_one is) ((bytes_eq-Decides text (codes "filter")).0 f)
of_tests text false false false false false true control named r d l v f m c is =
    subst (λ (n : CommandName). text ≡ word_of n) (some_one is) ((bytes_eq-Decides text (codes "midi")).0 m)
of_tests text false false false false false false true named r d l v f m c is =
    subst (λ (n : CommandName). text ≡ word_of n) (some_one is) ((bytes_eq-Decides text (codes "control")).0 c)
of_tests text false false false false false false false named r d l v f m c is = cc

-- and words that name a command begin with its word
pub begins : (words : List (String Global)) (named : CommandName) → named_by words ≡ Some named → BeginsBy named words
unfolding named_by command_of
begins [] named is = cc
begins (word ∷ words) named is = (
  map string_bytes words,
  ap (λ (text : List ℕ). text ∷ map string_bytes words)
      (of_tests (string_bytes word) _ _ _ _ _ _ _ named refl refl refl refl refl refl refl is),
)
