-- What words are the parts of, and which parts have a name.
use Rattle.std.proofs.Common.{◌≡◌, ℕ, suc, ◌+◌, ◌<◌, ◌≤◌, Bool, true, false, List, [], ◌∷◌, if◌then◌else◌, length, map, filter, drop, get_or, Option, Some, None, MatchOption, sym, refl, ap, subst, ◌∙◌, arith}
use denote.Ref.{Bor}
use Rattle.std.specs.List.{slice_get}
use Rattle.std.specs.Slice.{IsItemAt}
use Rattle.std.specs.String.{string_bytes}
use Rattle.std.specs.declared.alloc.Global.{Global}
use Rattle.std.specs.declared.string.String.{String}
use Rattle.std.proofs.lemmas.List.{drop-drop, drop-map, drop_all, drop_more, length-map}
use Rattle.std.proofs.lemmas.List.Sums.{count_by-le-length, length-filter}
use Rattle.std.proofs.lemmas.Option.{none-some}
use Rattle.session_server.specs.Words.{PartValue, is_flag, is_named, named_in, part, part_of, parts_of, takes_value}

-- ---- what is left of words

-- it begins with the word that is next
pub from_word : (words : List (String Global)) (at : ℕ) (item : String Global) (word : List ℕ) → at < length words → item ≡ get_or words at item
    → word ≡ string_bytes item → drop at (map string_bytes words) ≡ word ∷ drop (at + 1) (map string_bytes words)
from_word words at item word within is spelled =
    drop-map string_bytes at words
    ∙ ap (map string_bytes) (drop_more words at item within)
    ∙ ap (λ (w : List ℕ). w ∷ map string_bytes (drop (at + 1) words)) (sym (spelled ∙ ap string_bytes is))
    ∙ ap (λ (l : List (List ℕ)). word ∷ l) (sym (drop-map string_bytes (at + 1) words))

pub no_word : (words : List (String Global)) (at : ℕ) → length words ≤ at → drop at (map string_bytes words) ≡ []
no_word words at past = drop_all at (map string_bytes words) (omega (arith, length-map words string_bytes))

-- the word behind another, empty where that comes last
pub word_behind : (words : List (String Global)) (at : ℕ) (found : Option (Bor (String Global))) (value : List ℕ) → IsItemAt words at found
    → MatchOption found (value ≡ []) (λ item. value ≡ string_bytes item.now) → value ≡ get_or (drop at (map string_bytes words)) 0 []
word_behind words at None value item is =
    is ∙ sym (ap (λ (l : List (List ℕ)). get_or l 0 []) (no_word words at item.3))
word_behind words at (Some found) value item is =
    is ∙ sym (ap (λ (l : List (List ℕ)). get_or l 0 []) (from_word words at found.now (string_bytes found.now) item.3.0 item.1 refl))

-- ---- parts

parts_valued : (word : List ℕ) (words : List (List ℕ)) → takes_value word ≡ true
    → parts_of (word ∷ words) ≡ part word (get_or words 0 []) ∷ parts_of (drop 1 words)
unfolding parts_of part_of
parts_valued word [] valued = rw valued
parts_valued word (next ∷ words) valued = rw valued

parts_flagged : (word : List ℕ) (words : List (List ℕ)) → takes_value word ≡ false → is_flag word ≡ true
    → parts_of (word ∷ words) ≡ part word [] ∷ parts_of words
unfolding parts_of part_of
parts_flagged word [] bare flag = rw (bare, flag)
parts_flagged word (next ∷ words) bare flag = rw (bare, flag)

parts_placed : (word : List ℕ) (words : List (List ℕ)) → takes_value word ≡ false → is_flag word ≡ false
    → parts_of (word ∷ words) ≡ part [] word ∷ parts_of words
unfolding parts_of part_of
parts_placed word [] bare free = rw (bare, free)
parts_placed word (next ∷ words) bare free = rw (bare, free)

pub option_next : (words : List (List ℕ)) (at : ℕ) (word value : List ℕ) → drop at words ≡ word ∷ drop (at + 1) words → takes_value word ≡ true
    → value ≡ get_or (drop (at + 1) words) 0 [] → parts_of (drop at words) ≡ part word value ∷ parts_of (drop (at + 2) words)
option_next words at word value here valued is =
    let two : at + 1 + 1 ≡ at + 2 = omega arith in
    ap parts_of here
    ∙ parts_valued word (drop (at + 1) words) valued
    ∙ ap (λ (l : List (List ℕ)). part word (get_or (drop (at + 1) words) 0 []) ∷ parts_of l) (drop-drop 1 (at + 1) words)
    ∙ ap (λ (k : ℕ). part word (get_or (drop (at + 1) words) 0 []) ∷ parts_of (drop k words)) two
    ∙ ap (λ (text : List ℕ). part word text ∷ parts_of (drop (at + 2) words)) (sym is)

pub flag_next : (words : List (List ℕ)) (at : ℕ) (word : List ℕ) → drop at words ≡ word ∷ drop (at + 1) words → takes_value word ≡ false
    → is_flag word ≡ true → parts_of (drop at words) ≡ part word [] ∷ parts_of (drop (at + 1) words)
flag_next words at word here bare flag = ap parts_of here ∙ parts_flagged word (drop (at + 1) words) bare flag

pub place_next : (words : List (List ℕ)) (at : ℕ) (word : List ℕ) → drop at words ≡ word ∷ drop (at + 1) words → takes_value word ≡ false
    → is_flag word ≡ false → parts_of (drop at words) ≡ part [] word ∷ parts_of (drop (at + 1) words)
place_next words at word here bare free = ap parts_of here ∙ parts_placed word (drop (at + 1) words) bare free

-- ---- parts of a name, passed one by one

-- the entry with a number is the one with the number that is left, counted from what is left of the list
pub record Counts (all rest : List PartValue) (number left : ℕ) : Type 0 where
  pub entry : slice_get all number ≡ slice_get rest left
  pub past : length all + left ≡ length rest + number

named_more : (first second : List ℕ) (given : PartValue) (more : List PartValue) → is_named first second given ≡ true
    → filter (is_named first second) (given ∷ more) ≡ given ∷ filter (is_named first second) more
named_more first second given more named = rw named

named_past : (first second : List ℕ) (given : PartValue) (more : List PartValue) → is_named first second given ≡ false
    → filter (is_named first second) (given ∷ more) ≡ filter (is_named first second) more
named_past first second given more other = rw other

pub counts_same : (first second : List ℕ) (words : List (List ℕ)) (here there : List (List ℕ)) (given : PartValue) (number left : ℕ)
    → Counts (named_in first second words) (named_in first second here) number left → parts_of here ≡ given ∷ parts_of there
    → is_named first second given ≡ false → Counts (named_in first second words) (named_in first second there) number left
unfolding named_in
counts_same first second words here there given number left counts is other =
    subst (λ (l : List PartValue). Counts (named_in first second words) l number left)
    (ap (filter (is_named first second)) is ∙ named_past first second given (parts_of there) other) counts

pub counts_more : (first second : List ℕ) (words : List (List ℕ)) (here there : List (List ℕ)) (given : PartValue) (number left less : ℕ)
    → Counts (named_in first second words) (named_in first second here) number left → parts_of here ≡ given ∷ parts_of there
    → is_named first second given ≡ true → left ≡ suc less → Counts (named_in first second words) (named_in first second there) number less
unfolding named_in
counts_more first second words here there given number left less counts is named some =
    let next : named_in first second here ≡ given ∷ named_in first second there =
    ap (filter (is_named first second)) is ∙ named_more first second given (parts_of there) named in
    record {
      entry = counts.entry ∙ ap (λ (l : List PartValue). slice_get l left) next ∙ ap (slice_get (given ∷ named_in first second there)) some;
      past = omega (arith, counts.past, ap length next, some);
    }

pub counts_here : (first second : List ℕ) (words : List (List ℕ)) (here there : List (List ℕ)) (given : PartValue) (number left : ℕ)
    → Counts (named_in first second words) (named_in first second here) number left → parts_of here ≡ given ∷ parts_of there
    → is_named first second given ≡ true → left ≡ 0 → slice_get (named_in first second words) number ≡ Some given
unfolding named_in
counts_here first second words here there given number left counts is named none =
    let next : named_in first second here ≡ given ∷ named_in first second there =
    ap (filter (is_named first second)) is ∙ named_more first second given (parts_of there) named in
    counts.entry ∙ ap (λ (l : List PartValue). slice_get l left) next ∙ ap (slice_get (given ∷ named_in first second there)) none

pub counts_all : (first second : List ℕ) (words here : List (List ℕ)) (number left : ℕ)
    → Counts (named_in first second words) (named_in first second here) number left → here ≡ [] → length (named_in first second words) ≤ number
unfolding named_in parts_of
counts_all first second words here number left counts is = omega (arith, counts.past, ap (λ (l : List (List ℕ)). length (named_in first second l)) is)

pub is_sole : (all : List PartValue) (given : PartValue) → slice_get all 0 ≡ Some given → length all ≤ 1 → all ≡ given ∷ []
is_sole [] given is few = absurd (none-some given is)
is_sole (first ∷ []) given is few = cc
is_sole (first ∷ next ∷ more) given is few = absurd (omega (arith, few))

-- ---- there are no more parts than words

parts_fit : (words : List (List ℕ)) → length (parts_of words) ≤ length words
unfolding parts_of
parts_fit [] = omega arith
parts_fit (word ∷ []) = omega arith
parts_fit (word ∷ next ∷ words) = elim (takes_value word) as (λ (b : Bool). suc (length (if b then parts_of words else parts_of (next ∷ words))) ≤ suc (suc (length words))) [
  | true ↦ omega (arith, parts_fit words)
  | false ↦ omega (arith, parts_fit (next ∷ words))
]

filter_fits : (test : PartValue → Bool) (parts : List PartValue) → length (filter test parts) ≤ length parts
filter_fits test parts = omega (arith, length-filter test parts, count_by-le-length test parts)

pub named_fit : (first second : List ℕ) (words : List (List ℕ)) → length (named_in first second words) ≤ length words
unfolding named_in
named_fit first second words = omega (arith, filter_fits (is_named first second) (parts_of words), parts_fit words)
