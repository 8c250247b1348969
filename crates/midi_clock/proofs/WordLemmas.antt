-- What the words in the places say, and which values are given to options.
use Rattle.std.proofs.Common.{◌≡◌, ℕ, suc, ◌+◌, ◌<◌, ◌≤◌, inl, inr, true, false, List, [], ◌∷◌, ◌++◌, length, map, take, drop, get_or, Option, Some, None, IfSome, MatchOption, codes, unsigned_abs, to_z, w64, lit≤, ◌^◌, sym, refl, ap, subst, ◌∙◌, arith}
use denote.Ref.{Bor}
use Rattle.std.specs.List.{slice_get}
use Rattle.std.specs.Slice.{IsItemAt}
use Rattle.std.specs.Str.{bytes_eq}
use Rattle.std.specs.String.{string_bytes}
use Rattle.std.specs.declared.alloc.Global.{Global}
use Rattle.std.specs.declared.string.String.{String}
use Rattle.std.proofs.lemmas.Int.{to_z_pos}
use Rattle.std.proofs.lemmas.List.{drop-drop, drop-map, drop_all, drop_more, get_or-drop, length-drop, length-map, map_push, take_more}
use Rattle.std.proofs.lemmas.Option.{get_or_from_slice_get, none-some, slice_get_within}
use Rattle.std.proofs.lemmas.Slice.Eq.{bytes_eq-Decides}
use Rattle.lk_base.specs.declared.endpoint.Endpoint.{Endpoint}
use Rattle.link_lines.specs.Words.{endpoint_text_of}
use Rattle.midi_clock.specs.Words.{SaysNumber, SaysOption, SaysQuantum, SaysTempo, is_option, places_of, values_of}

-- ---- what is left of words

-- it begins with the word that is next
pub from_word : (words : List (String Global)) (at : ℕ) (item : String Global) (word : List ℕ) → at < length words → item ≡ get_or words at item
    → word ≡ string_bytes item → drop at (map string_bytes words) ≡ word ∷ drop (at + 1) (map string_bytes words)
from_word words at item word within is spelled =
    drop-map string_bytes at words
    ∙ ap (map string_bytes) (drop_more words at item within)
    ∙ ap (λ (w : List ℕ). w ∷ map string_bytes (drop (at + 1) words)) (sym (spelled ∙ ap string_bytes is))
    ∙ ap (λ (l : List (List ℕ)). word ∷ l) (sym (drop-map string_bytes (at + 1) words))

pub no_word : (words : List (String Global)) (at : ℕ) → length words ≤ at → drop at (map string_bytes words) ≡ []
no_word words at past = drop_all at (map string_bytes words) (omega (arith, length-map words string_bytes))

-- the word behind another, empty where that comes last
pub word_behind : (words : List (String Global)) (at : ℕ) (found : Option (Bor (String Global))) (value : List ℕ) → IsItemAt words at found
    → MatchOption found (value ≡ []) (λ item. value ≡ string_bytes item.now) → value ≡ get_or (drop at (map string_bytes words)) 0 []
word_behind words at None value item is =
    is ∙ sym (ap (λ (l : List (List ℕ)). get_or l 0 []) (no_word words at item.3))
word_behind words at (Some found) value item is =
    is ∙ sym (ap (λ (l : List (List ℕ)). get_or l 0 []) (from_word words at found.now (string_bytes found.now) item.3.0 item.1 refl))

-- ---- entries of a list that are passed one by one

-- the entry with a number is the one with the number that is left, counted from what is left of the list
pub record Counts (all rest : List (List ℕ)) (number left : ℕ) : Type 0 where
  pub entry : slice_get all number ≡ slice_get rest left
  pub past : length all + left ≡ length rest + number

pub counts_same : (all rest later : List (List ℕ)) (number left : ℕ) → Counts all rest number left → rest ≡ later → Counts all later number left
counts_same all rest later number left counts is = subst (λ (l : List (List ℕ)). Counts all l number left) is counts

pub counts_more : (all rest later : List (List ℕ)) (number left less : ℕ) (word : List ℕ) → Counts all rest number left → rest ≡ word ∷ later
    → left ≡ suc less → Counts all later number less
counts_more all rest later number left less word counts is some = record {
  entry = counts.entry ∙ ap (λ (l : List (List ℕ)). slice_get l left) is ∙ ap (slice_get (word ∷ later)) some;
  past = omega (arith, counts.past, ap length is, some);
}

pub counts_here : (all rest later : List (List ℕ)) (number left : ℕ) (word : List ℕ) → Counts all rest number left → rest ≡ word ∷ later
    → left ≡ 0 → slice_get all number ≡ Some word
counts_here all rest later number left word counts is none =
    counts.entry ∙ ap (λ (l : List (List ℕ)). slice_get l left) is ∙ ap (slice_get (word ∷ later)) none

pub counts_all : (all rest : List (List ℕ)) (number left : ℕ) → Counts all rest number left → rest ≡ [] → length all ≤ number
counts_all all rest number left counts is = omega (arith, counts.past, ap length is)

-- ---- options

-- neither the name of an option nor its value is in a place
pub places_behind : (word : List ℕ) (words : List (List ℕ)) → is_option word ≡ true → places_of (word ∷ words) ≡ places_of (drop 1 words)
unfolding places_of
places_behind word [] named = rw named
places_behind word (next ∷ words) named = rw named

pub places_more : (word : List ℕ) (words : List (List ℕ)) → is_option word ≡ false → places_of (word ∷ words) ≡ word ∷ places_of words
unfolding places_of
places_more word [] other = rw other
places_more word (next ∷ words) other = rw other

is_named : (name word : List ℕ) → is_option name ≡ true → bytes_eq word name ≡ true → is_option word ≡ true
is_named name word named same = ap is_option ((bytes_eq-Decides word name).0 same) ∙ named

values_more : (name word : List ℕ) (words : List (List ℕ)) → is_option name ≡ true → bytes_eq word name ≡ true
    → values_of name (word ∷ words) ≡ get_or words 0 [] ∷ values_of name (drop 1 words)
unfolding values_of
values_more name word [] named same = rw same
values_more name word (next ∷ words) named same = rw (is_named name word named same, same)

-- with the value that stands behind the name
pub values_with : (name word value : List ℕ) (words : List (List ℕ)) (at : ℕ) → drop at words ≡ word ∷ drop (at + 1) words
    → is_option name ≡ true → bytes_eq word name ≡ true → value ≡ get_or (drop (at + 1) words) 0 []
    → values_of name (drop at words) ≡ value ∷ values_of name (drop (at + 1 + 1) words)
values_with name word value words at here named same is =
    ap (values_of name) here ∙ values_more name word (drop (at + 1) words) named same
    ∙ ap (λ (l : List (List ℕ)). get_or (drop (at + 1) words) 0 [] ∷ values_of name l) (drop-drop 1 (at + 1) words)
    ∙ ap (λ (text : List ℕ). text ∷ values_of name (drop (at + 1 + 1) words)) (sym is)

-- the option of another name
pub values_behind : (name word : List ℕ) (words : List (List ℕ)) → bytes_eq word name ≡ false → is_option word ≡ true
    → values_of name (word ∷ words) ≡ values_of name (drop 1 words)
unfolding values_of
values_behind name word [] other named = rw other
values_behind name word (next ∷ words) other named = rw (named, other)

-- a word in a place
pub values_past : (name word : List ℕ) (words : List (List ℕ)) → bytes_eq word name ≡ false → is_option word ≡ false
    → values_of name (word ∷ words) ≡ values_of name words
unfolding values_of
values_past name word [] other free = rw other
values_past name word (next ∷ words) other free = rw free

-- ---- the number of an option

pub is_once : (values : List (List ℕ)) (text : List ℕ) → slice_get values 0 ≡ Some text → length values ≤ 1 → values ≡ text ∷ []
is_once [] text is few = absurd (none-some text is)
is_once (value ∷ []) text is few = cc
is_once (value ∷ next ∷ values) text is few = absurd (omega (arith, few))

-- a number that its one value says, it says
pub once_says : (words : List (List ℕ)) (name text : List ℕ) (most default : ℕ) (number : Option ℕ) → values_of name words ≡ text ∷ []
    → IfSome number (SaysNumber text 0 most) → IfSome number (SaysOption words name most default)
once_says words name text most default None once says = tt
once_says words name text most default (Some n) once says = inr (text, once, says)

option_most : (words : List (List ℕ)) (name : List ℕ) (most default n : ℕ) → default ≤ most → SaysOption words name most default n → n ≤ most
option_most words name most default n fits (inl absent) = omega (arith, fits, absent.1)
option_most words name most default n fits (inr given) = given.2.to

-- a signed number is the same, where it is small
signed_back : (n : ℕ) → n < 2 ^ 63 → unsigned_abs (to_z w64 n) ≡ n
signed_back n small = ap unsigned_abs (to_z_pos w64 n small)

pub tempo_signed : (text : List ℕ) (n : ℕ) → SaysTempo text n → SaysTempo text (unsigned_abs (to_z w64 n))
tempo_signed text n says = subst (SaysTempo text) (sym (signed_back n (omega (arith, says.to)))) says

pub quantum_signed : (words : List (List ℕ)) (n : ℕ) → SaysQuantum words n → SaysQuantum words (unsigned_abs (to_z w64 n))
quantum_signed words n says =
    subst (SaysQuantum words) (sym (signed_back n (omega (arith, option_most words (codes "--quantum") (2 ^ 40) 4_000_000 n (lit≤ tt) says)))) says

-- ---- peers

pub one_more_peer : (places : List (List ℕ)) (word : List ℕ) (peers peers_then : List Endpoint) (peer : Endpoint) (k : ℕ) → slice_get places (3 + k) ≡ Some word
    → word ≡ endpoint_text_of peer → peers_then ≡ peers ++ peer ∷ [] → map endpoint_text_of peers ≡ take k (drop 3 places)
    → map endpoint_text_of peers_then ≡ take (k + 1) (drop 3 places)
one_more_peer places word peers peers_then peer k here spelled pushed so_far =
    let within : k < length (drop 3 places) = omega (arith, length-drop 3 places, slice_get_within places (3 + k) word here) in
    let read : get_or (drop 3 places) k word ≡ word = get_or-drop 3 places k word ∙ get_or_from_slice_get places (3 + k) word word here in
    ap (map endpoint_text_of) pushed
    ∙ map_push endpoint_text_of peers peer
    ∙ ap (λ (l : List (List ℕ)). l ++ endpoint_text_of peer ∷ []) so_far
    ∙ ap (λ (text : List ℕ). take k (drop 3 places) ++ text ∷ []) (sym (read ∙ spelled))
    ∙ sym (take_more (drop 3 places) k word within)

-- ---- the words together

pub four_parts : (places rest : List (List ℕ)) (first second third : List ℕ) → slice_get places 0 ≡ Some first → slice_get places 1 ≡ Some second
    → slice_get places 2 ≡ Some third → drop 3 places ≡ rest → places ≡ first ∷ second ∷ third ∷ rest
four_parts [] rest first second third a b c d = absurd (none-some first a)
four_parts (x ∷ []) rest first second third a b c d = absurd (none-some second b)
four_parts (x ∷ y ∷ []) rest first second third a b c d = absurd (none-some third c)
four_parts (x ∷ y ∷ z ∷ places) rest first second third a b c d = cc
