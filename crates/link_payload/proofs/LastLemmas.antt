-- Walks that keep the last value of each key.
use Rattle.std.proofs.Common.{◌≡◌, ℕ, Bool, true, false, cond, eqb, List, [], ◌∷◌, ◌++◌, length, map, filter, Option, Some, None, Result, Ok, Err, ◌||◌, ◌&&◌, not, refl, sym, ap, ◌∙◌, arith}
use Rattle.std.specs.Option.{option_map}
use Rattle.std.specs.List.{find, last_or}
use Rattle.std.proofs.lemmas.Bool.Decides.{nat_tests}
use Rattle.std.proofs.lemmas.List.{append-nil}
use Rattle.link_payload.specs.declared.entry.Entry.{Entry}
use Rattle.link_payload.specs.declared.fault.PayloadFault.{PayloadFault}
use Rattle.link_payload.specs.declared.fault.PayloadFault.TheVariants.{Cut, WrongSize}
use Rattle.link_payload.specs.declared.last.Keys.{Keys}
use Rattle.link_payload.specs.declared.last.KeySize.{KeySize}
use Rattle.link_payload.specs.Entries.{EntryValue, AreEntriesIn, AreBytes}
use Rattle.link_payload.specs.Items.{Item, ok_item, item_value, items_at}
use Rattle.link_payload.specs.Fields.{answer_of, has_other_size, size_fault_of, cut_fault_of}
use Rattle.link_payload.specs.Last.{LastBytes, HasSize, HaveSizes, key_sizes_of, last_bytes_in, last_answer_of, later_of, last_bytes_after}
use Rattle.link_payload.proofs.WalkLemmas.{spelled_items, cut_items}

abbrev pub some_fault : PayloadFault → Option PayloadFault
some_fault fault = Some fault

abbrev pub wrong_size : EntryValue → PayloadFault
wrong_size e = WrongSize e.key (length e.value)

-- what a walk gives, from values that it has already
pub walked : Keys → LastBytes → List Item → Result LastBytes PayloadFault
walked keys values [] = Ok values
walked keys values (Err fault ∷ items) = Err fault
walked keys values (Ok e ∷ items) =
    cond (has_other_size (key_sizes_of keys) e) (Err (wrong_size e)) (walked keys (last_bytes_after keys e values) items)

pub walked-end : (keys : Keys) (values : LastBytes) → walked keys values [] ≡ Ok values
unfolding walked
walked-end keys values = refl

pub walked-fault : (keys : Keys) (values : LastBytes) (fault : PayloadFault) (items : List Item) → walked keys values (Err fault ∷ items) ≡ Err fault
unfolding walked
walked-fault keys values fault items = refl

pub walked-wrong : (keys : Keys) (values : LastBytes) (e : EntryValue) (items : List Item) → has_other_size (key_sizes_of keys) e ≡ true
    → walked keys values (ok_item e ∷ items) ≡ Err (wrong_size e)
unfolding walked
walked-wrong keys values e items is = rw is refl

pub walked-on : (keys : Keys) (values : LastBytes) (e : EntryValue) (items : List Item) → has_other_size (key_sizes_of keys) e ≡ false
    → walked keys values (ok_item e ∷ items) ≡ walked keys (last_bytes_after keys e values) items
unfolding walked
walked-on keys values e items is = rw is refl

walked-cond : (keys : Keys) (values : LastBytes) (e : EntryValue) (items : List Item)
    → walked keys values (ok_item e ∷ items) ≡ cond (has_other_size (key_sizes_of keys) e) (Err (wrong_size e)) (walked keys (last_bytes_after keys e values) items)
unfolding walked
walked-cond keys values e items = refl

abbrev pub no_bytes : LastBytes
no_bytes = record { first = None; second = None; third = None; fourth = None }

-- the last value of a key, or the one before
last_from : ℕ → Option (List ℕ) → List EntryValue → Option (List ℕ)
last_from key value es = last_or value (map (λ e. e.value) (filter (λ e. eqb e.key key) es))

abbrev last_of : Keys → LastBytes → List EntryValue → LastBytes
last_of keys values es = record {
  first = last_from keys.first.key values.first es;
  second = last_from keys.second.key values.second es;
  third = last_from keys.third.key values.third es;
  fourth = last_from keys.fourth.key values.fourth es;
}

one_later : (b : Bool) (e : EntryValue) (value : Option (List ℕ)) (es : List EntryValue)
    → last_or (cond b (Some e.value) value) (map (λ e. e.value) es) ≡ last_or value (map (λ e. e.value) (cond b (e ∷ es) es))
one_later true e value es = refl
one_later false e value es = refl

later-is : (known : KeySize) (e : EntryValue) (value : Option (List ℕ)) (es : List EntryValue) → last_from known.key (later_of known e value) es ≡ last_from known.key value (e ∷ es)
unfolding last_from
later-is known e value es = one_later (eqb e.key known.key) e value (filter (λ e. eqb e.key known.key) es)

values_with : Option (List ℕ) → Option (List ℕ) → Option (List ℕ) → Option (List ℕ) → LastBytes
values_with first second third fourth = record { first = first; second = second; third = third; fourth = fourth }

last-after : (keys : Keys) (values : LastBytes) (e : EntryValue) (es : List EntryValue) → last_of keys (last_bytes_after keys e values) es ≡ last_of keys values (e ∷ es)
last-after keys values e es =
    let first = later-is keys.first e values.first es in
    let second = later-is keys.second e values.second es in
    let third = later-is keys.third e values.third es in
    let fourth = later-is keys.fourth e values.fourth es in
    cc

from_nil : (keys : Keys) (values : LastBytes) → last_of keys values [] ≡ values
unfolding last_from
from_nil keys values = refl

abbrev pub answer : List EntryValue → Option ℕ → Keys → LastBytes → Result LastBytes PayloadFault
answer es cut keys values = answer_of (size_fault_of (key_sizes_of keys) es ∷ cut_fault_of cut ∷ []) values

by_test : (b : Bool) (e : EntryValue) (found : Option EntryValue) (cut : Option PayloadFault) (values : LastBytes) (rest : Result LastBytes PayloadFault)
    → rest ≡ answer_of (option_map wrong_size found ∷ cut ∷ []) values
    → cond b (Err (wrong_size e)) rest ≡ answer_of (option_map wrong_size (cond b (Some e) found) ∷ cut ∷ []) values
by_test true e found cut values rest is = refl
by_test false e found cut values rest is = is

abbrev cut_item_of : Option ℕ → List Item
cut_item_of None = []
cut_item_of (Some n) = Err (Cut n) ∷ []

walked_all : (keys : Keys) (values : LastBytes) (es : List EntryValue) (cut : Option ℕ)
    → walked keys values (map ok_item es ++ cut_item_of cut) ≡ answer es cut keys (last_of keys values es)
walked_all keys values [] None = walked-end keys values ∙ ap (answer [] None keys) (sym (from_nil keys values))
walked_all keys values [] (Some n) = walked-fault keys values (Cut n) []
walked_all keys values (e ∷ es) cut =
    let others = walked_all keys (last_bytes_after keys e values) es cut in
    let same = ap (answer es cut keys) (last-after keys values e es) in
    walked-cond keys values e (map ok_item es ++ cut_item_of cut)
    ∙ by_test (has_other_size (key_sizes_of keys) e) e (find (has_other_size (key_sizes_of keys)) es) (cut_fault_of cut) (last_of keys values (e ∷ es)) _ (others ∙ same)

all_items : (bytes : List ℕ) (es : List EntryValue) (cut : Option ℕ) → AreBytes bytes → AreEntriesIn bytes es cut → items_at 0 bytes ≡ map ok_item es ++ cut_item_of cut
all_items bytes es None are_bytes entries = spelled_items bytes es entries ∙ sym (append-nil (map ok_item es))
all_items bytes es (Some n) are_bytes entries = cut_items bytes n es are_bytes entries

from_none : (keys : Keys) (es : List EntryValue) → last_of keys no_bytes es ≡ last_bytes_in keys es
unfolding last_from
from_none keys es = refl

pub walked_answer : (keys : Keys) (bytes : List ℕ) (es : List EntryValue) (cut : Option ℕ) → AreBytes bytes → AreEntriesIn bytes es cut
    → walked keys no_bytes (items_at 0 bytes) ≡ last_answer_of keys es cut
unfolding last_answer_of
walked_answer keys bytes es cut are_bytes entries =
    ap (walked keys no_bytes) (all_items bytes es cut are_bytes entries) ∙ walked_all keys no_bytes es cut ∙ ap (answer es cut keys) (from_none keys es)

-- ---- sizes

none_of_two : (a b : Bool) → (a || b) ≡ false → (a ≡ false) × (b ≡ false)
none_of_two true b is = absurd cc
none_of_two false b is = (refl, is)

size_by : (known : KeySize) (e : EntryValue) (value : Option (List ℕ)) (same : Bool) → (same && not (eqb (length e.value) known.size)) ≡ false
    → HasSize known value → HasSize known (cond same (Some e.value) value)
size_by known e value true is size = grind (arith, nat_tests)
size_by known e value false is size = size

pub sizes_after : (keys : Keys) (values : LastBytes) (e : EntryValue) → has_other_size (key_sizes_of keys) e ≡ false → HaveSizes keys values → HaveSizes keys (last_bytes_after keys e values)
sizes_after keys values e is sizes =
    let one = none_of_two _ _ is in
    let two = none_of_two _ _ one.1 in
    let three = none_of_two _ _ two.1 in
    let four = none_of_two _ _ three.1 in
    record {
      first = size_by keys.first e values.first (eqb e.key keys.first.key) one.0 sizes.first;
      second = size_by keys.second e values.second (eqb e.key keys.second.key) two.0 sizes.second;
      third = size_by keys.third e values.third (eqb e.key keys.third.key) three.0 sizes.third;
      fourth = size_by keys.fourth e values.fourth (eqb e.key keys.fourth.key) four.0 sizes.fourth;
    }

-- ---- one turn of the walk

pub chosen_fault : (test : Bool) (fault found : PayloadFault) → some_fault found ≡ cond test (Some fault) None → (test ≡ true) × (found ≡ fault)
chosen_fault true fault found is = (refl, cc)
chosen_fault false fault found is = absurd cc

pub no_fault_chosen : (test : Bool) (fault : PayloadFault) → None ≡ cond test (some_fault fault) None → test ≡ false
no_fault_chosen true fault is = absurd cc
no_fault_chosen false fault is = refl

-- what was given, as an item
pub gave : (item made : Result Entry PayloadFault) (all others : List Item) → all ≡ item_value item ∷ others → item ≡ made → all ≡ item_value made ∷ others
gave item made all others gives is = gives ∙ ap (λ (i : Result Entry PayloadFault). item_value i ∷ others) is
