-- The items of a walk over bytes from entry to entry, and the entries and the cut that it finds. What they are for bytes
-- that spell entries, and for bytes that are cut, is said by the clauses of `entries` and of the law `spelled_or_cut`.
use Rattle.std.specs.Prelude.{◌+◌, ℕ, zero, suc, List, [], ◌∷◌, length, take, drop, nat_lt, if◌then◌else◌, Option, Some, None, option_map, unwrap_or, Result, Ok, Err}
use Rattle.byteorder.specs.Endian.{big_number}
use Rattle.link_payload.specs.declared.entry.Entry.{Entry}
use Rattle.link_payload.specs.declared.entry.EntryIter.{EntryIter}
use Rattle.link_payload.specs.declared.fault.PayloadFault.{PayloadFault}
use Rattle.link_payload.specs.declared.fault.PayloadFault.TheVariants.{Cut, WrongSize, Missing, OutOfRange}
use Rattle.link_payload.specs.Entries.{EntryValue}

-- an entry, or the fault that ends the walk
abbrev pub Item : Type 0
Item = Result EntryValue PayloadFault

abbrev pub ok_item : EntryValue → Item
ok_item e = Ok e

abbrev pub entry_value : Entry → EntryValue
entry_value e = record { key = e.key; value = e.value.now }

-- what an item of code says
abbrev pub item_value : Result Entry PayloadFault → Item
item_value (Ok e) = Ok (entry_value e)
item_value (Err fault) = Err fault

-- the value and the rest, where there are so many bytes
abbrev pub value_at_front : ℕ → ℕ → List ℕ → Option (EntryValue × List ℕ)
value_at_front key size rest =
    if nat_lt (length rest) size then None else Some (record { key = key; value = take size rest }, drop size rest)

-- the entry that bytes begin with, and the bytes after it
unfoldable pub entry_at_front : List ℕ → Option (EntryValue × List ℕ)
entry_at_front bytes =
    if nat_lt (length bytes) 8 then None
    else value_at_front (big_number 4 (take 4 bytes)) (big_number 4 (take 4 (drop 4 bytes))) (drop 4 (drop 4 bytes))

-- the items of bytes that begin at a place, where fuel is at least their number
unfoldable pub items_from : ℕ → ℕ → List ℕ → List Item
items_from fuel place [] = []
items_from zero place (b ∷ bytes) = []
items_from (suc fuel) place (b ∷ bytes) =
    unwrap_or (option_map (λ found. Ok found.0 ∷ items_from fuel (place + 8 + length found.0.value) found.1) (entry_at_front (b ∷ bytes))) (Err (Cut place) ∷ [])

-- the items of bytes that begin at a place
abbrev pub items_at : ℕ → List ℕ → List Item
items_at place bytes = items_from (length bytes) place bytes

-- the complete entries among items
abbrev pub entries_among : List Item → List EntryValue
entries_among [] = []
entries_among (Ok e ∷ items) = e ∷ entries_among items
entries_among (Err fault ∷ items) = entries_among items

-- the place of a cut
abbrev pub cut_place_of : PayloadFault → Option ℕ
cut_place_of (Cut place) = Some place
cut_place_of (WrongSize key size) = None
cut_place_of (Missing key) = None
cut_place_of (OutOfRange key value) = None

-- where items are cut
abbrev pub cut_among : List Item → Option ℕ
cut_among [] = None
cut_among (Ok e ∷ items) = cut_among items
cut_among (Err fault ∷ items) = cut_place_of fault

-- the complete entries of a payload, in order
unfoldable pub entries_of : List ℕ → List EntryValue
entries_of payload = entries_among (items_at 0 payload)

-- the place of the entry that passes the end of a payload, if there is one
unfoldable pub cut_of : List ℕ → Option ℕ
cut_of payload = cut_among (items_at 0 payload)

-- the items that an iterator has left
abbrev pub items_left_of : EntryIter → List Item
items_left_of s = items_at s.at s.rest.now
