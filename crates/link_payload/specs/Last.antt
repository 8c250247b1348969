-- Only for proofs: a walk that keeps the last value of each of four keys, and the answers by what it kept. What readers
-- answer is said in `Fields`.
use Rattle.std.specs.Prelude.{◌≡◌, ◌==◌, ℕ, List, [], ◌∷◌, length, if◌then◌else◌, Option, Some, IfSome, Result, Ok, Err}
use Rattle.std.specs.Option.{option_copied}
use Rattle.link_payload.specs.declared.fault.PayloadFault.{PayloadFault}
use Rattle.link_payload.specs.declared.fields.PeerFields.{PeerFields}
use Rattle.link_payload.specs.declared.fields.PongFields.{PongFields}
use Rattle.link_payload.specs.declared.last.Keys.{Keys}
use Rattle.link_payload.specs.declared.last.KeySize.{KeySize}
use Rattle.link_payload.specs.declared.last.LastValues.{LastValues}
use Rattle.link_payload.specs.Entries.{EntryValue}
use Rattle.link_payload.specs.Fields.{answer_of, last_value_of, size_fault_of, cut_fault_of, missing_fault_of, state_of, state_range_faults_of, pong_of, pong_range_faults_of}

-- last values without where they lie in memory
pub record LastBytes : Type 0 where
  pub first : Option (List ℕ)
  pub second : Option (List ℕ)
  pub third : Option (List ℕ)
  pub fourth : Option (List ℕ)

abbrev pub last_bytes_of : LastValues → LastBytes
last_bytes_of last = record {
  first = option_copied last.first;
  second = option_copied last.second;
  third = option_copied last.third;
  fourth = option_copied last.fourth;
}

-- what a walk gave
abbrev pub walk_of : Result LastValues PayloadFault → Result LastBytes PayloadFault
walk_of (Ok last) = Ok (last_bytes_of last)
walk_of (Err fault) = Err fault

-- each key with the size of its values
abbrev pub key_sizes_of : Keys → List (ℕ × ℕ)
key_sizes_of keys =
    (keys.first.key, keys.first.size)
    ∷ (keys.second.key, keys.second.size)
    ∷ (keys.third.key, keys.third.size)
    ∷ (keys.fourth.key, keys.fourth.size)
    ∷ []

-- the last value of each key
abbrev pub last_bytes_in : Keys → List EntryValue → LastBytes
last_bytes_in keys es = record {
  first = last_value_of keys.first.key es;
  second = last_value_of keys.second.key es;
  third = last_value_of keys.third.key es;
  fourth = last_value_of keys.fourth.key es;
}

-- the last values, unless a value has another size than its key, or an entry is cut
unfoldable pub last_answer_of : Keys → List EntryValue → Option ℕ → Result LastBytes PayloadFault
last_answer_of keys es cut = answer_of (size_fault_of (key_sizes_of keys) es ∷ cut_fault_of cut ∷ []) (last_bytes_in keys es)

-- so many bytes, where there is a value
abbrev pub HasLen : ℕ → Option (List ℕ) → Type 0
HasLen size value = IfSome value (λ bytes. length bytes ≡ size)

abbrev pub HasSize : KeySize → Option (List ℕ) → Type 0
HasSize known value = HasLen known.size value

-- each value has the size of its key
pub record HaveSizes (keys : Keys) (values : LastBytes) : Type 0 where
  pub first : HasSize keys.first values.first
  pub second : HasSize keys.second values.second
  pub third : HasSize keys.third values.third
  pub fourth : HasSize keys.fourth values.fourth

-- a later value of a key
abbrev pub later_of : KeySize → EntryValue → Option (List ℕ) → Option (List ℕ)
later_of known e value = if e.key == known.key then Some e.value else value

-- the values after one more entry
abbrev pub last_bytes_after : Keys → EntryValue → LastBytes → LastBytes
last_bytes_after keys e values = record {
  first = later_of keys.first e values.first;
  second = later_of keys.second e values.second;
  third = later_of keys.third e values.third;
  fourth = later_of keys.fourth e values.fourth;
}

-- the values of `tmln`, `sess`, `stst` and `mep4` as a state
unfoldable pub state_by_values : Option (List ℕ) → Option (List ℕ) → Option (List ℕ) → Option (List ℕ) → Result PeerFields PayloadFault
state_by_values timeline session start endpoint =
    let fields = state_of timeline session start endpoint in
    answer_of (missing_fault_of 0x746d6c6e timeline ∷ missing_fault_of 0x73657373 session ∷ state_range_faults_of fields) fields

-- the values of `sess`, `__gt`, `__ht` and `_pgt` as a pong
unfoldable pub pong_by_values : Option (List ℕ) → Option (List ℕ) → Option (List ℕ) → Option (List ℕ) → Result PongFields PayloadFault
pong_by_values session ghost_time host previous =
    let fields = pong_of session ghost_time host previous in
    answer_of (missing_fault_of 0x73657373 session ∷ missing_fault_of 0x5f5f6774 ghost_time ∷ pong_range_faults_of fields) fields
