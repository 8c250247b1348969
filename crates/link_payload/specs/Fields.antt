-- Which fields are taken off the wire, and what entries answer.
use Rattle.std.specs.Prelude.{◌≡◌, ◌^◌, ◌==◌, ◌&&◌, ℕ, ℤ, pos, ◌≤ℤ◌, int_le, nat_le, unsigned_abs, Bool, not, false, if◌then◌else◌, List, [], ◌∷◌, length, map, filter, drop, slice_index, Option, Some, None, IfSome, option_map, unwrap_or, Result, Ok, Err}
use Rattle.std.specs.Int.{w64, cast_signed}
use Rattle.std.specs.List.{find, last_or, list_any}
use Rattle.byteorder.specs.Endian.{big_number}
use Rattle.lk_base.specs.Endpoint.{IsEndpoint}
use Rattle.lk_base.specs.Ranges.{IsWithinLimit}
use Rattle.lk_base.specs.Timeline.{IsTidy}
use Rattle.lk_base.specs.declared.endpoint.Endpoint.{Endpoint}
use Rattle.lk_base.specs.declared.ids.NodeId.{NodeId}
use Rattle.lk_base.specs.declared.start.SessionStart.{SessionStart}
use Rattle.lk_base.specs.declared.timeline.Timeline.{Timeline}
use Rattle.link_payload.specs.declared.fault.PayloadFault.{PayloadFault}
use Rattle.link_payload.specs.declared.fault.PayloadFault.TheVariants.{Cut, WrongSize, Missing, OutOfRange}
use Rattle.link_payload.specs.declared.fields.PeerFields.{PeerFields}
use Rattle.link_payload.specs.declared.fields.PingFields.{PingFields}
use Rattle.link_payload.specs.declared.fields.PongFields.{PongFields}
use Rattle.link_payload.specs.Entries.{EntryValue}

-- the numbers are in the ranges that are taken off the wire
pub record AreInRange (f : PeerFields) : Type 0 where
  pub least_mpb : pos 1 ≤ℤ f.timeline.mpb
  pub greatest_mpb : f.timeline.mpb ≤ℤ pos (2 ^ 31)
  pub beat : IsWithinLimit f.timeline.beat
  pub time : IsWithinLimit f.timeline.time
  pub beats : IsWithinLimit f.start.beats
  pub stamp : IsWithinLimit f.start.stamp

-- the times of a pong are in the range that is taken off the wire
pub record AreTimesInRange (f : PongFields) : Type 0 where
  pub ghost_time : IsWithinLimit f.ghost_time
  pub host : IsWithinLimit f.host
  pub previous : IsWithinLimit f.previous

-- ---- the numbers in values

-- the signed number in the first eight bytes
abbrev pub number_in : List ℕ → ℤ
number_in bytes = cast_signed w64 (big_number 8 bytes)

-- Rule: The entry `tmln` has the microseconds per beat, the beat origin and the time origin.
unfoldable pub timeline_in : List ℕ → Timeline
timeline_in value = record { mpb = number_in value; beat = number_in (drop 8 value); time = number_in (drop 16 value) }

-- Rule: The entry `stst` has the playing byte, of which any but 0 means playing, the beats and the stamp.
unfoldable pub start_in : List ℕ → SessionStart
start_in value = record { playing = not (slice_index value 0 == 0); beats = number_in (drop 1 value); stamp = number_in (drop 9 value) }

-- the address in four bytes, the port in two
unfoldable pub endpoint_in : List ℕ → Endpoint
endpoint_in value = record { addr = big_number 4 value; port = big_number 2 (drop 4 value) }

-- ---- the first fault that applies

-- Rule: Of a payload's faults the first is told: a known key of another size, a cut, a missing key, a number out of range.
abbrev pub answer_of : {A : Type 0} → List (Option PayloadFault) → A → Result A PayloadFault
answer_of [] answer = Ok answer
answer_of (None ∷ faults) answer = answer_of faults answer
answer_of (Some fault ∷ faults) answer = Err fault

-- Rule: Of several entries of one key the last counts.
abbrev pub last_value_of : ℕ → List EntryValue → Option (List ℕ)
last_value_of key es = last_or None (map (λ e. e.value) (filter (λ e. e.key == key) es))

-- the key is among those known, each with the size of its values, and the value has another size
abbrev pub has_other_size : List (ℕ × ℕ) → EntryValue → Bool
has_other_size known e = list_any (λ k. (e.key == k.0) && not (length e.value == k.1)) known

-- the first entry of a known key with another size
abbrev pub size_fault_of : List (ℕ × ℕ) → List EntryValue → Option PayloadFault
size_fault_of known es = option_map (λ e. WrongSize e.key (length e.value)) (find (has_other_size known) es)

abbrev pub cut_fault_of : Option ℕ → Option PayloadFault
cut_fault_of cut = option_map (λ n. Cut n) cut

-- Rule: A state needs `tmln` and `sess`, and a pong needs `sess` and `__gt`; a missing key is a fault.
abbrev pub missing_fault_of : ℕ → Option (List ℕ) → Option PayloadFault
missing_fault_of key None = Some (Missing key)
missing_fault_of key (Some value) = None

-- Rule: A tempo on the wire is from 1 to 2^31 microseconds per beat; another is a fault.
abbrev pub mpb_fault_of : ℕ → ℤ → Option PayloadFault
mpb_fault_of key z = if int_le (pos 1) z && int_le z (pos (2 ^ 31)) then None else Some (OutOfRange key z)

-- Rule: A beat, time or stamp on the wire that is not within 2^60 of 0 is a fault.
abbrev pub limit_fault_of : ℕ → ℤ → Option PayloadFault
limit_fault_of key z = if nat_le (unsigned_abs z) (2 ^ 60) then None else Some (OutOfRange key z)

-- ---- a state

-- Rule: A state has the entries `tmln` of 24 bytes, `sess` of 8, `stst` of 17 and `mep4` of 6.
abbrev pub state_keys : List (ℕ × ℕ)
state_keys = (0x746d6c6e, 24) ∷ (0x73657373, 8) ∷ (0x73747374, 17) ∷ (0x6d657034, 6) ∷ []

-- Rule: A state without the entry `stst` is stopped, with zeros; one without `mep4` has no endpoint.
abbrev pub no_start : SessionStart
no_start = record { playing = false; beats = pos 0; stamp = pos 0 }

-- the fields by the values of `tmln`, `sess`, `stst` and `mep4`
abbrev pub state_of : Option (List ℕ) → Option (List ℕ) → Option (List ℕ) → Option (List ℕ) → PeerFields
state_of timeline session start endpoint = record {
  timeline = timeline_in (unwrap_or timeline []);
  session = record { 0 = unwrap_or session [] };
  start = unwrap_or (option_map start_in start) no_start;
  endpoint = option_map endpoint_in endpoint;
}

-- what is wrong with the numbers, in the order in which they are tried
abbrev pub state_range_faults_of : PeerFields → List (Option PayloadFault)
state_range_faults_of f =
    mpb_fault_of 0x746d6c6e f.timeline.mpb
    ∷ limit_fault_of 0x746d6c6e f.timeline.beat
    ∷ limit_fault_of 0x746d6c6e f.timeline.time
    ∷ limit_fault_of 0x73747374 f.start.beats
    ∷ limit_fault_of 0x73747374 f.start.stamp
    ∷ []

-- Rule: The entries of a state stand in any order, as those of a pong do, and entries of unknown keys are passed over.
-- what complete entries, and perhaps a cut at a place, answer as a state
unfoldable pub state_answer_of : List EntryValue → Option ℕ → Result PeerFields PayloadFault
state_answer_of es cut =
    let timeline = last_value_of 0x746d6c6e es in
    let session = last_value_of 0x73657373 es in
    let fields = state_of timeline session (last_value_of 0x73747374 es) (last_value_of 0x6d657034 es) in
    answer_of (
    size_fault_of state_keys es
    ∷ cut_fault_of cut
    ∷ missing_fault_of 0x746d6c6e timeline
    ∷ missing_fault_of 0x73657373 session
    ∷ state_range_faults_of fields
    ) fields

-- ---- a pong

-- Rule: A pong has the entries `sess`, `__gt`, `__ht` and `_pgt`, of 8 bytes each.
abbrev pub pong_keys : List (ℕ × ℕ)
pong_keys = (0x73657373, 8) ∷ (0x5f5f6774, 8) ∷ (0x5f5f6874, 8) ∷ (0x5f706774, 8) ∷ []

-- Rule: A pong carries the responder's ghost time, the host time of its ping and the ping's ghost time; either of the last two is 0 where
-- it is missing.
-- the fields by the values of `sess`, `__gt`, `__ht` and `_pgt`
abbrev pub pong_of : Option (List ℕ) → Option (List ℕ) → Option (List ℕ) → Option (List ℕ) → PongFields
pong_of session ghost_time host previous = record {
  session = record { 0 = unwrap_or session [] };
  ghost_time = number_in (unwrap_or ghost_time []);
  host = unwrap_or (option_map number_in host) (pos 0);
  previous = unwrap_or (option_map number_in previous) (pos 0);
}

-- what is wrong with the numbers, in the order in which they are tried
abbrev pub pong_range_faults_of : PongFields → List (Option PayloadFault)
pong_range_faults_of f =
    limit_fault_of 0x5f5f6774 f.ghost_time
    ∷ limit_fault_of 0x5f5f6874 f.host
    ∷ limit_fault_of 0x5f706774 f.previous
    ∷ []

-- what complete entries, and perhaps a cut at a place, answer as a pong
unfoldable pub pong_answer_of : List EntryValue → Option ℕ → Result PongFields PayloadFault
pong_answer_of es cut =
    let session = last_value_of 0x73657373 es in
    let ghost_time = last_value_of 0x5f5f6774 es in
    let fields = pong_of session ghost_time (last_value_of 0x5f5f6874 es) (last_value_of 0x5f706774 es) in
    answer_of (
    size_fault_of pong_keys es
    ∷ cut_fault_of cut
    ∷ missing_fault_of 0x73657373 session
    ∷ missing_fault_of 0x5f5f6774 ghost_time
    ∷ pong_range_faults_of fields
    ) fields

-- ---- what is written and read again

-- an id of eight bytes, and an endpoint of four bytes and two: both hold of all fields in code
pub record IsStored (f : PeerFields) : Type 0 where
  pub session : length f.session.0 ≡ 8
  pub address : IfSome f.endpoint IsEndpoint

-- the timeline is tidy, and the beats and the stamp are within the limit
pub record IsTidyFields (f : PeerFields) : Type 0 where
  pub timeline : IsTidy f.timeline
  pub beats : IsWithinLimit f.start.beats
  pub stamp : IsWithinLimit f.start.stamp

-- both times are within the limit
pub record IsTidyPing (p : PingFields) : Type 0 where
  pub host : IsWithinLimit p.host
  pub previous : IfSome p.previous IsWithinLimit

-- a pong that echoes a ping
abbrev pub echoing : NodeId → ℤ → PingFields → PongFields
echoing session ghost_time ping = record { session = session; ghost_time = ghost_time; host = ping.host; previous = unwrap_or ping.previous (pos 0) }
