-- What values are read as: by their parts, and as they are spelled.
use Rattle.std.proofs.Common.{◌≡◌, ℕ, ℤ, ◌^◌, ◌<◌, Bool, true, false, not, nat_eq, if◌then◌else◌, List, [], ◌++◌, length, get_or, take, drop, w64, refl, sym, ap, ap₂, ◌∙◌, append_assoc, append-nil, lit<}
use Rattle.std.specs.Int.{cast_signed, cast_unsigned}
use Rattle.std.specs.Int.RustNames.{FitsSigned}
use Rattle.std.proofs.lemmas.Int.{to_z-of_z}
use Rattle.std.proofs.lemmas.List.{drop_at, drop-drop, get_or-take}
use Rattle.byteorder.specs.Endian.{big_bytes, big_number}
use Rattle.byteorder.specs.Numbers.{big_number-reads_back}
use Rattle.lk_base.specs.declared.endpoint.Endpoint.{Endpoint}
use Rattle.lk_base.specs.declared.start.SessionStart.{SessionStart}
use Rattle.lk_base.specs.declared.timeline.Timeline.{Timeline}
use Rattle.link_payload.specs.Entries.{spelled_number_of}
use Rattle.lk_base.specs.Endpoint.{IsEndpoint}
use Rattle.link_payload.specs.Fields.{number_in, timeline_in, start_in, endpoint_in}
use Rattle.link_payload.specs.Spelling.{spelled_timeline_of, spelled_start_of, spelled_endpoint_of}
use Rattle.link_payload.proofs.NumberLemmas.{bits-lt}
use Rattle.link_payload.proofs.StateLemmas.{stored, timeline_with, start_with, endpoint_with}

pub number_length : (z : ℤ) → length (spelled_number_of z) ≡ 8
unfolding spelled_number_of
number_length z = refl

-- a number that is spelled is read again, whatever follows
pub number_again : (z : ℤ) (rest : List ℕ) → FitsSigned w64 z → number_in (spelled_number_of z ++ rest) ≡ z
unfolding spelled_number_of
number_again z rest fits =
    ap (cast_signed w64) (big_number-reads_back 8 (cast_unsigned w64 z) rest (bits-lt z fits)) ∙ to_z-of_z w64 z fits

-- bytes that begin with a number
pub number_first : (bytes rest : List ℕ) (z : ℤ) → FitsSigned w64 z → bytes ≡ spelled_number_of z ++ rest → number_in bytes ≡ z
number_first bytes rest z fits is = ap number_in is ∙ number_again z rest fits

pub after_number : (bytes rest : List ℕ) (z : ℤ) → bytes ≡ spelled_number_of z ++ rest → drop 8 bytes ≡ rest
after_number bytes rest z is = ap (drop 8) is ∙ drop_at (spelled_number_of z) rest 8 (number_length z)

timeline_parts : (mpb beat time mpb' beat' time' : ℤ) → mpb ≡ mpb' → beat ≡ beat' → time ≡ time' → timeline_with mpb beat time ≡ timeline_with mpb' beat' time'
timeline_parts mpb beat time mpb' beat' time' e f g = rw (e, f, g) refl

-- a timeline that is read number by number
pub timeline_is : (value after_mpb after_beat after_time : List ℕ) (mpb beat time : ℤ)
    → value ≡ spelled_number_of mpb ++ after_mpb → after_mpb ≡ spelled_number_of beat ++ after_beat
    → after_beat ≡ spelled_number_of time ++ after_time
    → FitsSigned w64 mpb → FitsSigned w64 beat → FitsSigned w64 time
    → record { mpb = mpb; beat = beat; time = time } ≡ timeline_in value
unfolding timeline_in
timeline_is value after_mpb after_beat after_time mpb beat time e f g mpb_fits beat_fits time_fits =
    let first = after_number value after_mpb mpb e in
    let second = sym (drop-drop 8 8 value) ∙ ap (drop 8) first ∙ after_number after_mpb after_beat beat f in
    timeline_parts _ _ _ _ _ _
    (sym (number_first value after_mpb mpb mpb_fits e))
    (sym (ap number_in first ∙ number_first after_mpb after_beat beat beat_fits f))
    (sym (ap number_in second ∙ number_first after_beat after_time time time_fits g))

pub timeline_again : (t : Timeline) → FitsSigned w64 t.mpb → FitsSigned w64 t.beat → FitsSigned w64 t.time → timeline_in (spelled_timeline_of t) ≡ t
unfolding spelled_timeline_of
timeline_again t mpb_fits beat_fits time_fits =
    sym (timeline_is (spelled_timeline_of t) _ _ [] t.mpb t.beat t.time
    (append_assoc (spelled_number_of t.mpb) (spelled_number_of t.beat) (spelled_number_of t.time)) refl (sym (append-nil (spelled_number_of t.time)))
    mpb_fits beat_fits time_fits)

start_parts : (playing playing' : Bool) (beats stamp beats' stamp' : ℤ) → playing ≡ playing' → beats ≡ beats' → stamp ≡ stamp' → start_with playing beats stamp ≡ start_with playing' beats' stamp'
start_parts playing playing' beats stamp beats' stamp' e f g = rw (e, f, g) refl

-- a start whose first byte is split off
pub start_is : (value front after_playing after_beats after_stamp : List ℕ) (beats stamp : ℤ)
    → front ≡ take 1 value → after_playing ≡ drop 1 value → after_playing ≡ spelled_number_of beats ++ after_beats → after_beats ≡ spelled_number_of stamp ++ after_stamp
    → FitsSigned w64 beats → FitsSigned w64 stamp
    → record { playing = not (nat_eq (get_or front 0 0) 0); beats = beats; stamp = stamp } ≡ start_in value
unfolding start_in
start_is value front after_playing after_beats after_stamp beats stamp front_is after_is e f beats_fits stamp_fits =
    let byte = ap (λ (bs : List ℕ). get_or bs 0 0) front_is ∙ get_or-take 1 value 0 0 (lit< tt) in
    let first = after_number after_playing after_beats beats e in
    let second = sym (drop-drop 8 1 value) ∙ ap (drop 8) (sym after_is) ∙ first in
    start_parts _ _ _ _ _ _
    (ap (λ (b : ℕ). not (nat_eq b 0)) byte)
    (sym (ap number_in (sym after_is) ∙ number_first after_playing after_beats beats beats_fits e))
    (sym (ap number_in second ∙ number_first after_beats after_stamp stamp stamp_fits f))

playing_byte_again : (playing : Bool) → not (nat_eq (if playing then 1 else 0) 0) ≡ playing
playing_byte_again true = refl
playing_byte_again false = refl

pub start_again : (s : SessionStart) → FitsSigned w64 s.beats → FitsSigned w64 s.stamp → start_in (spelled_start_of s) ≡ s
unfolding spelled_start_of
start_again s beats_fits stamp_fits =
    let spelled = spelled_number_of s.beats ++ spelled_number_of s.stamp in
    sym (start_is (spelled_start_of s) (take 1 (spelled_start_of s)) spelled (spelled_number_of s.stamp) [] s.beats s.stamp refl refl refl (sym (append-nil (spelled_number_of s.stamp))) beats_fits stamp_fits)
    ∙ start_parts _ _ _ _ _ _ (playing_byte_again s.playing) refl refl

pub endpoint_is : (value after_addr after_port : List ℕ) (addr port : ℕ) → value ≡ big_bytes 4 addr ++ after_addr → after_addr ≡ big_bytes 2 port ++ after_port
    → addr < 2 ^ 32 → port < 2 ^ 16 → record { addr = addr; port = port } ≡ endpoint_in value
unfolding endpoint_in
endpoint_is value after_addr after_port addr port e f addr_fits port_fits =
    let first = ap (big_number 4) e ∙ big_number-reads_back 4 addr after_addr addr_fits in
    let rest = ap (drop 4) e ∙ drop_at (big_bytes 4 addr) after_addr 4 refl in
    let second = ap (big_number 2) (rest ∙ f) ∙ big_number-reads_back 2 port after_port port_fits in
    ap₂ endpoint_with (sym first) (sym second)

pub endpoint_again : (e : Endpoint) → IsEndpoint e → endpoint_in (spelled_endpoint_of e) ≡ e
unfolding spelled_endpoint_of
endpoint_again e fits =
    sym (endpoint_is (spelled_endpoint_of e) (big_bytes 2 e.port) [] e.addr e.port refl (sym (append-nil (big_bytes 2 e.port))) fits.0 fits.1)

-- ---- numbers as code stores them

pub stored_timeline : (mpb beat time : ℤ) → FitsSigned w64 mpb → FitsSigned w64 beat → FitsSigned w64 time
    → record { mpb = stored mpb; beat = stored beat; time = stored time } ≡ timeline_with mpb beat time
stored_timeline mpb beat time e f g = timeline_parts _ _ _ _ _ _ (to_z-of_z w64 mpb e) (to_z-of_z w64 beat f) (to_z-of_z w64 time g)

pub stored_start : (playing : Bool) (beats stamp : ℤ) → FitsSigned w64 beats → FitsSigned w64 stamp
    → record { playing = playing; beats = stored beats; stamp = stored stamp } ≡ start_with playing beats stamp
stored_start playing beats stamp e f = start_parts _ _ _ _ _ _ refl (to_z-of_z w64 beats e) (to_z-of_z w64 stamp f)
