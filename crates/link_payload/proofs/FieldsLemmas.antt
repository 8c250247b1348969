-- Whole states, pings and pongs: how many bytes they have.
use Rattle.std.proofs.Common.{◌≡◌, ℕ, ℤ, pos, negsuc, ◌+◌, ◌^◌, ◌≤ℤ◌, List, length, Bool, true, false, if◌then◌else◌, is_some, Option, Some, None, w64, refl, ap, ◌∙◌, length-append, arith}
use Rattle.std.specs.Int.RustNames.{FitsSigned}
use Rattle.std.proofs.lemmas.Int.{ints}
use Rattle.lk_base.specs.declared.endpoint.Endpoint.{Endpoint}
use Rattle.lk_base.specs.declared.ids.NodeId.{NodeId}
use Rattle.link_payload.specs.declared.fields.PeerFields.{PeerFields}
use Rattle.link_payload.specs.declared.fields.PingFields.{PingFields}
use Rattle.link_payload.specs.Entries.{spelled_number_of, spelled_entry_of}
use Rattle.link_payload.specs.Fields.{IsStored}
use Rattle.link_payload.specs.Spelling.{spelled_timeline_of, spelled_start_of, spelled_endpoint_of, spelled_endpoint_entry_of, spelled_state_of, spelled_previous_entry_of, spelled_ping_of, spelled_pong_of}
use Rattle.link_payload.proofs.SpellingLemmas.{length-timeline, length-start, length-endpoint}
use Rattle.link_payload.proofs.ValueLemmas.{number_length}

pub fits-mpb : (z : ℤ) → pos 1 ≤ℤ z → z ≤ℤ pos (2 ^ 31) → FitsSigned w64 z
fits-mpb (pos n) low high = omega (arith, ints)
fits-mpb (negsuc n) low high = omega (arith, ints)

length-entry : (key : ℕ) (value : List ℕ) → length (spelled_entry_of key value) ≡ 8 + length value
unfolding spelled_entry_of
length-entry key value = simp length-append (omega arith)

length-endpoint-entry : (o : Option Endpoint) → length (spelled_endpoint_entry_of o) ≡ (if is_some o then 14 else 0)
unfolding spelled_endpoint_entry_of
length-endpoint-entry None = refl
length-endpoint-entry (Some e) = length-entry 0x6d657034 (spelled_endpoint_of e) ∙ ap (λ (n : ℕ). 8 + n) (length-endpoint e)

with_endpoint : (test : Bool) → 73 + (if test then 14 else 0) ≡ (if test then 87 else 73)
with_endpoint true = refl
with_endpoint false = refl

pub length-state : (f : PeerFields) → IsStored f → length (spelled_state_of f) ≡ (if is_some f.endpoint then 87 else 73)
unfolding spelled_state_of
length-state f stored =
    let t = length-entry 0x746d6c6e (spelled_timeline_of f.timeline) in
    let s = length-entry 0x73657373 f.session.0 in
    let r = length-entry 0x73747374 (spelled_start_of f.start) in
    let all : length (spelled_state_of f) ≡ 73 + length (spelled_endpoint_entry_of f.endpoint) =
    simp length-append (omega (arith, t, s, r, length-timeline f.timeline, length-start f.start, stored.session)) in
    all ∙ ap (λ (n : ℕ). 73 + n) (length-endpoint-entry f.endpoint) ∙ with_endpoint (is_some f.endpoint)

length-previous-entry : (o : Option ℤ) → 16 + length (spelled_previous_entry_of o) ≡ (if is_some o then 32 else 16)
unfolding spelled_previous_entry_of
length-previous-entry None = refl
length-previous-entry (Some time) = ap (λ (n : ℕ). 16 + n) (length-entry 0x5f706774 (spelled_number_of time) ∙ ap (λ (n : ℕ). 8 + n) (number_length time))

pub length-ping : (p : PingFields) → length (spelled_ping_of p) ≡ (if is_some p.previous then 32 else 16)
unfolding spelled_ping_of
length-ping p =
    let h = length-entry 0x5f5f6874 (spelled_number_of p.host) in
    let all : length (spelled_ping_of p) ≡ 16 + length (spelled_previous_entry_of p.previous) = simp length-append (omega (arith, h, number_length p.host)) in
    all ∙ length-previous-entry p.previous

pub length-pong : (session : NodeId) (ghost_time : ℤ) (echo : List ℕ) → length session.0 ≡ 8 → length (spelled_pong_of session ghost_time echo) ≡ 32 + length echo
unfolding spelled_pong_of
length-pong session ghost_time echo len =
    let s = length-entry 0x73657373 session.0 in
    let g = length-entry 0x5f5f6774 (spelled_number_of ghost_time) in
    simp length-append (omega (arith, s, g, len, number_length ghost_time))
