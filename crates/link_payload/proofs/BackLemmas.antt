-- What is written of tidy fields is read again.
use Rattle.std.proofs.Common.{◌≡◌, ℕ, ℤ, pos, ◌^◌, ◌<◌, ◌≤ℤ◌, List, [], ◌∷◌, ◌++◌, length, Option, Some, None, IfSome, Ok, refl, sym, ap, ◌∙◌, append_assoc, append-nil, lit<, arith, unwrap_or}
use Rattle.std.specs.List.{AllByRecursion}
use Rattle.std.specs.Option.{option_map}
use Rattle.std.proofs.lemmas.Bool.Decides.{nat_tests}
use Rattle.std.proofs.lemmas.Int.{ints}
use Rattle.lk_base.specs.Ranges.{IsWithinLimit}
use Rattle.lk_base.specs.declared.endpoint.Endpoint.{Endpoint}
use Rattle.lk_base.specs.declared.ids.NodeId.{NodeId}
use Rattle.link_payload.specs.declared.fields.PeerFields.{PeerFields}
use Rattle.link_payload.specs.declared.fields.PingFields.{PingFields}
use Rattle.link_payload.specs.declared.fields.PongFields.{PongFields}
use Rattle.link_payload.specs.Entries.{EntryValue, IsEntry, Spells, spelled_number_of, spelled_entry_of, spelled_entries_of}
use Rattle.lk_base.specs.Endpoint.{IsEndpoint}
use Rattle.link_payload.specs.Fields.{IsStored, IsTidyFields, IsTidyPing, number_in, endpoint_in, last_value_of, size_fault_of, mpb_fault_of, limit_fault_of, state_keys, pong_keys, state_of, pong_of, state_answer_of, pong_answer_of, echoing}
use Rattle.link_payload.specs.Spelling.{spelled_timeline_of, spelled_start_of, spelled_endpoint_of, spelled_endpoint_entry_of, spelled_state_of, spelled_previous_entry_of, spelled_ping_of, spelled_pong_of}
use Rattle.link_payload.proofs.NumberLemmas.{fits-within}
use Rattle.link_payload.proofs.FieldsLemmas.{fits-mpb}
use Rattle.link_payload.proofs.SpellingLemmas.{length-timeline, length-start, length-endpoint}
use Rattle.link_payload.proofs.ValueLemmas.{number_length, number_again, timeline_again, start_again, endpoint_again}
use Rattle.link_payload.proofs.AnswerLemmas.{fields_parts, tried_state, pong_parts, tried_pong}

-- ---- numbers in range

mpb_is_taken : (key : ℕ) (z : ℤ) → pos 1 ≤ℤ z → z ≤ℤ pos (2 ^ 31) → mpb_fault_of key z ≡ None
mpb_is_taken key z low high = grind (arith, ints, nat_tests)

limit_is_taken : (key : ℕ) (z : ℤ) → IsWithinLimit z → limit_fault_of key z ≡ None
limit_is_taken key z within = grind (arith, nat_tests)

least_mpb : (z : ℤ) → pos 60_060 ≤ℤ z → pos 1 ≤ℤ z
least_mpb z low = omega (arith, ints)

greatest_mpb : (z : ℤ) → z ≤ℤ pos 3_000_000 → z ≤ℤ pos (2 ^ 31)
greatest_mpb z high = omega (arith, ints)

tidy_is_taken : (f : PeerFields) → IsTidyFields f → tried_state f ≡ Ok f
tidy_is_taken f tidy =
    let mpb = mpb_is_taken 0x746d6c6e f.timeline.mpb (least_mpb _ tidy.timeline.fastest) (greatest_mpb _ tidy.timeline.slowest) in
    let beat = limit_is_taken 0x746d6c6e f.timeline.beat tidy.timeline.beat in
    let time = limit_is_taken 0x746d6c6e f.timeline.time tidy.timeline.time in
    let beats = limit_is_taken 0x73747374 f.start.beats tidy.beats in
    let stamp = limit_is_taken 0x73747374 f.start.stamp tidy.stamp in
    rw (mpb, beat, time, beats, stamp) refl

-- ---- the parts of an answer

state_parts : (es : List EntryValue) (t s : List ℕ) (r o : Option (List ℕ)) (f : PeerFields) → size_fault_of state_keys es ≡ None
    → last_value_of 0x746d6c6e es ≡ Some t → last_value_of 0x73657373 es ≡ Some s → last_value_of 0x73747374 es ≡ r → last_value_of 0x6d657034 es ≡ o
    → state_of (Some t) (Some s) r o ≡ f → tried_state f ≡ Ok f → state_answer_of es None ≡ Ok f
unfolding state_answer_of
state_parts es t s r o f size t_is s_is r_is o_is f_is taken =
    rw (size, t_is, s_is, r_is, o_is) (ap tried_state f_is ∙ taken)

pong_by_parts : (es : List EntryValue) (s g : List ℕ) (h p : Option (List ℕ)) (f : PongFields) → size_fault_of pong_keys es ≡ None
    → last_value_of 0x73657373 es ≡ Some s → last_value_of 0x5f5f6774 es ≡ Some g → last_value_of 0x5f5f6874 es ≡ h → last_value_of 0x5f706774 es ≡ p
    → pong_of (Some s) (Some g) h p ≡ f → tried_pong f ≡ Ok f → pong_answer_of es None ≡ Ok f
unfolding pong_answer_of
pong_by_parts es s g h p f size s_is g_is h_is p_is f_is taken =
    rw (size, s_is, g_is, h_is, p_is) (ap tried_pong f_is ∙ taken)

abbrev entry : ℕ → List ℕ → EntryValue
entry key value = record { key = key; value = value }

-- ---- a state

abbrev endpoint_entries : Option Endpoint → List EntryValue
endpoint_entries None = []
endpoint_entries (Some e) = entry 0x6d657034 (spelled_endpoint_of e) ∷ []

abbrev pub state_entries : PeerFields → List EntryValue
state_entries f =
    entry 0x746d6c6e (spelled_timeline_of f.timeline)
    ∷ entry 0x73657373 f.session.0
    ∷ entry 0x73747374 (spelled_start_of f.start)
    ∷ endpoint_entries f.endpoint

is_entry : (key size : ℕ) (value : List ℕ) → key < 2 ^ 32 → length value ≡ size → size < 2 ^ 32 → IsEntry (entry key value)
is_entry key size value key_fits len size_fits = (key_fits, omega (arith, len, size_fits))

endpoint_each : (o : Option Endpoint) → AllByRecursion IsEntry (endpoint_entries o)
endpoint_each None = tt
endpoint_each (Some e) = (is_entry 0x6d657034 6 _ (lit< tt) (length-endpoint e) (lit< tt), tt)

endpoint_spelled : (o : Option Endpoint) → spelled_endpoint_entry_of o ≡ spelled_entries_of (endpoint_entries o)
unfolding spelled_endpoint_entry_of spelled_entries_of
endpoint_spelled None = refl
endpoint_spelled (Some e) = sym (append-nil (spelled_entry_of 0x6d657034 (spelled_endpoint_of e)))

state_spelled : (f : PeerFields) → spelled_state_of f ≡ spelled_entries_of (state_entries f)
unfolding spelled_state_of spelled_entries_of
state_spelled f =
    let a = spelled_entry_of 0x746d6c6e (spelled_timeline_of f.timeline) in
    let b = spelled_entry_of 0x73657373 f.session.0 in
    let c = spelled_entry_of 0x73747374 (spelled_start_of f.start) in
    append_assoc (a ++ b) c (spelled_endpoint_entry_of f.endpoint) ∙ append_assoc a b (c ++ spelled_endpoint_entry_of f.endpoint)
    ∙ ap (λ (bs : List ℕ). a ++ (b ++ (c ++ bs))) (endpoint_spelled f.endpoint)

pub state_spells : (f : PeerFields) → IsStored f → Spells (spelled_state_of f) (state_entries f)
state_spells f stored = record {
  each = (
    is_entry 0x746d6c6e 24 _ (lit< tt) (length-timeline f.timeline) (lit< tt),
    (
      is_entry 0x73657373 8 _ (lit< tt) stored.session (lit< tt),
      (is_entry 0x73747374 17 _ (lit< tt) (length-start f.start) (lit< tt), endpoint_each f.endpoint),
    ),
  );
  spelled = state_spelled f;
}

state_sizes : (t s r : List ℕ) (o : Option Endpoint) → length t ≡ 24 → length s ≡ 8 → length r ≡ 17
    → size_fault_of state_keys (entry 0x746d6c6e t ∷ entry 0x73657373 s ∷ entry 0x73747374 r ∷ endpoint_entries o) ≡ None
state_sizes t s r None t_len s_len r_len = rw (t_len, s_len, r_len) refl
state_sizes t s r (Some e) t_len s_len r_len = rw (t_len, s_len, r_len, length-endpoint e) refl

abbrev endpoint_value : Option Endpoint → Option (List ℕ)
endpoint_value o = option_map spelled_endpoint_of o

endpoint_last : (t s r : List ℕ) (o : Option Endpoint) → last_value_of 0x6d657034 (entry 0x746d6c6e t ∷ entry 0x73657373 s ∷ entry 0x73747374 r ∷ endpoint_entries o) ≡ endpoint_value o
endpoint_last t s r None = refl
endpoint_last t s r (Some e) = refl

others_last : (key : ℕ) (o : Option Endpoint) (t s r : List ℕ)
    → (last_value_of 0x746d6c6e (entry 0x746d6c6e t ∷ entry 0x73657373 s ∷ entry 0x73747374 r ∷ endpoint_entries o) ≡ Some t)
    × (last_value_of 0x73657373 (entry 0x746d6c6e t ∷ entry 0x73657373 s ∷ entry 0x73747374 r ∷ endpoint_entries o) ≡ Some s)
    × (last_value_of 0x73747374 (entry 0x746d6c6e t ∷ entry 0x73657373 s ∷ entry 0x73747374 r ∷ endpoint_entries o) ≡ Some r)
others_last key None t s r = (refl, refl, refl)
others_last key (Some e) t s r = (refl, refl, refl)

endpoint_back : (o : Option Endpoint) → IfSome o IsEndpoint → option_map endpoint_in (endpoint_value o) ≡ o
endpoint_back None fits = refl
endpoint_back (Some e) fits = ap (λ (x : Endpoint). Some x) (endpoint_again e fits)

state_back : (f : PeerFields) → IsStored f → IsTidyFields f
    → state_of (Some (spelled_timeline_of f.timeline)) (Some f.session.0) (Some (spelled_start_of f.start)) (endpoint_value f.endpoint) ≡ f
state_back f stored tidy =
    fields_parts _ _ _ _ _ _ _ _
    (timeline_again f.timeline
    (fits-mpb _ (least_mpb _ tidy.timeline.fastest) (greatest_mpb _ tidy.timeline.slowest)) (fits-within _ tidy.timeline.beat) (fits-within _ tidy.timeline.time))
    refl
    (start_again f.start (fits-within _ tidy.beats) (fits-within _ tidy.stamp))
    (endpoint_back f.endpoint stored.address)

pub state_read_back : (f : PeerFields) → IsStored f → IsTidyFields f → (es : List EntryValue) × Spells (spelled_state_of f) es × (state_answer_of es None ≡ Ok f)
state_read_back f stored tidy =
    let t = spelled_timeline_of f.timeline in
    let s = f.session.0 in
    let r = spelled_start_of f.start in
    let last = others_last 0 f.endpoint t s r in (
      state_entries f,
      state_spells f stored,
      state_parts (state_entries f) t s (Some r) (endpoint_value f.endpoint) f
          (state_sizes t s r f.endpoint (length-timeline f.timeline) stored.session (length-start f.start))
          last.0 last.1 last.2 (endpoint_last t s r f.endpoint) (state_back f stored tidy) (tidy_is_taken f tidy),
    )

-- ---- a pong

abbrev previous_entries : Option ℤ → List EntryValue
previous_entries None = []
previous_entries (Some time) = entry 0x5f706774 (spelled_number_of time) ∷ []

abbrev pong_entries : NodeId → ℤ → PingFields → List EntryValue
pong_entries session ghost_time ping =
    entry 0x73657373 session.0
    ∷ entry 0x5f5f6774 (spelled_number_of ghost_time)
    ∷ entry 0x5f5f6874 (spelled_number_of ping.host)
    ∷ previous_entries ping.previous

previous_each : (o : Option ℤ) → AllByRecursion IsEntry (previous_entries o)
previous_each None = tt
previous_each (Some time) = (is_entry 0x5f706774 8 _ (lit< tt) (number_length time) (lit< tt), tt)

previous_spelled : (o : Option ℤ) → spelled_previous_entry_of o ≡ spelled_entries_of (previous_entries o)
unfolding spelled_previous_entry_of spelled_entries_of
previous_spelled None = refl
previous_spelled (Some time) = sym (append-nil (spelled_entry_of 0x5f706774 (spelled_number_of time)))

pong_spelled : (session : NodeId) (ghost_time : ℤ) (ping : PingFields) → spelled_pong_of session ghost_time (spelled_ping_of ping) ≡ spelled_entries_of (pong_entries session ghost_time ping)
unfolding spelled_pong_of spelled_ping_of spelled_entries_of
pong_spelled session ghost_time ping =
    let a = spelled_entry_of 0x73657373 session.0 in
    let b = spelled_entry_of 0x5f5f6774 (spelled_number_of ghost_time) in
    let c = spelled_entry_of 0x5f5f6874 (spelled_number_of ping.host) in
    append_assoc a b (c ++ spelled_previous_entry_of ping.previous)
    ∙ ap (λ (bs : List ℕ). a ++ (b ++ (c ++ bs))) (previous_spelled ping.previous)

pong_spells : (session : NodeId) (ghost_time : ℤ) (ping : PingFields) → length session.0 ≡ 8 → Spells (spelled_pong_of session ghost_time (spelled_ping_of ping)) (pong_entries session ghost_time ping)
pong_spells session ghost_time ping len = record {
  each = (
    is_entry 0x73657373 8 _ (lit< tt) len (lit< tt),
    (
      is_entry 0x5f5f6774 8 _ (lit< tt) (number_length ghost_time) (lit< tt),
      (is_entry 0x5f5f6874 8 _ (lit< tt) (number_length ping.host) (lit< tt), previous_each ping.previous),
    ),
  );
  spelled = pong_spelled session ghost_time ping;
}

pong_sizes : (s g h : List ℕ) (o : Option ℤ) → length s ≡ 8 → length g ≡ 8 → length h ≡ 8
    → size_fault_of pong_keys (entry 0x73657373 s ∷ entry 0x5f5f6774 g ∷ entry 0x5f5f6874 h ∷ previous_entries o) ≡ None
pong_sizes s g h None s_len g_len h_len = rw (s_len, g_len, h_len) refl
pong_sizes s g h (Some time) s_len g_len h_len = rw (s_len, g_len, h_len, number_length time) refl

abbrev previous_value : Option ℤ → Option (List ℕ)
previous_value o = option_map spelled_number_of o

record AreLast (es : List EntryValue) (s g h : List ℕ) (p : Option (List ℕ)) : Type 0 where
  session : last_value_of 0x73657373 es ≡ Some s
  ghost_time : last_value_of 0x5f5f6774 es ≡ Some g
  host : last_value_of 0x5f5f6874 es ≡ Some h
  previous : last_value_of 0x5f706774 es ≡ p

pong_last : (s g h : List ℕ) (o : Option ℤ) → AreLast (entry 0x73657373 s ∷ entry 0x5f5f6774 g ∷ entry 0x5f5f6874 h ∷ previous_entries o) s g h (previous_value o)
pong_last s g h None = record { session = refl; ghost_time = refl; host = refl; previous = refl }
pong_last s g h (Some time) = record { session = refl; ghost_time = refl; host = refl; previous = refl }

number_back : (z : ℤ) → IsWithinLimit z → number_in (spelled_number_of z) ≡ z
number_back z within = ap number_in (sym (append-nil (spelled_number_of z))) ∙ number_again z [] (fits-within z within)

previous_back : (o : Option ℤ) → IfSome o IsWithinLimit → unwrap_or (option_map number_in (previous_value o)) (pos 0) ≡ unwrap_or o (pos 0)
previous_back None within = refl
previous_back (Some time) within = number_back time within

pong_back : (session : NodeId) (ghost_time : ℤ) (ping : PingFields) → IsWithinLimit ghost_time → IsTidyPing ping
    → pong_of (Some session.0) (Some (spelled_number_of ghost_time)) (Some (spelled_number_of ping.host)) (previous_value ping.previous) ≡ echoing session ghost_time ping
pong_back session ghost_time ping within tidy =
    pong_parts _ _ _ _ _ _ _ _ refl (number_back ghost_time within) (number_back ping.host tidy.host) (previous_back ping.previous tidy.previous)

previous_within : (o : Option ℤ) → IfSome o IsWithinLimit → IsWithinLimit (unwrap_or o (pos 0))
previous_within None within = omega (arith, ints)
previous_within (Some time) within = within

pong_is_taken : (session : NodeId) (ghost_time : ℤ) (ping : PingFields) → IsWithinLimit ghost_time → IsTidyPing ping
    → tried_pong (echoing session ghost_time ping) ≡ Ok (echoing session ghost_time ping)
pong_is_taken session ghost_time ping within tidy =
    let one = limit_is_taken 0x5f5f6774 ghost_time within in
    let two = limit_is_taken 0x5f5f6874 ping.host tidy.host in
    let three = limit_is_taken 0x5f706774 (unwrap_or ping.previous (pos 0)) (previous_within ping.previous tidy.previous) in
    rw (one, two, three) refl

pub pong_read_back : (session : NodeId) (ghost_time : ℤ) (ping : PingFields) → length session.0 ≡ 8 → IsWithinLimit ghost_time → IsTidyPing ping
    → (es : List EntryValue) × Spells (spelled_pong_of session ghost_time (spelled_ping_of ping)) es × (pong_answer_of es None ≡ Ok (echoing session ghost_time ping))
pong_read_back session ghost_time ping len within tidy =
    let g = spelled_number_of ghost_time in
    let h = spelled_number_of ping.host in
    let es = pong_entries session ghost_time ping in
    let last = pong_last session.0 g h ping.previous in (
      es,
      pong_spells session ghost_time ping len,
      pong_by_parts es session.0 g (Some h) (previous_value ping.previous) (echoing session ghost_time ping)
          (pong_sizes session.0 g h ping.previous len (number_length ghost_time) (number_length ping.host))
          last.session last.ghost_time last.host last.previous (pong_back session ghost_time ping within tidy) (pong_is_taken session ghost_time ping within tidy),
    )
