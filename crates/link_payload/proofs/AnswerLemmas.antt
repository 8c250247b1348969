-- Answers by the last values.
use Rattle.std.proofs.Common.{◌≡◌, ℕ, ℤ, pos, List, [], ◌∷◌, Option, Some, None, Result, Ok, Err, w64, refl, sym, ap, ◌∙◌, unwrap_or}
use Rattle.std.specs.Int.RustNames.{FitsSigned}
use Rattle.std.specs.Option.{option_map}
use Rattle.std.proofs.lemmas.Int.{to_z-of_z}
use Rattle.lk_base.specs.declared.endpoint.Endpoint.{Endpoint}
use Rattle.lk_base.specs.declared.ids.NodeId.{NodeId}
use Rattle.lk_base.specs.declared.start.SessionStart.{SessionStart}
use Rattle.lk_base.specs.declared.timeline.Timeline.{Timeline}
use Rattle.lk_base.proofs.ByteLemmas.{id_with}
use Rattle.link_payload.specs.declared.fault.PayloadFault.{PayloadFault}
use Rattle.link_payload.specs.declared.fault.PayloadFault.TheVariants.{Missing}
use Rattle.link_payload.specs.declared.fields.PeerFields.{PeerFields}
use Rattle.link_payload.specs.declared.fields.PongFields.{PongFields}
use Rattle.link_payload.specs.declared.read.TheConstants.{STATE_KEYS, PONG_KEYS}
use Rattle.link_payload.specs.Entries.{EntryValue}
use Rattle.link_payload.specs.Fields.{number_in, timeline_in, start_in, endpoint_in, no_start, answer_of, size_fault_of, cut_fault_of, state_keys, pong_keys, state_of, pong_of, state_range_faults_of, pong_range_faults_of, state_answer_of, pong_answer_of}
use Rattle.link_payload.specs.Last.{LastBytes, last_bytes_in, last_answer_of, state_by_values, pong_by_values}
use Rattle.link_payload.proofs.StateLemmas.{stored}

abbrev pub missing : {A : Type 0} → ℕ → Result A PayloadFault
missing key = Err (Missing key)

-- ---- a state

pub state_without_timeline : (v s r e : Option (List ℕ)) → v ≡ None → missing 0x746d6c6e ≡ state_by_values v s r e
unfolding state_by_values
state_without_timeline v s r e is = rw is refl

pub state_without_session : (v s r e : Option (List ℕ)) (t : List ℕ) → v ≡ Some t → s ≡ None → missing 0x73657373 ≡ state_by_values v s r e
unfolding state_by_values
state_without_session v s r e t is none = rw (is, none) refl

abbrev pub fields_with : Timeline → NodeId → SessionStart → Option Endpoint → PeerFields
fields_with timeline session start endpoint = record { timeline = timeline; session = session; start = start; endpoint = endpoint }

pub fields_parts : (t t' : Timeline) (s s' : NodeId) (r r' : SessionStart) (o o' : Option Endpoint) → t ≡ t' → s ≡ s' → r ≡ r' → o ≡ o' → fields_with t s r o ≡ fields_with t' s' r' o'
fields_parts t t' s s' r r' o o' e f g h = rw (e, f, g, h) refl

abbrev pub tried_state : PeerFields → Result PeerFields PayloadFault
tried_state f = answer_of (state_range_faults_of f) f

state_with_both : (v w r e : Option (List ℕ)) (t s : List ℕ) → v ≡ Some t → w ≡ Some s → tried_state (state_of v w r e) ≡ state_by_values v w r e
unfolding state_by_values
state_with_both v w r e t s first second = rw (first, second) refl

pub state_tried : (v w r e : Option (List ℕ)) (t s : List ℕ) (timeline : Timeline) (session : NodeId) (start : SessionStart) (endpoint : Option Endpoint)
    → v ≡ Some t → w ≡ Some s → timeline ≡ timeline_in t → s ≡ session.0
    → start ≡ unwrap_or (option_map start_in r) no_start → endpoint ≡ option_map endpoint_in e
    → tried_state (fields_with timeline session start endpoint) ≡ state_by_values v w r e
state_tried v w r e t s timeline session start endpoint first second timeline_is session_is start_is endpoint_is =
    let one : timeline ≡ timeline_in (unwrap_or v []) = timeline_is ∙ ap (λ (o : Option (List ℕ)). timeline_in (unwrap_or o [])) (sym first) in
    let two : session ≡ id_with (unwrap_or w []) = ap id_with (sym session_is ∙ ap (λ (o : Option (List ℕ)). unwrap_or o []) (sym second)) in
    ap tried_state (fields_parts _ _ _ _ _ _ _ _ one two start_is endpoint_is) ∙ state_with_both v w r e t s first second

-- ---- a pong

pub pong_without_session : (v w h p : Option (List ℕ)) → v ≡ None → missing 0x73657373 ≡ pong_by_values v w h p
unfolding pong_by_values
pong_without_session v w h p is = rw is refl

pub pong_without_time : (v w h p : Option (List ℕ)) (s : List ℕ) → v ≡ Some s → w ≡ None → missing 0x5f5f6774 ≡ pong_by_values v w h p
unfolding pong_by_values
pong_without_time v w h p s is none = rw (is, none) refl

abbrev pub pong_with : NodeId → ℤ → ℤ → ℤ → PongFields
pong_with session ghost_time host previous = record { session = session; ghost_time = ghost_time; host = host; previous = previous }

pub pong_parts : (s s' : NodeId) (g g' h h' p p' : ℤ) → s ≡ s' → g ≡ g' → h ≡ h' → p ≡ p' → pong_with s g h p ≡ pong_with s' g' h' p'
pong_parts s s' g g' h h' p p' a b c d = rw (a, b, c, d) refl

abbrev pub tried_pong : PongFields → Result PongFields PayloadFault
tried_pong f = answer_of (pong_range_faults_of f) f

pong_with_both : (v w h p : Option (List ℕ)) (s g : List ℕ) → v ≡ Some s → w ≡ Some g → tried_pong (pong_of v w h p) ≡ pong_by_values v w h p
unfolding pong_by_values
pong_with_both v w h p s g first second = rw (first, second) refl

pub pong_tried : (v w h p : Option (List ℕ)) (s g : List ℕ) (session : NodeId) (ghost_time host previous : ℤ)
    → v ≡ Some s → w ≡ Some g → s ≡ session.0 → ghost_time ≡ number_in g
    → host ≡ unwrap_or (option_map number_in h) (pos 0) → previous ≡ unwrap_or (option_map number_in p) (pos 0)
    → FitsSigned w64 ghost_time → FitsSigned w64 host → FitsSigned w64 previous
    → tried_pong (pong_with session (stored ghost_time) (stored host) (stored previous)) ≡ pong_by_values v w h p
pong_tried v w h p s g session ghost_time host previous first second session_is ghost_time_is host_is previous_is ghost_time_fits host_fits previous_fits =
    let one : session ≡ id_with (unwrap_or v []) = ap id_with (sym session_is ∙ ap (λ (o : Option (List ℕ)). unwrap_or o []) (sym first)) in
    let two : stored ghost_time ≡ number_in (unwrap_or w []) = to_z-of_z w64 ghost_time ghost_time_fits ∙ ghost_time_is ∙ ap (λ (o : Option (List ℕ)). number_in (unwrap_or o [])) (sym second) in
    ap tried_pong (pong_parts _ _ _ _ _ _ _ _ one two (to_z-of_z w64 host host_fits ∙ host_is) (to_z-of_z w64 previous previous_fits ∙ previous_is))
    ∙ pong_with_both v w h p s g first second

-- ---- the answers, by a walk that keeps the last values

abbrev pub then_by : {A B : Type 0} → (B → Result A PayloadFault) → Result B PayloadFault → Result A PayloadFault
then_by f (Ok x) = f x
then_by f (Err fault) = Err fault

two_faults : {A B : Type 0} (a b : Option PayloadFault) (faults : List (Option PayloadFault)) (x : A) (y : B) (f : B → Result A PayloadFault)
    → f y ≡ answer_of faults x → answer_of (a ∷ b ∷ faults) x ≡ then_by f (answer_of (a ∷ b ∷ []) y)
two_faults None None faults x y f is = sym is
two_faults None (Some fault) faults x y f is = refl
two_faults (Some fault) b faults x y f is = refl

abbrev pub state_by_bytes : LastBytes → Result PeerFields PayloadFault
state_by_bytes last = state_by_values last.first last.second last.third last.fourth

abbrev pub pong_by_bytes : LastBytes → Result PongFields PayloadFault
pong_by_bytes last = pong_by_values last.first last.second last.third last.fourth

pub state_by_walk : (es : List EntryValue) (cut : Option ℕ) → then_by state_by_bytes (last_answer_of STATE_KEYS es cut) ≡ state_answer_of es cut
unfolding state_answer_of last_answer_of state_by_values
state_by_walk es cut =
    sym (two_faults (size_fault_of state_keys es) (cut_fault_of cut) _ _ (last_bytes_in STATE_KEYS es) state_by_bytes refl)

pub pong_by_walk : (es : List EntryValue) (cut : Option ℕ) → then_by pong_by_bytes (last_answer_of PONG_KEYS es cut) ≡ pong_answer_of es cut
unfolding pong_answer_of last_answer_of pong_by_values
pong_by_walk es cut =
    sym (two_faults (size_fault_of pong_keys es) (cut_fault_of cut) _ _ (last_bytes_in PONG_KEYS es) pong_by_bytes refl)
