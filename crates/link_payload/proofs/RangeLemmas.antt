-- Numbers in range, as code stores them.
use Rattle.std.proofs.Common.{◌≡◌, ℤ, pos, ◌^◌, ◌↔◌, ◌≤ℤ◌, Bool, IsTrue, List, [], ◌∷◌, Option, Some, None, w64, refl, sym, ap, ◌∙◌, subst}
use Rattle.std.specs.Int.RustNames.{FitsSigned}
use Rattle.std.specs.Option.{option_or}
use Rattle.std.proofs.lemmas.Int.{to_z-of_z}
use Rattle.lk_base.specs.Ranges.{IsWithinLimit}
use Rattle.link_payload.specs.declared.fault.PayloadFault.{PayloadFault}
use Rattle.link_payload.specs.declared.fields.PeerFields.{PeerFields}
use Rattle.link_payload.specs.Fields.{answer_of, mpb_fault_of, limit_fault_of, state_range_faults_of}
use Rattle.link_payload.proofs.StateLemmas.{stored}

abbrev pub IsMpb : ℤ → Type 0
IsMpb z = (pos 1 ≤ℤ z) × (z ≤ℤ pos (2 ^ 31))

pub mpb_test : (answer : Bool) (z : ℤ) → FitsSigned w64 z → IsTrue answer ↔ IsMpb (stored z) → IsTrue answer ↔ IsMpb z
mpb_test answer z fits test = subst (λ (x : ℤ). IsTrue answer ↔ IsMpb x) (to_z-of_z w64 z fits) test

pub limit_test : (answer : Bool) (z : ℤ) → FitsSigned w64 z → IsTrue answer ↔ IsWithinLimit (stored z) → IsTrue answer ↔ IsWithinLimit z
limit_test answer z fits test = subst (λ (x : ℤ). IsTrue answer ↔ IsWithinLimit x) (to_z-of_z w64 z fits) test

-- ---- the first of some faults

answer_or : {A : Type 0} (a b : Option PayloadFault) (faults : List (Option PayloadFault)) (x : A) → answer_of (a ∷ b ∷ faults) x ≡ answer_of (option_or a b ∷ faults) x
answer_or None b faults x = refl
answer_or (Some fault) b faults x = refl

-- a fault that was found so is that of the first number outside its range
pub state_fault_is : (f : PeerFields) (beat time beats found : Option PayloadFault)
    → beat ≡ option_or (mpb_fault_of 0x746d6c6e f.timeline.mpb) (limit_fault_of 0x746d6c6e f.timeline.beat)
    → time ≡ option_or beat (limit_fault_of 0x746d6c6e f.timeline.time)
    → beats ≡ option_or time (limit_fault_of 0x73747374 f.start.beats)
    → found ≡ option_or beats (limit_fault_of 0x73747374 f.start.stamp)
    → answer_of (found ∷ []) f ≡ answer_of (state_range_faults_of f) f
state_fault_is f beat time beats found beat_is time_is beats_is found_is =
    let mpb_fault = mpb_fault_of 0x746d6c6e f.timeline.mpb in
    let beat_fault = limit_fault_of 0x746d6c6e f.timeline.beat in
    let time_fault = limit_fault_of 0x746d6c6e f.timeline.time in
    let beats_fault = limit_fault_of 0x73747374 f.start.beats in
    let stamp_fault = limit_fault_of 0x73747374 f.start.stamp in
    ap (λ (o : Option PayloadFault). answer_of (o ∷ []) f) found_is ∙ sym (answer_or beats stamp_fault [] f)
    ∙ ap (λ (o : Option PayloadFault). answer_of (o ∷ stamp_fault ∷ []) f) beats_is ∙ sym (answer_or time beats_fault (stamp_fault ∷ []) f)
    ∙ ap (λ (o : Option PayloadFault). answer_of (o ∷ beats_fault ∷ stamp_fault ∷ []) f) time_is ∙ sym (answer_or beat time_fault (beats_fault ∷ stamp_fault ∷ []) f)
    ∙ ap (λ (o : Option PayloadFault). answer_of (o ∷ time_fault ∷ beats_fault ∷ stamp_fault ∷ []) f) beat_is ∙ sym (answer_or mpb_fault beat_fault (time_fault ∷ beats_fault ∷ stamp_fault ∷ []) f)

pub not_found : (found : Option PayloadFault) → ((fault : PayloadFault) → found ≡ Some fault → ⊥) → found ≡ None
not_found None none = refl
not_found (Some fault) none = absurd (none fault refl)
