-- Entries that are answered as fields have no fault.
use Rattle.std.proofs.Common.{◌≡◌, ℕ, ℤ, pos, ◌^◌, ◌≤ℤ◌, List, [], ◌∷◌, Option, Some, None, Ok, refl, subst, arith}
use Rattle.std.specs.List.{AllByRecursion}
use Rattle.std.proofs.lemmas.Bool.Decides.{nat_tests}
use Rattle.std.proofs.lemmas.Int.{ints}
use Rattle.lk_base.specs.Ranges.{IsWithinLimit}
use Rattle.link_payload.specs.declared.fault.PayloadFault.{PayloadFault}
use Rattle.link_payload.specs.declared.fields.PeerFields.{PeerFields}
use Rattle.link_payload.specs.declared.fields.PongFields.{PongFields}
use Rattle.link_payload.specs.Entries.{EntryValue}
use Rattle.link_payload.specs.Fields.{AreInRange, AreTimesInRange, answer_of, size_fault_of, cut_fault_of, missing_fault_of, mpb_fault_of, limit_fault_of, last_value_of, state_keys, pong_keys, state_of, pong_of, state_range_faults_of, pong_range_faults_of, state_answer_of, pong_answer_of}

-- no fault stands before an answer
passed : {A : Type 0} (faults : List (Option PayloadFault)) (x y : A) → answer_of faults x ≡ Ok y → AllByRecursion (λ fault. fault ≡ None) faults × (x ≡ y)
passed [] x y is = (tt, cc)
passed (None ∷ faults) x y is =
    let others = passed faults x y is in ((refl, others.0), others.1)
passed (Some fault ∷ faults) x y is = absurd cc

uncut : (cut : Option ℕ) → cut_fault_of cut ≡ None → cut ≡ None
uncut None is = refl
uncut (Some n) is = absurd cc

mpb_passed : (key : ℕ) (z : ℤ) → mpb_fault_of key z ≡ None → (pos 1 ≤ℤ z) × (z ≤ℤ pos (2 ^ 31))
mpb_passed key z is = grind (arith, ints, nat_tests)

limit_passed : (key : ℕ) (z : ℤ) → limit_fault_of key z ≡ None → IsWithinLimit z
limit_passed key z is = grind (arith, nat_tests)

-- the fields of an answer, by what they were before their numbers were tried
state_passed : (sizes cuts timelines sessions : Option PayloadFault) (fields f : PeerFields) → answer_of (sizes ∷ cuts ∷ timelines ∷ sessions ∷ state_range_faults_of fields) fields ≡ Ok f
    → AreInRange f × (cuts ≡ None)
state_passed sizes cuts timelines sessions fields f is =
    let all = passed (sizes ∷ cuts ∷ timelines ∷ sessions ∷ state_range_faults_of fields) fields f is in
    let numbers = all.0.1.1.1.1 in
    let tempo = mpb_passed 0x746d6c6e fields.timeline.mpb numbers.0 in
    let range : AreInRange fields = record {
      least_mpb = tempo.0;
      greatest_mpb = tempo.1;
      beat = limit_passed 0x746d6c6e fields.timeline.beat numbers.1.0;
      time = limit_passed 0x746d6c6e fields.timeline.time numbers.1.1.0;
      beats = limit_passed 0x73747374 fields.start.beats numbers.1.1.1.0;
      stamp = limit_passed 0x73747374 fields.start.stamp numbers.1.1.1.1.0;
    } in
    (subst AreInRange all.1 range, all.0.1.0)

pong_passed : (sizes cuts sessions times : Option PayloadFault) (fields f : PongFields) → answer_of (sizes ∷ cuts ∷ sessions ∷ times ∷ pong_range_faults_of fields) fields ≡ Ok f
    → AreTimesInRange f × (cuts ≡ None)
pong_passed sizes cuts sessions times fields f is =
    let all = passed (sizes ∷ cuts ∷ sessions ∷ times ∷ pong_range_faults_of fields) fields f is in
    let numbers = all.0.1.1.1.1 in
    let range : AreTimesInRange fields = record {
      ghost_time = limit_passed 0x5f5f6774 fields.ghost_time numbers.0;
      host = limit_passed 0x5f5f6874 fields.host numbers.1.0;
      previous = limit_passed 0x5f706774 fields.previous numbers.1.1.0;
    } in
    (subst AreTimesInRange all.1 range, all.0.1.0)

pub state_answered : (es : List EntryValue) (cut : Option ℕ) (f : PeerFields) → state_answer_of es cut ≡ Ok f → AreInRange f × (cut ≡ None)
unfolding state_answer_of
state_answered es cut f is =
    let timeline = last_value_of 0x746d6c6e es in
    let session = last_value_of 0x73657373 es in
    let fields = state_of timeline session (last_value_of 0x73747374 es) (last_value_of 0x6d657034 es) in
    let found = state_passed (size_fault_of state_keys es) (cut_fault_of cut) (missing_fault_of 0x746d6c6e timeline) (missing_fault_of 0x73657373 session) fields f is in
    (found.0, uncut cut found.1)

pub pong_answered : (es : List EntryValue) (cut : Option ℕ) (f : PongFields) → pong_answer_of es cut ≡ Ok f → AreTimesInRange f × (cut ≡ None)
unfolding pong_answer_of
pong_answered es cut f is =
    let session = last_value_of 0x73657373 es in
    let ghost_time = last_value_of 0x5f5f6774 es in
    let fields = pong_of session ghost_time (last_value_of 0x5f5f6874 es) (last_value_of 0x5f706774 es) in
    let found = pong_passed (size_fault_of pong_keys es) (cut_fault_of cut) (missing_fault_of 0x73657373 session) (missing_fault_of 0x5f5f6774 ghost_time) fields f is in
    (found.0, uncut cut found.1)
