use Rattle.std.proofs.Common.{[], ◌∷◌, Option, w64, sym, ap, ap₂, ◌∙◌, rules}
use Rattle.std.specs.Option.{option_or}
use Rattle.std.proofs.lemmas.Int.{to_z-of_z}
use Rattle.link_payload.specs.declared.fault.PayloadFault.{PayloadFault}
use Rattle.link_payload.specs.Fields.{answer_of, mpb_fault_of, limit_fault_of}
use Rattle.link_payload.proofs.RangeLemmas.{state_fault_is, not_found}
use Rattle.link_payload.proofs.range.state_in_range.Goals as goal

pub returns-in-Some : goal.returns-in-Some
returns-in-Some c =
    let f = c.args.fields in
    let mpb = c.mpb_fault.ensures ∙ ap (mpb_fault_of 0x746d6c6e) (to_z-of_z w64 f.timeline.mpb (search rules)) in
    let beat = c.limit_fault.ensures ∙ ap (limit_fault_of 0x746d6c6e) (to_z-of_z w64 f.timeline.beat (search rules)) in
    let time = c.limit_fault-2.ensures ∙ ap (limit_fault_of 0x746d6c6e) (to_z-of_z w64 f.timeline.time (search rules)) in
    let beats = c.limit_fault-3.ensures ∙ ap (limit_fault_of 0x73747374) (to_z-of_z w64 f.start.beats (search rules)) in
    let stamp = c.limit_fault-4.ensures ∙ ap (limit_fault_of 0x73747374) (to_z-of_z w64 f.start.stamp (search rules)) in
    ap (λ (o : Option PayloadFault). answer_of (o ∷ []) f) (sym c.in-Some.is)
    ∙ state_fault_is f c.or.result c.or-2.result c.or-3.result c.or-fault.result
    (c.or.ensures ∙ ap₂ (λ (a b : Option PayloadFault). option_or a b) mpb beat)
    (c.or-2.ensures ∙ ap (option_or c.or.result) time)
    (c.or-3.ensures ∙ ap (option_or c.or-2.result) beats)
    (c.or-fault.ensures ∙ ap (option_or c.or-3.result) stamp)

pub returns : goal.returns
returns c =
    let f = c.args.fields in
    let mpb = c.mpb_fault.ensures ∙ ap (mpb_fault_of 0x746d6c6e) (to_z-of_z w64 f.timeline.mpb (search rules)) in
    let beat = c.limit_fault.ensures ∙ ap (limit_fault_of 0x746d6c6e) (to_z-of_z w64 f.timeline.beat (search rules)) in
    let time = c.limit_fault-2.ensures ∙ ap (limit_fault_of 0x746d6c6e) (to_z-of_z w64 f.timeline.time (search rules)) in
    let beats = c.limit_fault-3.ensures ∙ ap (limit_fault_of 0x73747374) (to_z-of_z w64 f.start.beats (search rules)) in
    let stamp = c.limit_fault-4.ensures ∙ ap (limit_fault_of 0x73747374) (to_z-of_z w64 f.start.stamp (search rules)) in
    ap (λ (o : Option PayloadFault). answer_of (o ∷ []) f) (sym (not_found c.or-fault.result c.in_default.not-Some))
    ∙ state_fault_is f c.or.result c.or-2.result c.or-3.result c.or-fault.result
    (c.or.ensures ∙ ap₂ (λ (a b : Option PayloadFault). option_or a b) mpb beat)
    (c.or-2.ensures ∙ ap (option_or c.or.result) time)
    (c.or-3.ensures ∙ ap (option_or c.or-2.result) beats)
    (c.or-fault.ensures ∙ ap (option_or c.or-3.result) stamp)
