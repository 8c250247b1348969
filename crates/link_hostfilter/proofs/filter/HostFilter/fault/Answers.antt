use Rattle.std.proofs.Common.{Some, List, FitsSigned, w64, ap, sym, subst, ◌∙◌, rules}
use Rattle.std.proofs.lemmas.Int.{to_z-of_z}
use Rattle.link_hostfilter.specs.Kept.{AreNear, AreWithin, first_far, far_fault, fault_of}
use Rattle.link_hostfilter.specs.Span.{AreAmong}
use Rattle.link_hostfilter.specs.declared.fault.FilterFault.TheVariants.{NotLater}
use Rattle.link_hostfilter.specs.declared.pair.Pair.{Pair}
use Rattle.link_hostfilter.proofs.HoldLemmas.{Holds, holds_last, late_has_one, fault_late, fault_far}
use Rattle.link_hostfilter.proofs.filter.HostFilter.fault.Goals as goal

pub newest-requires : goal.newest-requires
newest-requires c = late_has_one c.args.pair.now c.as_slice-pairs.result.now (sym c.is_late.ensures ∙ c.if-is_late.true)

pub returns-then-is_late-clause-fault : goal.returns-then-is_late-clause-fault
returns-then-is_late-clause-fault c =
    let fits : FitsSigned w64 c.newest.result.sample = search rules in
    simp (to_z-of_z w64 _ fits)
    (ap (λ (p : Pair). Some (NotLater p.sample)) c.newest.ensures
    ∙ sym (fault_late c.args.pair.now c.as_slice-pairs.result.now (sym c.is_late.ensures ∙ c.if-is_late.true))
    ∙ ap (λ (xs : List Pair). fault_of c.args.pair.now xs) (c.as_slice-pairs.ensures ∙ c.self.view_is))

pub first_far-requires-clause-near : goal.first_far-requires-clause-near
first_far-requires-clause-near c =
    let held = subst (λ (xs : List Pair). Holds xs c.self.inside.sums c.self.inside.hosts) (sym c.as_slice-pairs.ensures) c.self.invariant in
    subst (λ (xs : List Pair). AreNear xs) (sym c.staying.ensures) (holds_last c.as_slice-pairs.result.now c.self.inside.sums c.self.inside.hosts held).0

pub first_far-requires-clause-limits : goal.first_far-requires-clause-limits
first_far-requires-clause-limits c =
    let held = subst (λ (xs : List Pair). Holds xs c.self.inside.sums c.self.inside.hosts) (sym c.as_slice-pairs.ensures) c.self.invariant in
    subst (λ (xs : List Pair). AreWithin xs) (sym c.staying.ensures) (holds_last c.as_slice-pairs.result.now c.self.inside.sums c.self.inside.hosts held).1

pub first_far-requires-clause-among : goal.first_far-requires-clause-among
first_far-requires-clause-among c =
    let held = subst (λ (xs : List Pair). Holds xs c.self.inside.sums c.self.inside.hosts) (sym c.as_slice-pairs.ensures) c.self.invariant in
    subst (λ (xs : List Pair). AreAmong c.self.inside.hosts xs) (sym c.staying.ensures) (holds_last c.as_slice-pairs.result.now c.self.inside.sums c.self.inside.hosts held).2

pub returns-in-None-clause-fault : goal.returns-in-None-clause-fault
returns-in-None-clause-fault c =
    let far = fault_far c.args.pair.now c.as_slice-pairs.result.now c.first_far.result (sym c.is_late.ensures ∙ c.if-is_late.false)
    (c.first_far.ensures ∙ ap (λ (xs : List Pair). first_far c.args.pair.now xs) c.staying.ensures) in
    sym (ap far_fault c.in-None.is) ∙ sym far ∙ ap (λ (xs : List Pair). fault_of c.args.pair.now xs) (c.as_slice-pairs.ensures ∙ c.self.view_is)

pub returns-in-Some-clause-fault : goal.returns-in-Some-clause-fault
returns-in-Some-clause-fault c =
    let far = fault_far c.args.pair.now c.as_slice-pairs.result.now c.first_far.result (sym c.is_late.ensures ∙ c.if-is_late.false)
    (c.first_far.ensures ∙ ap (λ (xs : List Pair). first_far c.args.pair.now xs) c.staying.ensures) in
    let sample : FitsSigned w64 c.in-Some.far.sample = search rules in
    let host : FitsSigned w64 c.in-Some.far.host = search rules in
    simp (to_z-of_z w64 _ sample, to_z-of_z w64 _ host)
    (sym (ap far_fault c.in-Some.is) ∙ sym far ∙ ap (λ (xs : List Pair). fault_of c.args.pair.now xs) (c.as_slice-pairs.ensures ∙ c.self.view_is))
