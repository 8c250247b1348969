use Rattle.std.proofs.Common.{◌<◌, length, ℤ, ◌+ℤ◌, pos, slice_index_or, to_z, of_z, w64, List, sym, subst, ◌∙◌, arith}
use Rattle.std.proofs.lemmas.Int.{ints}
use Rattle.lk_base.specs.Ranges.{IsWithinLimit}
use Rattle.link_hostfilter.specs.Fit.{IsFiltered}
use Rattle.link_hostfilter.specs.declared.pair.Pair.{Pair}
use Rattle.link_hostfilter.proofs.FarLemmas.{within_at}
use Rattle.link_hostfilter.proofs.HoldLemmas.{Holds, bounded, one_held, first_host, newest_limits, last_seen, last_near, line_low, line_held, host_is, filtered_host}
use Rattle.link_hostfilter.proofs.filter.HostFilter.newest_on_line.Goals as goal

pub returns-then-pairs-eq1-clause-filtered : goal.returns-then-pairs-eq1-clause-filtered
returns-then-pairs-eq1-clause-filtered c =
    let held = subst (λ (xs : List Pair). Holds xs c.self.inside.sums c.self.inside.hosts) (sym c.as_slice-pairs.ensures) c.self.invariant in
    let same = c.as_slice-pairs.ensures ∙ c.self.view_is in
    let here = first_host c.as_slice-pairs.result.now (record { sample = pos 0; host = pos 0 }) (omega arith) held.0 in
    subst (λ (xs : List Pair). IsFiltered xs (to_z w64 (of_z w64 (slice_index_or c.as_slice-pairs.result.now 0 record { sample = pos 0; host = pos 0 }).host))) same
    (subst (λ (h : ℤ). IsFiltered c.as_slice-pairs.result.now h) (sym here) (one_held c.as_slice-pairs.result.now c.if-pairs-eq1.true))

pub returns-then-pairs-eq1-clause-within : goal.returns-then-pairs-eq1-clause-within
returns-then-pairs-eq1-clause-within c =
    let held = subst (λ (xs : List Pair). Holds xs c.self.inside.sums c.self.inside.hosts) (sym c.as_slice-pairs.ensures) c.self.invariant in
    let limit = (within_at 0 c.as_slice-pairs.result.now (record { sample = pos 0; host = pos 0 }) (omega arith) held.0.limits).1 in
    omega (arith, ints)

pub seen_from-last-requires-clause-sample : goal.seen_from-last-requires-clause-sample
seen_from-last-requires-clause-sample c =
    let held = subst (λ (xs : List Pair). Holds xs c.self.inside.sums c.self.inside.hosts) (sym c.as_slice-pairs.ensures) c.self.invariant in
    let some = subst (λ (xs : List Pair). 0 < length xs) (sym (c.as_slice-pairs.ensures ∙ c.self.view_is)) c.requires in
    subst (λ (p : Pair). IsWithinLimit p.sample) (sym c.newest.ensures) (newest_limits c.as_slice-pairs.result.now some held.0.limits).0

pub seen_from-last-requires-clause-host : goal.seen_from-last-requires-clause-host
seen_from-last-requires-clause-host c =
    let held = subst (λ (xs : List Pair). Holds xs c.self.inside.sums c.self.inside.hosts) (sym c.as_slice-pairs.ensures) c.self.invariant in
    let some = subst (λ (xs : List Pair). 0 < length xs) (sym (c.as_slice-pairs.ensures ∙ c.self.view_is)) c.requires in
    subst (λ (p : Pair). IsWithinLimit p.host) (sym c.newest.ensures) (newest_limits c.as_slice-pairs.result.now some held.0.limits).1

pub seen_from-last-requires-clause-base_sample : goal.seen_from-last-requires-clause-base_sample
seen_from-last-requires-clause-base_sample c =
    let held = subst (λ (xs : List Pair). Holds xs c.self.inside.sums c.self.inside.hosts) (sym c.as_slice-pairs.ensures) c.self.invariant in
    let some = subst (λ (xs : List Pair). 0 < length xs) (sym (c.as_slice-pairs.ensures ∙ c.self.view_is)) c.requires in
    (within_at 0 c.as_slice-pairs.result.now (record { sample = pos 0; host = pos 0 }) some held.0.limits).0

pub seen_from-last-requires-clause-base_host : goal.seen_from-last-requires-clause-base_host
seen_from-last-requires-clause-base_host c =
    let held = subst (λ (xs : List Pair). Holds xs c.self.inside.sums c.self.inside.hosts) (sym c.as_slice-pairs.ensures) c.self.invariant in
    let some = subst (λ (xs : List Pair). 0 < length xs) (sym (c.as_slice-pairs.ensures ∙ c.self.view_is)) c.requires in
    (within_at 0 c.as_slice-pairs.result.now (record { sample = pos 0; host = pos 0 }) some held.0.limits).1

pub line-requires-clause-bounded : goal.line-requires-clause-bounded
line-requires-clause-bounded c = bounded c.self.inside.pairs c.self.inside.sums c.self.invariant.0 c.self.invariant.1

pub at-requires-clause-positive : goal.at-requires-clause-positive
at-requires-clause-positive c =
    let held = subst (λ (xs : List Pair). Holds xs c.self.inside.sums c.self.inside.hosts) (sym c.as_slice-pairs.ensures) c.self.invariant in
    let some = subst (λ (xs : List Pair). 0 < length xs) (sym (c.as_slice-pairs.ensures ∙ c.self.view_is)) c.requires in
    let is = c.line.ensures in
    let fits = line_held c.as_slice-pairs.result.now c.self.inside.sums c.self.inside.hosts c.line.result held (omega arith) (record { at_zero = is.at_zero; rise = is.rise; unit = is.unit }) in
    let positive = fits.positive in
    omega (arith, ints)

pub at-requires-clause-sample : goal.at-requires-clause-sample
at-requires-clause-sample c =
    let held = subst (λ (xs : List Pair). Holds xs c.self.inside.sums c.self.inside.hosts) (sym c.as_slice-pairs.ensures) c.self.invariant in
    let some = subst (λ (xs : List Pair). 0 < length xs) (sym (c.as_slice-pairs.ensures ∙ c.self.view_is)) c.requires in
    last_near c.as_slice-pairs.result.now (to_z w64 (of_z w64 c.seen_from-last.result.sample)) some held.0
    (last_seen c.as_slice-pairs.result.now c.newest.result c.seen_from-last.result (record { sample = pos 0; host = pos 0 }) some held.0 c.newest.ensures c.seen_from-last.ensures.sample)

pub at-requires-clause-near : goal.at-requires-clause-near
at-requires-clause-near c =
    let held = subst (λ (xs : List Pair). Holds xs c.self.inside.sums c.self.inside.hosts) (sym c.as_slice-pairs.ensures) c.self.invariant in
    let some = subst (λ (xs : List Pair). 0 < length xs) (sym (c.as_slice-pairs.ensures ∙ c.self.view_is)) c.requires in
    let is = c.line.ensures in
    let fits = line_held c.as_slice-pairs.result.now c.self.inside.sums c.self.inside.hosts c.line.result held (omega arith) (record { at_zero = is.at_zero; rise = is.rise; unit = is.unit }) in
    let seen = last_seen c.as_slice-pairs.result.now c.newest.result c.seen_from-last.result (record { sample = pos 0; host = pos 0 }) some held.0 c.newest.ensures c.seen_from-last.ensures.sample in
    line_low c.as_slice-pairs.result.now c.line.result (to_z w64 (of_z w64 c.seen_from-last.result.sample)) some held.0 fits seen

pub overflow_add-result : goal.overflow_add-result
overflow_add-result c =
    let held = subst (λ (xs : List Pair). Holds xs c.self.inside.sums c.self.inside.hosts) (sym c.as_slice-pairs.ensures) c.self.invariant in
    let some = subst (λ (xs : List Pair). 0 < length xs) (sym (c.as_slice-pairs.ensures ∙ c.self.view_is)) c.requires in
    let limit = (within_at 0 c.as_slice-pairs.result.now (record { sample = pos 0; host = pos 0 }) some held.0.limits).1 in
    let near = c.at.ensures.within in
    omega (arith, ints)

pub returns-clause-filtered : goal.returns-clause-filtered
returns-clause-filtered c =
    let held = subst (λ (xs : List Pair). Holds xs c.self.inside.sums c.self.inside.hosts) (sym c.as_slice-pairs.ensures) c.self.invariant in
    let some = subst (λ (xs : List Pair). 0 < length xs) (sym (c.as_slice-pairs.ensures ∙ c.self.view_is)) c.requires in
    let is = c.line.ensures in
    let fits = line_held c.as_slice-pairs.result.now c.self.inside.sums c.self.inside.hosts c.line.result held (omega arith) (record { at_zero = is.at_zero; rise = is.rise; unit = is.unit }) in
    let seen = last_seen c.as_slice-pairs.result.now c.newest.result c.seen_from-last.result (record { sample = pos 0; host = pos 0 }) some held.0 c.newest.ensures c.seen_from-last.ensures.sample in
    let host = host_is c.as_slice-pairs.result.now c.line.result (record { sample = pos 0; host = pos 0 }) (to_z w64 (of_z w64 c.seen_from-last.result.sample)) c.at.result some held.0 seen c.at.ensures.value c.at.ensures.within in
    subst (λ (xs : List Pair). IsFiltered xs (to_z w64 (of_z w64 (to_z w64 (of_z w64 (slice_index_or c.as_slice-pairs.result.now 0 (record { sample = pos 0; host = pos 0 })).host) +ℤ to_z w64 (of_z w64 c.at.result))))) (c.as_slice-pairs.ensures ∙ c.self.view_is)
    (filtered_host c.as_slice-pairs.result.now c.line.result (to_z w64 (of_z w64 (to_z w64 (of_z w64 (slice_index_or c.as_slice-pairs.result.now 0 (record { sample = pos 0; host = pos 0 })).host) +ℤ to_z w64 (of_z w64 c.at.result)))) some held.0 fits host).0

pub returns-clause-within : goal.returns-clause-within
returns-clause-within c =
    let held = subst (λ (xs : List Pair). Holds xs c.self.inside.sums c.self.inside.hosts) (sym c.as_slice-pairs.ensures) c.self.invariant in
    let some = subst (λ (xs : List Pair). 0 < length xs) (sym (c.as_slice-pairs.ensures ∙ c.self.view_is)) c.requires in
    let is = c.line.ensures in
    let fits = line_held c.as_slice-pairs.result.now c.self.inside.sums c.self.inside.hosts c.line.result held (omega arith) (record { at_zero = is.at_zero; rise = is.rise; unit = is.unit }) in
    let seen = last_seen c.as_slice-pairs.result.now c.newest.result c.seen_from-last.result (record { sample = pos 0; host = pos 0 }) some held.0 c.newest.ensures c.seen_from-last.ensures.sample in
    let host = host_is c.as_slice-pairs.result.now c.line.result (record { sample = pos 0; host = pos 0 }) (to_z w64 (of_z w64 c.seen_from-last.result.sample)) c.at.result some held.0 seen c.at.ensures.value c.at.ensures.within in
    (filtered_host c.as_slice-pairs.result.now c.line.result (to_z w64 (of_z w64 (to_z w64 (of_z w64 (slice_index_or c.as_slice-pairs.result.now 0 (record { sample = pos 0; host = pos 0 })).host) +ℤ to_z w64 (of_z w64 c.at.result)))) some held.0 fits host).1
