use Rattle.std.proofs.Common.{length, drop, pos, List, ap, sym, subst, ◌∙◌, arith}
use Rattle.link_hostfilter.specs.declared.pair.Pair.{Pair}
use Rattle.link_hostfilter.proofs.FarLemmas.{within_at}
use Rattle.link_hostfilter.proofs.HoldLemmas.{Holds, bounded, base_small, holds_drop, last_dropped}
use Rattle.link_hostfilter.proofs.filter.HostFilter.drop_oldest.Goals as goal

pub seen_from-base-requires-clause-sample : goal.seen_from-base-requires-clause-sample
seen_from-base-requires-clause-sample c =
    let held = subst (λ (xs : List Pair). Holds xs c.self.inside.sums c.self.inside.hosts) (sym c.as_slice-pairs.ensures) c.self.invariant in
    let full = ap (λ (xs : List Pair). length xs) (c.as_slice-pairs.ensures ∙ c.self.view_is) ∙ c.requires in
    (within_at 1 c.as_slice-pairs.result.now (record { sample = pos 0; host = pos 0 }) (omega arith) held.0.limits).0

pub seen_from-base-requires-clause-host : goal.seen_from-base-requires-clause-host
seen_from-base-requires-clause-host c =
    let held = subst (λ (xs : List Pair). Holds xs c.self.inside.sums c.self.inside.hosts) (sym c.as_slice-pairs.ensures) c.self.invariant in
    let full = ap (λ (xs : List Pair). length xs) (c.as_slice-pairs.ensures ∙ c.self.view_is) ∙ c.requires in
    (within_at 1 c.as_slice-pairs.result.now (record { sample = pos 0; host = pos 0 }) (omega arith) held.0.limits).1

pub seen_from-base-requires-clause-base_sample : goal.seen_from-base-requires-clause-base_sample
seen_from-base-requires-clause-base_sample c =
    let held = subst (λ (xs : List Pair). Holds xs c.self.inside.sums c.self.inside.hosts) (sym c.as_slice-pairs.ensures) c.self.invariant in
    let full = ap (λ (xs : List Pair). length xs) (c.as_slice-pairs.ensures ∙ c.self.view_is) ∙ c.requires in
    (within_at 0 c.as_slice-pairs.result.now (record { sample = pos 0; host = pos 0 }) (omega arith) held.0.limits).0

pub seen_from-base-requires-clause-base_host : goal.seen_from-base-requires-clause-base_host
seen_from-base-requires-clause-base_host c =
    let held = subst (λ (xs : List Pair). Holds xs c.self.inside.sums c.self.inside.hosts) (sym c.as_slice-pairs.ensures) c.self.invariant in
    let full = ap (λ (xs : List Pair). length xs) (c.as_slice-pairs.ensures ∙ c.self.view_is) ∙ c.requires in
    (within_at 0 c.as_slice-pairs.result.now (record { sample = pos 0; host = pos 0 }) (omega arith) held.0.limits).1

pub from-self-inside-requires-clause-bounded : goal.from-self-inside-requires-clause-bounded
from-self-inside-requires-clause-bounded c = bounded c.self.inside.pairs c.self.inside.sums c.self.invariant.0 c.self.invariant.1

pub from-self-inside-requires-clause-sample : goal.from-self-inside-requires-clause-sample
from-self-inside-requires-clause-sample c =
    let held = subst (λ (xs : List Pair). Holds xs c.self.inside.sums c.self.inside.hosts) (sym c.as_slice-pairs.ensures) c.self.invariant in
    let full = ap (λ (xs : List Pair). length xs) (c.as_slice-pairs.ensures ∙ c.self.view_is) ∙ c.requires in
    (base_small c.as_slice-pairs.result.now c.seen_from-base.result (record { sample = pos 0; host = pos 0 }) full held.0 c.seen_from-base.ensures.sample c.seen_from-base.ensures.host).0

pub from-self-inside-requires-clause-host : goal.from-self-inside-requires-clause-host
from-self-inside-requires-clause-host c =
    let held = subst (λ (xs : List Pair). Holds xs c.self.inside.sums c.self.inside.hosts) (sym c.as_slice-pairs.ensures) c.self.invariant in
    let full = ap (λ (xs : List Pair). length xs) (c.as_slice-pairs.ensures ∙ c.self.view_is) ∙ c.requires in
    (base_small c.as_slice-pairs.result.now c.seen_from-base.result (record { sample = pos 0; host = pos 0 }) full held.0 c.seen_from-base.ensures.sample c.seen_from-base.ensures.host).1

pub invariant_of-self : goal.invariant_of-self
invariant_of-self c =
    let held = subst (λ (xs : List Pair). Holds xs c.self.inside.sums c.self.inside.hosts) (sym c.as_slice-pairs.ensures) c.self.invariant in
    let full = ap (λ (xs : List Pair). length xs) (c.as_slice-pairs.ensures ∙ c.self.view_is) ∙ c.requires in
    let moved = c.from-self-inside.ensures in
    subst (λ (xs : List Pair). Holds xs c.from-self-inside.result c.self.inside.hosts) (ap (λ (xs : List Pair). drop 1 xs) c.as_slice-pairs.ensures ∙ sym c.drop_oldest.ensures)
    (holds_drop c.as_slice-pairs.result.now c.self.inside.sums c.from-self-inside.result c.self.inside.hosts c.seen_from-base.result (record { sample = pos 0; host = pos 0 }) full held
    c.seen_from-base.ensures.sample c.seen_from-base.ensures.host
    (record { samples = moved.samples; hosts = moved.hosts; squares = moved.squares; products = moved.products }))

pub returns : goal.returns
returns c = c.drop_oldest.ensures ∙ ap (λ (xs : List Pair). drop 1 xs) c.self.view_is ∙ last_dropped c.args.self.now c.requires
