use Rattle.std.proofs.Common.{◌<◌, [], ◌∷◌, ◌++◌, length, pos, List, ap, sym, subst, ◌∙◌, arith}
use Rattle.std.proofs.lemmas.Int.{ints}
use Rattle.link_hostfilter.specs.Fit.{from_oldest}
use Rattle.link_hostfilter.specs.Kept.{AreWithin, AreKept}
use Rattle.link_hostfilter.specs.Sums.{AreSums}
use Rattle.link_hostfilter.specs.Span.{AreAmong}
use Rattle.link_hostfilter.specs.declared.pair.Pair.{Pair}
use Rattle.link_hostfilter.proofs.FarLemmas.{within_at, among_push}
use Rattle.link_hostfilter.proofs.HoldLemmas.{bounded, push_limits, push_some, push_seen, push_near, sums_more}
use Rattle.link_hostfilter.proofs.filter.HostFilter.keep.Goals as goal

pub seen_from-last-requires-clause-sample : goal.seen_from-last-requires-clause-sample
seen_from-last-requires-clause-sample c = (push_limits c.args.self.now c.args.pair.now c.requires.kept.limits).0

pub seen_from-last-requires-clause-host : goal.seen_from-last-requires-clause-host
seen_from-last-requires-clause-host c = (push_limits c.args.self.now c.args.pair.now c.requires.kept.limits).1

pub seen_from-last-requires-clause-base_sample : goal.seen_from-last-requires-clause-base_sample
seen_from-last-requires-clause-base_sample c =
    let all = c.as_slice-pairs.ensures ∙ c.push.ensures ∙ ap (λ (xs : List Pair). xs ++ c.args.pair.now ∷ []) c.self.view_is in
    (within_at 0 c.as_slice-pairs.result.now (record { sample = pos 0; host = pos 0 })
    (subst (λ (xs : List Pair). 0 < length xs) (sym all) (push_some c.args.self.now c.args.pair.now)) (subst (λ (xs : List Pair). AreWithin xs) (sym all) c.requires.kept.limits)).0

pub seen_from-last-requires-clause-base_host : goal.seen_from-last-requires-clause-base_host
seen_from-last-requires-clause-base_host c =
    let all = c.as_slice-pairs.ensures ∙ c.push.ensures ∙ ap (λ (xs : List Pair). xs ++ c.args.pair.now ∷ []) c.self.view_is in
    (within_at 0 c.as_slice-pairs.result.now (record { sample = pos 0; host = pos 0 })
    (subst (λ (xs : List Pair). 0 < length xs) (sym all) (push_some c.args.self.now c.args.pair.now)) (subst (λ (xs : List Pair). AreWithin xs) (sym all) c.requires.kept.limits)).1

pub tightened-self-inside-requires : goal.tightened-self-inside-requires
tightened-self-inside-requires c =
    let wider = c.with.ensures in
    subst (λ (xs : List Pair). AreAmong c.with.result xs) (sym (c.as_slice-pairs.ensures ∙ c.push.ensures))
    (among_push c.self.inside.hosts c.with.result c.self.inside.pairs c.args.pair.now wider.low wider.high (omega (arith, ints, wider.above)) (omega (arith, ints, wider.below)) c.self.invariant.2)

pub with-self-inside-requires-clause-bounded : goal.with-self-inside-requires-clause-bounded
with-self-inside-requires-clause-bounded c = bounded c.self.inside.pairs c.self.inside.sums c.self.invariant.0 c.self.invariant.1

pub with-self-inside-requires-clause-sample : goal.with-self-inside-requires-clause-sample
with-self-inside-requires-clause-sample c =
    let all = c.as_slice-pairs.ensures ∙ c.push.ensures ∙ ap (λ (xs : List Pair). xs ++ c.args.pair.now ∷ []) c.self.view_is in
    (push_near c.args.self.now c.args.pair.now c.seen_from-last.result c.requires.kept
    (push_seen c.as_slice-pairs.result.now c.args.self.now c.args.pair.now c.seen_from-last.result (record { sample = pos 0; host = pos 0 }) all c.seen_from-last.ensures.sample c.seen_from-last.ensures.host)).0

pub with-self-inside-requires-clause-host : goal.with-self-inside-requires-clause-host
with-self-inside-requires-clause-host c =
    let all = c.as_slice-pairs.ensures ∙ c.push.ensures ∙ ap (λ (xs : List Pair). xs ++ c.args.pair.now ∷ []) c.self.view_is in
    (push_near c.args.self.now c.args.pair.now c.seen_from-last.result c.requires.kept
    (push_seen c.as_slice-pairs.result.now c.args.self.now c.args.pair.now c.seen_from-last.result (record { sample = pos 0; host = pos 0 }) all c.seen_from-last.ensures.sample c.seen_from-last.ensures.host)).1

pub invariant_of-self : goal.invariant_of-self
invariant_of-self c =
    let here = c.push.ensures ∙ ap (λ (xs : List Pair). xs ++ c.args.pair.now ∷ []) c.self.view_is in
    let more = c.with-self-inside.ensures in
    let are = subst (λ (xs : List Pair). AreSums (from_oldest xs) c.self.inside.sums) c.self.view_is c.self.invariant.1 in
    let seen = push_seen c.as_slice-pairs.result.now c.args.self.now c.args.pair.now c.seen_from-last.result (record { sample = pos 0; host = pos 0 }) (c.as_slice-pairs.ensures ∙ here) c.seen_from-last.ensures.sample c.seen_from-last.ensures.host in (
      subst (λ (xs : List Pair). AreKept xs) (sym here) c.requires.kept,
      subst (λ (xs : List Pair). AreSums (from_oldest xs) c.with-self-inside.result) (sym here)
          (sums_more c.args.self.now c.self.inside.sums c.with-self-inside.result c.args.pair.now c.seen_from-last.result are seen.0 seen.1
          (record { samples = more.samples; hosts = more.hosts; squares = more.squares; products = more.products })),
      subst (λ (xs : List Pair). AreAmong c.tightened-self-inside.result xs) c.as_slice-pairs.ensures c.tightened-self-inside.ensures,
    )
