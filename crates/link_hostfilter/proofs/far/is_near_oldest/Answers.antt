use Rattle.std.proofs.Common.{◌^◌, ◌<◌, length, pos, ◌-ℤ◌, ◌≤ℤ◌, subst, rules, arith}
use Rattle.std.proofs.lemmas.Int.{ints}
use Rattle.link_hostfilter.specs.declared.pair.Pair.{Pair}
use Rattle.link_hostfilter.proofs.FarLemmas.{oldest_is, within_at}
use Rattle.link_hostfilter.proofs.far.is_near_oldest.Goals as goal

pub overflow_sub-result : goal.overflow_sub-result
overflow_sub-result c =
    let some : 0 < length c.args.pairs.now = search rules in
    let first = within_at 0 c.args.pairs.now (record { sample = pos 0; host = pos 0 }) some c.requires.limits in
    let new = c.requires.sample in
    omega (arith, ints, first.0)

pub returns-else-is_empty : goal.returns-else-is_empty
returns-else-is_empty c = λ some e.
    let first = within_at 0 c.args.pairs.now (record { sample = pos 0; host = pos 0 }) some c.requires.limits in
    let new = c.requires.sample in
    subst (λ (p : Pair). (c.args.new.now.sample -ℤ p.sample) ≤ℤ pos (2 ^ 31)) (oldest_is c.args.pairs.now (record { sample = pos 0; host = pos 0 }) some)
    (omega (arith, ints, first.0, e))
