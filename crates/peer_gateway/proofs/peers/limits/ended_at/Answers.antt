use Rattle.std.proofs.Common.{◌<◌, ◌<ℤ◌, ◌≤ℤ◌, length, w64, rules, arith}
use Rattle.std.proofs.lemmas.Int.{ints}
use mir.Val.{to_z, of_z}
use Rattle.peer_gateway.proofs.LimitLemmas.{ended_more, left_from}
use Rattle.peer_gateway.proofs.peers.limits.ended_at.Goals as goal

pub loop-ended-preserved : goal.loop-ended-preserved
loop-ended-preserved c =
    let xs = c.args.by_limit.now.items in
    let l : c.loop-ended.ended < length xs = search rules in
    let ends : c.index.result.now.limit ≤ℤ to_z w64 (of_z w64 c.args.now) = grind (arith, ints) in
    (omega arith, ended_more xs c.loop-ended.ended _ c.index.result.now l c.index.ensures ends c.loop-ended.invariant.1)

pub returns-else-index-now-clause-left : goal.returns-else-index-now-clause-left
returns-else-index-now-clause-left c =
    let xs = c.args.by_limit.now.items in
    let l : c.loop-ended.ended < length xs = search rules in
    let later : c.args.now <ℤ c.index.result.now.limit = grind (arith, ints) in
    left_from xs c.loop-ended.ended c.args.now c.index.result.now l c.index.ensures c.requires later
