use Rattle.std.proofs.Common.{pos, ◌-◌, ◌/◌, length, get_or, FitsSigned, rules, ap, arith}
use Rattle.std.proofs.lemmas.Int.{to_z-of_z}
use mir.Syntax.{w64}
use Rattle.ghost_xform.proofs.RankLemmas.{rank_after_sort}
use Rattle.ghost_xform.proofs.median.middle_pair.Goals as goal

pub returns-clause-lower : goal.returns-clause-lower
returns-clause-lower c =
    let old = c.args.points.now in
    let sorted = c.sort_unstable.new.self in
    let fits : FitsSigned w64 (get_or sorted ((length sorted - 1) / 2) (pos 0)) = search rules in
    rw (to_z-of_z w64 _ fits)
    (rank_after_sort old sorted ((length old - 1) / 2) ((length sorted - 1) / 2)
    c.sort_unstable.ensures.permutation
    c.sort_unstable.ensures.sorted
    (ap (λ n. (n - 1) / 2) c.sort_unstable.ensures.len)
    (omega arith))

pub returns-clause-upper : goal.returns-clause-upper
returns-clause-upper c =
    let old = c.args.points.now in
    let sorted = c.sort_unstable.new.self in
    let fits : FitsSigned w64 (get_or sorted (length sorted / 2) (pos 0)) = search rules in
    rw (to_z-of_z w64 _ fits)
    (rank_after_sort old sorted (length old / 2) (length sorted / 2)
    c.sort_unstable.ensures.permutation
    c.sort_unstable.ensures.sorted
    (ap (λ n. n / 2) c.sort_unstable.ensures.len)
    (omega arith))
