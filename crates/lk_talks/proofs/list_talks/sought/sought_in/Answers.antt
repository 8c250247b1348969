use Rattle.std.proofs.Common.{sym, arith}
use Rattle.std.proofs.lemmas.Bool.Decides.{nat_tests}
use Rattle.std.proofs.lemmas.List.{length-drop}
use Rattle.lk_talks.proofs.SoughtLemmas.{goes_past, left_at, piece_passed, whole_rest}
use Rattle.lk_talks.proofs.list_talks.sought.sought_in.Goals as goal

pub returns-then-heard-len : goal.returns-then-heard-len
returns-then-heard-len c =
    let r = c.deref.result.now in
    let h = c.loop-at.heard in
    let whole = whole_rest h r in (
      rw whole (omega (arith, length-drop h r)),
      rw whole (omega (arith, length-drop h r)),
      sym c.loop-at.invariant.left,
      λ n fits. rw whole (left_at c.args.steps.now c.args.seat c.loop-at.at h n c.index-steps-at.result c.in-Sends.other c.in-Sends.bytes r
          c.loop-at-test.true c.index-steps-at.is c.in-Sends.is c.if-other-seat.true c.deref.ensures.value (omega arith) (rw whole at fits)),
    )

pub loop-at-preserved : goal.loop-at-preserved
loop-at-preserved c =
    let past = goes_past c.args.steps.now c.args.seat c.loop-at.at c.index-steps-at.result c.loop-at-test.true c.index-steps-at.is in
    grind (arith, nat_tests, piece_passed)
