use Rattle.std.proofs.Common.{refl, arith}
use Rattle.step_sequencer.proofs.PatternLemmas.{odd_lacks, marks_more, all_marks}
use Rattle.step_sequencer.proofs.pattern.read_marks.Goals as goal

pub returns-in_err-marks-clause-none : goal.returns-in_err-marks-clause-none
returns-in_err-marks-clause-none c =
    rw c.from_residual.ensures (odd_lacks c.args.text.now c.loop-k.k _ (omega arith) refl c.in_err-marks.ensures.none)

pub loop-k-preserved : goal.loop-k-preserved
loop-k-preserved c =
    marks_more c.args.text.now c.loop-k.marks c.loop-k.k c.in_ok-marks.field-0 (omega arith) (omega arith) c.loop-k.invariant c.in_ok-marks.ensures.some

pub returns-clause-some : goal.returns-clause-some
returns-clause-some c =
    all_marks c.args.text.now c.loop-k.marks c.loop-k.k (omega arith) (omega arith) c.loop-k.invariant
