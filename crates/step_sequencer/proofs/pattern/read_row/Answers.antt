use Rattle.std.proofs.Common.{sym, ◌∙◌}
use Rattle.step_sequencer.proofs.PatternLemmas.{lacks_name, lacks_space, lacks_marks, lacks_end, row_read, rest_whole}
use Rattle.step_sequencer.proofs.pattern.read_row.Goals as goal

pub returns-in_err-spaced-clause-none : goal.returns-in_err-spaced-clause-none
returns-in_err-spaced-clause-none c =
    rw c.from_residual.ensures (lacks_name c.args.name.now c.args.text.now c.in_err-spaced.ensures.none)

pub returns-in_err-marked-clause-none : goal.returns-in_err-marked-clause-none
returns-in_err-marked-clause-none c =
    rw c.from_residual-in_err-marked.ensures
    (lacks_space c.args.name.now c.args.text.now c.in_ok-spaced.spaced.now c.in_ok-spaced.ensures.some c.in_err-marked.ensures.none)

pub returns-in_err-marks-clause-none : goal.returns-in_err-marks-clause-none
returns-in_err-marks-clause-none c =
    rw c.from_residual-in_err-marks.ensures
    (lacks_marks c.args.name.now c.args.text.now c.in_ok-spaced.spaced.now c.in_ok-marked.marked.now c.in_ok-spaced.ensures.some c.in_ok-marked.ensures.some c.in_err-marks.ensures.none)

pub returns-in_err-rest-clause-none : goal.returns-in_err-rest-clause-none
returns-in_err-rest-clause-none c =
    rw c.from_residual-in_err-rest.ensures
    (lacks_end c.args.name.now c.args.text.now c.in_ok-spaced.spaced.now c.in_ok-marked.marked.now c.in_ok-spaced.ensures.some c.in_ok-marked.ensures.some (λ rest e. c.in_err-rest.ensures.none rest (rest_whole c.in_ok-marked.marked.now 16 ∙ e)))

pub returns-clause-some : goal.returns-clause-some
returns-clause-some c =
    row_read c.args.name.now c.args.text.now c.in_ok-spaced.spaced.now c.in_ok-marked.marked.now c.in_ok-rest.rest.now c.in_ok-marks.marks c.in_ok-spaced.ensures.some c.in_ok-marked.ensures.some c.in_ok-marks.ensures.some (sym (rest_whole c.in_ok-marked.marked.now 16) ∙ c.in_ok-rest.ensures.some)
