use Rattle.std.proofs.Common.{sym, ◌∙◌, true≢false}
use Rattle.link_live.proofs.AskLemmas.{stored_max, due_test, past_test, was_due, was_unasked, has_come, has_waited, has_closed, has_failed}
use Rattle.link_live.proofs.network.ask.Goals as goal
use Rattle.link_live.proofs.network.ask.Goals.{then-line-via-then-line, then-line-via-else-line+then-line-2, then-line-via-else-line+else-line-2+then-line-3}

pub returns-then-due-line-clause-asked : goal.returns-then-due-line-clause-asked
returns-then-due-line-clause-asked g c = was_due _ _ _ _ (due_test _ _ (record { sfits = c.ranges.due.sfits }) c.requires.moment c.if-due-line.true) c.requires.moment

pub returns-then-line-clause-asked : goal.returns-then-line-clause-asked
returns-then-line-clause-asked g c = was_unasked _ _ _ _ (past_test _ _ (record { sfits = c.ranges.due.sfits }) c.requires.moment c.if-due-line.false) c.requires.moment
    (λ works comes room. elim c.then-line.branch [
      | then-line-via-then-line w ↦ absurd (true≢false (sym w.if-line.true ∙ works))
      | then-line-via-else-line+then-line-2 w ↦ absurd (true≢false (sym w.if-line-2.true ∙ comes))
      | then-line-via-else-line+else-line-2+then-line-3 w ↦ absurd (true≢false (sym w.if-line-3.true ∙ room))
    ])

pub returns-in-Datagram-clause-asked : goal.returns-in-Datagram-clause-asked
returns-in-Datagram-clause-asked g c =
    has_come _ _ _ _ _ _ _ _ _ _ (past_test _ _ (record { sfits = c.ranges.due.sfits }) c.requires.moment c.if-due-line.false) c.if-line.false c.if-line-2.false c.if-line-3.false c.requires.moment
    (stored_max _ _ _ c.requires.moment c.in-Datagram.ensures.answer.1 (record { sfits = c.max-line.type_inv }) c.max-line.ensures.value) c.in-Datagram.ensures.answer c.in-Datagram.ensures.contents

pub returns-in-Idle-clause-asked : goal.returns-in-Idle-clause-asked
returns-in-Idle-clause-asked g c =
    has_waited _ _ _ _ _ _ _ _ (past_test _ _ (record { sfits = c.ranges.due.sfits }) c.requires.moment c.if-due-line.false) c.if-line.false c.if-line-2.false c.if-line-3.false c.requires.moment
    (stored_max _ _ _ c.requires.moment c.in-Idle.ensures.answer (record { sfits = c.max-line-in-Idle.type_inv }) c.max-line-in-Idle.ensures.value) c.in-Idle.ensures.answer c.in-Idle.ensures.contents
    (record { sfits = c.ranges.due.sfits }) c.due_or_nothing.ensures

pub returns-in-Closed-clause-asked : goal.returns-in-Closed-clause-asked
returns-in-Closed-clause-asked g c = has_closed _ _ _ _ _ (past_test _ _ (record { sfits = c.ranges.due.sfits }) c.requires.moment c.if-due-line.false) c.if-line.false c.if-line-2.false c.requires.moment c.in-Closed.ensures.contents

pub returns-in-Failed-clause-asked : goal.returns-in-Failed-clause-asked
returns-in-Failed-clause-asked g c = has_failed _ _ _ _ _ (past_test _ _ (record { sfits = c.ranges.due.sfits }) c.requires.moment c.if-due-line.false) c.if-line.false c.requires.moment c.in-Failed.ensures.contents
