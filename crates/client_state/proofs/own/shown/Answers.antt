use Rattle.client_state.proofs.own.shown.Goals as goal

pub returns-then-number-taken-clause-tidy : goal.returns-then-number-taken-clause-tidy
returns-then-number-taken-clause-tidy c = λ of_state of_own.
    c.lay_over.ensures.tidy of_state (of_own (c.in-Some.number, c.in-Some.commit) c.in-Some.is)
