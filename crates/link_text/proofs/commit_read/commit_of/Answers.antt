use Rattle.link_text.proofs.commit_read.commit_of.Goals as goal

pub returns-in_default-timeline_part-clause-none : goal.returns-in_default-timeline_part-clause-none
returns-in_default-timeline_part-clause-none c = λ commit tidy same.
    c.in_default-timeline_part.ensures.none commit.timeline commit.start commit.quantum tidy.timeline (cc (same, c.in-Some.ensures.some.1))

pub returns-in_default-start_part-clause-none : goal.returns-in_default-start_part-clause-none
returns-in_default-start_part-clause-none c = λ commit tidy same.
    c.in_default-start_part.ensures.none commit.start commit.quantum tidy.start
    (c.in-Some-timeline_part.ensures.follows commit.timeline commit.start commit.quantum (cc (same, c.in-Some.ensures.some.1)))

pub returns-in_default-quantum_part-clause-none : goal.returns-in_default-quantum_part-clause-none
returns-in_default-quantum_part-clause-none c = λ commit tidy same.
    c.in_default-quantum_part.ensures.none commit.quantum tidy.quantum
    (c.in-Some-start_part.ensures.follows commit.start commit.quantum
    (c.in-Some-timeline_part.ensures.follows commit.timeline commit.start commit.quantum (cc (same, c.in-Some.ensures.some.1))))
