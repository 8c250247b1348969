use Rattle.std.proofs.Common.{◌∙◌, sym}
use Rattle.link_clients.proofs.HostLemmas.{closed, stands_at, stands_same, stopped_at}
use Rattle.link_clients.proofs.host.round.Goals as goal

pub returns-in-Closed-clause-goes : goal.returns-in-Closed-clause-goes
returns-in-Closed-clause-goes g c = λ start first was.
    closed _ _ start _ _ first _ c.args.hall.now c.in-Closed.ensures.passed c.in-Closed.ensures.opened c.in-Closed.ensures.cause
    (sym c.args.hall.now.seats.ok.0 ∙ c.args.hall.now.count) was

pub returns-in-Some-admit_all-clause-goes : goal.returns-in-Some-admit_all-clause-goes
returns-in-Some-admit_all-clause-goes g c = λ start first was.
    c.in-Some-admit_all.ensures.goes _ _ _ start first
    (c.in_default.ensures.goes start first (stands_same _ _ start _ _ first _ c.args.hall.now c.in-Went.ensures.passed c.in-Went.ensures.opened c.in-Went.ensures.cause was))

pub returns-in-Some-hear_all-clause-goes : goal.returns-in-Some-hear_all-clause-goes
returns-in-Some-hear_all-clause-goes g c = λ start first was.
    stopped_at _ _ _ _ _ _ _ _ c.in_default.ensures.late (c.in-Some-hear_all.ensures.goes start first (stands_at _ _ _ _ _ _ _ _ (sym c.in_default.ensures.late)
    (c.in_default-admit_all.ensures.goes _ _ _ start first
    (c.in_default.ensures.goes start first (stands_same _ _ start _ _ first _ c.args.hall.now c.in-Went.ensures.passed c.in-Went.ensures.opened c.in-Went.ensures.cause was)))))

pub returns-in-Some-tell_all-clause-goes : goal.returns-in-Some-tell_all-clause-goes
returns-in-Some-tell_all-clause-goes g c = λ start first was.
    c.in-Some-tell_all.ensures.goes _ _ _ start first
    (stands_at _ _ _ _ _ _ _ _ c.in_default.ensures.late (c.in_default-hear_all.ensures.goes start first (stands_at _ _ _ _ _ _ _ _ (sym c.in_default.ensures.late)
    (c.in_default-admit_all.ensures.goes _ _ _ start first
    (c.in_default.ensures.goes start first (stands_same _ _ start _ _ first _ c.args.hall.now c.in-Went.ensures.passed c.in-Went.ensures.opened c.in-Went.ensures.cause was))))))

pub returns-clause-goes : goal.returns-clause-goes
returns-clause-goes g c = λ start first was.
    c.drop_silent.ensures.goes _ _ _ start first
    (c.in_default-tell_all.ensures.goes _ _ _ start first
    (stands_at _ _ _ _ _ _ _ _ c.in_default.ensures.late (c.in_default-hear_all.ensures.goes start first (stands_at _ _ _ _ _ _ _ _ (sym c.in_default.ensures.late)
    (c.in_default-admit_all.ensures.goes _ _ _ start first
    (c.in_default.ensures.goes start first (stands_same _ _ start _ _ first _ c.args.hall.now c.in-Went.ensures.passed c.in-Went.ensures.opened c.in-Went.ensures.cause was)))))))
