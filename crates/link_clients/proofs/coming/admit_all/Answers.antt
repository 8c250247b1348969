use Rattle.std.proofs.Common.{◌∙◌, refl, sym, subst, IsSome}
use Rattle.link_clients.proofs.coming.admit_all.Goals as goal

pub loop-init : goal.loop-init
loop-init g c = record { goes = λ terms late pass start first was. was; opened = refl }

pub admit-requires : goal.admit-requires
admit-requires g c = record { opened = subst IsSome (sym c.loop.invariant.opened) c.requires.opened }

pub returns-in-Nobody-clause-goes : goal.returns-in-Nobody-clause-goes
returns-in-Nobody-clause-goes g c = λ terms late pass start first was. c.in-Nobody.ensures.goes terms late pass start first (c.loop.invariant.goes terms late pass start first was)

pub returns-in-Nobody-clause-opened : goal.returns-in-Nobody-clause-opened
returns-in-Nobody-clause-opened g c = c.in-Nobody.ensures.opened ∙ c.loop.invariant.opened

pub returns-in-Failed-clause-goes : goal.returns-in-Failed-clause-goes
returns-in-Failed-clause-goes g c = λ terms late pass start first was. c.in-Failed.ensures.goes terms late pass start first (c.loop.invariant.goes terms late pass start first was)

pub returns-in-Failed-clause-opened : goal.returns-in-Failed-clause-opened
returns-in-Failed-clause-opened g c = c.in-Failed.ensures.opened ∙ c.loop.invariant.opened

pub loop-preserved : goal.loop-preserved
loop-preserved g c = record {
  goes = λ terms late pass start first was. c.in-Came.ensures.goes terms late pass start first (c.loop.invariant.goes terms late pass start first was);
  opened = c.in-Came.ensures.opened ∙ c.loop.invariant.opened;
}

pub returns-clause-goes : goal.returns-clause-goes
returns-clause-goes g c = c.loop.invariant.goes

pub returns-clause-opened : goal.returns-clause-opened
returns-clause-opened g c = c.loop.invariant.opened
