use Rattle.std.proofs.Common.{◌∙◌, arith, refl, sym, subst, IsSome}
use Rattle.std.proofs.lemmas.Int.{ints}
use Rattle.link_clients.proofs.HostLemmas.{begun, stands_at, stopped_at, stored_wait}
use Rattle.link_clients.proofs.host.host.Goals as goal

pub loop-init : goal.loop-init
loop-init g c = record {
  goes = (tt, tt);
  stands = begun _ _ _ _ c.args.hall.now c.requires.fresh;
  is_open = c.requires.opened;
  late = refl;
  from = omega (arith, ints);
  to = omega (arith, ints);
}

pub round-requires-clause-opened : goal.round-requires-clause-opened
round-requires-clause-opened g c κs within = c.loop.invariant.is_open

pub returns-in-Some-round : goal.returns-in-Some-round
returns-in-Some-round g c = record {
  hosted = stopped_at _ _ _ _ _ _ _ _ c.loop.invariant.late (c.in-Some-round.ensures.goes _ _ (stands_at _ _ _ _ _ _ _ _ (sym c.loop.invariant.late) c.loop.invariant.stands));
}

pub loop-preserved : goal.loop-preserved
loop-preserved g c = record {
  goes = (tt, tt);
  stands = stands_at _ _ _ _ _ _ _ _ c.loop.invariant.late (c.in_default.ensures.goes _ _ (stands_at _ _ _ _ _ _ _ _ (sym c.loop.invariant.late) c.loop.invariant.stands));
  is_open = subst IsSome (sym c.in_default.ensures.opened) c.loop.invariant.is_open;
  late = c.in_default.ensures.late ∙ c.loop.invariant.late;
  from = (stored_wait _ c.wait_in-wait.ensures).0;
  to = (stored_wait _ c.wait_in-wait.ensures).1;
}
