use Rattle.std.proofs.Common.{refl, sym, subst, ◌∙◌, IsSome, None, Some}
use Rattle.link_clients.proofs.HearingLemmas.{hosts_then, stands_same}
use Rattle.link_clients.proofs.host.hear_all.Goals as goal

pub loop-seat-init : goal.loop-seat-init
loop-seat-init g c = record {
  goes = λ start first was. stands_same c.args.terms (g.T.Pace.late c.args.rig.now.pace) start (g.L.Talks.seen c.args.talks.now) first c.args.pass.now c.args.hall.now _ refl refl refl refl was;
  opened = refl;
  is_open = c.requires.opened;
  late = refl;
}

pub returns-in-Some-clause-goes : goal.returns-in-Some-clause-goes
returns-in-Some-clause-goes g c =
    hosts_then c.args.terms (g.T.Pace.late c.args.rig.now.pace) (g.T.Pace.late c.loop-seat.rig.pace) (g.L.Talks.seen c.args.talks.now) (g.L.Talks.seen c.loop-seat.talks) (g.L.Talks.seen c.hear_one.new.talks)
    c.args.pass.now c.loop-seat.pass c.hear_one.new.pass c.args.hall.now c.loop-seat.hall c.hear_one.new.hall (Some c.in-Some.end) c.loop-seat.invariant.late c.loop-seat.invariant.goes c.in-Some.ensures.goes

pub loop-seat-preserved : goal.loop-seat-preserved
loop-seat-preserved g c = record {
  goes = hosts_then c.args.terms (g.T.Pace.late c.args.rig.now.pace) (g.T.Pace.late c.loop-seat.rig.pace) (g.L.Talks.seen c.args.talks.now) (g.L.Talks.seen c.loop-seat.talks) (g.L.Talks.seen c.hear_one.new.talks)
      c.args.pass.now c.loop-seat.pass c.hear_one.new.pass c.args.hall.now c.loop-seat.hall c.hear_one.new.hall None c.loop-seat.invariant.late c.loop-seat.invariant.goes c.in_default.ensures.goes;
  opened = c.in_default.ensures.opened ∙ c.loop-seat.invariant.opened;
  is_open = subst IsSome (sym c.in_default.ensures.opened) c.loop-seat.invariant.is_open;
  late = c.in_default.ensures.late ∙ c.loop-seat.invariant.late;
}
