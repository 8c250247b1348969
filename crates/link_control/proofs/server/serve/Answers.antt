use Rattle.std.proofs.Common.{arith, refl, sym, subst, ◌∙◌, IsSome}
use Rattle.std.proofs.lemmas.Int.{ints}
use Rattle.link_control.proofs.HeardLemmas.{has_ended, has_failed, has_stopped, heard_more, nothing_heard}
use Rattle.link_control.proofs.server.serve.Goals as goal

pub loop-init : goal.loop-init
loop-init g c = record {
  goes = (tt, tt);
  heard = nothing_heard _ _ _ _ _ _ c.requires.empty refl c.new.ensures;
  is_open = c.requires.opened;
  late = refl;
  room = c.requires.room;
  moment = (omega (arith, ints), omega (arith, ints));
}

pub returns-in-Some-take_bytes : goal.returns-in-Some-take_bytes
returns-in-Some-take_bytes g c = record {
  served = has_stopped _ _ _ _ _ _ _ _ _ _ _ _ c.take_bytes.new.kept.last _ c.take_bytes.new.kept.line.items _ _ c.loop.invariant.late c.in-Got.ensures.bytes.2
      c.in-Got.ensures.written c.in-Got.ensures.opened c.in-Got.ensures.cause c.in-Some-take_bytes.ensures.left c.in-Some-take_bytes.ensures.taken c.loop.invariant.heard;
}

pub loop-preserved : goal.loop-preserved
loop-preserved g c = record {
  goes = (tt, tt);
  heard = heard_more _ _ _ _ _ _ _ _ _ _ _ _ _ _ _ _ c.loop.invariant.late c.in-Got.ensures.bytes.2
      c.in-Got.ensures.written c.in-Got.ensures.opened c.in-Got.ensures.cause c.in_default.ensures.left c.in_default.ensures.taken c.loop.invariant.heard;
  is_open = subst IsSome (sym (c.in_default.ensures.opened ∙ c.in-Got.ensures.opened)) c.loop.invariant.is_open;
  late = c.in_default.ensures.late ∙ c.loop.invariant.late;
  room = omega (arith, c.in_default.ensures.room, c.loop.invariant.room);
  moment = c.in_default.ensures.moment;
}

pub returns-in-End : goal.returns-in-End
returns-in-End g c = record {
  served = has_ended _ _ _ _ _ _ _ _ _ c.in-End.ensures.bytes.0 c.in-End.ensures.written c.in-End.ensures.opened c.loop.invariant.heard c.in-End.ensures.bytes.1 c.in-End.ensures.cause;
}

pub returns-in-Failed : goal.returns-in-Failed
returns-in-Failed g c = record {
  served = has_failed _ _ _ _ _ _ _ _ _ c.in-Failed.ensures.bytes c.in-Failed.ensures.written c.in-Failed.ensures.opened c.loop.invariant.heard c.in-Failed.ensures.cause;
}
