use Rattle.std.proofs.Common.{arith, refl, sym, subst, ◌∙◌, IsSome}
use Rattle.link_control.proofs.HeardLemmas.{piece_begun, piece_done, piece_on, piece_stopped}
use Rattle.link_control.proofs.server.take_bytes.Goals as goal

pub loop-byte-init : goal.loop-byte-init
loop-byte-init g c = record {
  taken = λ start before earlier run. piece_begun _ start _ before _ _ _ earlier _ run;
  left = refl;
  opened = refl;
  is_open = c.requires.opened;
  late = refl;
  capacity = refl;
  room = c.requires.room;
  moment = c.requires.moment;
}

pub returns-in-Some-clause-taken : goal.returns-in-Some-clause-taken
returns-in-Some-clause-taken g c = λ start before earlier run.
    piece_stopped _ _ start _ _ before _ _ _ _ _ c.take_byte.new.kept.last earlier c.args.bytes.now _ c.take_byte.new.kept.line.items c.loop-byte.byte-index 0 _ c.loop-byte.invariant.late c.loop-byte-test.true
    c.in-Some.ensures.taken (c.loop-byte.invariant.taken start before earlier run)

pub loop-byte-preserved : goal.loop-byte-preserved
loop-byte-preserved g c = record {
  taken = λ start before earlier run.
      piece_on _ _ start _ _ before _ _ _ _ _ _ earlier c.args.bytes.now _ _ c.loop-byte.byte-index 0 c.loop-byte.invariant.late c.loop-byte-test.true
      c.in_default.ensures.taken (c.loop-byte.invariant.taken start before earlier run);
  left = c.in_default.ensures.left ∙ c.loop-byte.invariant.left;
  opened = c.in_default.ensures.opened ∙ c.loop-byte.invariant.opened;
  is_open = subst IsSome (sym c.in_default.ensures.opened) c.loop-byte.invariant.is_open;
  late = c.in_default.ensures.late ∙ c.loop-byte.invariant.late;
  capacity = c.in_default.ensures.room ∙ c.loop-byte.invariant.capacity;
  room = omega (arith, c.in_default.ensures.room, c.loop-byte.invariant.room);
  moment = c.in_default.ensures.moment;
}

pub returns-clause-taken : goal.returns-clause-taken
returns-clause-taken g c = λ start before earlier run.
    piece_done _ start _ before _ _ _ earlier c.args.bytes.now _ c.loop-byte.byte-index c.loop-byte-test.false (c.loop-byte.invariant.taken start before earlier run)
