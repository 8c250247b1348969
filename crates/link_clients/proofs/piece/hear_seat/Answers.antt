use Rattle.std.proofs.Common.{[], refl, sym, ◌∙◌, ap}
use Rattle.link_clients.specs.Standing.{sight_of}
use Rattle.link_clients.proofs.ComingLemmas.{heard_some, went}
use Rattle.link_clients.proofs.HearingLemmas.{heard_seated, is_free, piece_heard}
use Rattle.link_clients.proofs.SeatLemmas.{get_other, get_set}
use Rattle.link_clients.proofs.piece.hear_seat.Goals as goal

pub returns-in-On : goal.returns-in-On
returns-in-On g c = record {
  goes = λ start first was.
      piece_heard _ _ start _ first _ _ c.args.seat _ c.in-On.is (c.take_bytes.ensures.taken start first []
      (heard_some _ _ start (g.L.Talks.seen c.args.talks.now) _ first _ c.args.hall.now c.mark_heard.new.hall c.args.seat c.requires.here.0
      (record c.requires.here.0 { heard_at = c.args.hall.now.last; eager = 0 }) c.requires.seat
      c.in-Got.ensures.opened c.in-Got.ensures.cause c.mark_heard.ensures.last c.mark_heard.ensures.newest (ap sight_of c.mark_heard.ensures.sighted) c.requires.here.1
      (c.mark_heard.ensures.marked c.requires.here.0 c.requires.here.1) c.mark_heard.ensures.others was _ (sym c.args.hall.now.seats.ok.0 ∙ c.args.hall.now.count)
      c.requires.here.2 c.in-Got.ensures.passed c.requires.here.2 refl
      (λ view seated. heard_seated c.requires.here.0 c.requires.here.0 _ c.args.hall.now.last _ view refl refl seated)));
  opened = c.take_bytes.ensures.opened ∙ c.in-Got.ensures.opened;
  late = c.take_bytes.ensures.late;
}

pub returns-in-Over-clause-goes : goal.returns-in-Over-clause-goes
returns-in-Over-clause-goes g c = λ start first was.
    c.in-Over.ensures.taken start first []
    (heard_some _ _ start (g.L.Talks.seen c.args.talks.now) _ first _ c.args.hall.now c.mark_heard.new.hall c.args.seat c.requires.here.0
    (record c.requires.here.0 { heard_at = c.args.hall.now.last; eager = 0 }) c.requires.seat
    c.in-Got.ensures.opened c.in-Got.ensures.cause c.mark_heard.ensures.last c.mark_heard.ensures.newest (ap sight_of c.mark_heard.ensures.sighted) c.requires.here.1
    (c.mark_heard.ensures.marked c.requires.here.0 c.requires.here.1) c.mark_heard.ensures.others was _ (sym c.args.hall.now.seats.ok.0 ∙ c.args.hall.now.count)
    c.requires.here.2 c.in-Got.ensures.passed c.requires.here.2 refl
    (λ view seated. heard_seated c.requires.here.0 c.requires.here.0 _ c.args.hall.now.last _ view refl refl seated))

pub returns-in-Left-clause-goes : goal.returns-in-Left-clause-goes
returns-in-Left-clause-goes g c = λ start first was.
    went _ _ start (g.L.Talks.seen c.args.talks.now) _ first _ c.args.hall.now _ c.args.seat c.requires.here.0 c.free.result c.requires.seat c.in-Left.ensures.opened c.in-Left.ensures.cause
    refl refl refl c.requires.here.1 (get_set c.args.hall.now.seats.items c.args.seat c.free.result c.requires.here.0 c.requires.here.1)
    (λ t other. get_other c.args.hall.now.seats.items c.args.seat t c.free.result other) was c.requires.here.2 c.in-Left.ensures.passed
    (is_free c.free.result c.free.ensures.flags.0 c.free.ensures.flags.1 c.free.ensures.line c.free.ensures.told.0 c.free.ensures.told.1 c.free.ensures.told.2)
