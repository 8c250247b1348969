use Rattle.link_control.proofs.HeardLemmas.{feed_taken}
use Rattle.link_control.proofs.ServingLemmas.{byte_kept}
use Rattle.link_control.proofs.server.take_byte.Goals as goal

pub returns-then-byte-ne10-clause-taken : goal.returns-then-byte-ne10-clause-taken
returns-then-byte-ne10-clause-taken g c = λ start before earlier run.
    byte_kept _ start _ before _ _ _ earlier _ _ c.args.byte c.if-byte-ne10.true c.keep.ensures run

pub returns-clause-taken : goal.returns-clause-taken
returns-clause-taken g c = λ start before earlier run.
    feed_taken _ start _ before _ _ _ earlier _ c.args.byte _ c.if-byte-ne10.false (c.answer_line.ensures.taken start before earlier run)
