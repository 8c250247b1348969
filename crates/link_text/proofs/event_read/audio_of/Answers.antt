use Rattle.std.proofs.Common.{arith}
use Rattle.link_text.proofs.EventLemmas.{no_low_audio}
use Rattle.link_text.proofs.event_read.audio_of.Goals as goal

pub returns-then-number-last-clause-none : goal.returns-then-number-last-clause-none
returns-then-number-last-clause-none c = λ gates e says.
    no_low_audio gates c.args.last c.in-Some.number _ _ _ e c.in-Some.ensures.some.1 (omega (arith, c.in-Some.ensures.some.0)) c.if-number-last.true says
