-- Those so far lie in the span.
use Rattle.std.proofs.Common.{take}
use Rattle.link_hostfilter.specs.Span.{AreAmong}
use Rattle.link_hostfilter.proofs.span.Span.of.Given as goal

abbrev pub invariant-loop-pair : goal.invariant-loop-pair
invariant-loop-pair l = AreAmong l.span (take l.pair-index l.pairs)
