use Rattle.std.proofs.Common.{◌≡◌}
use Rattle.live_tests.proofs.tests.shared.hand_over.read_all.Given as goal

abbrev pub invariant-loop-read : goal.invariant-loop-read
invariant-loop-read g l = (g.C.StateCell.reading l.reader).cell ≡ g.C.StateCell.cell l.cell
