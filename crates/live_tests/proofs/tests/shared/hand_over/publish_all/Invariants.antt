use Rattle.std.proofs.Common.{◌≡◌, ◌+◌, length}
use Rattle.live_tests.proofs.tests.shared.hand_over.publish_all.Given as goal

abbrev pub invariant-loop-number : goal.invariant-loop-number
invariant-loop-number g l = record { cell : (g.C.StateCell.writing l.writer).cell ≡ g.C.StateCell.cell l.cell; made : length (g.C.StateCell.writing l.writer).made ≡ l.number + 1 }
