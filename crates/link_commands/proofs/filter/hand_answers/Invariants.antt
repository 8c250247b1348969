-- The lines before `at` are answered, and the answers are handed over.
use Rattle.std.proofs.Common.{◌≡◌, ◌-◌, length}
use Rattle.link_commands.proofs.FilterLemmas.{HasHandedAnswers}
use Rattle.link_commands.proofs.filter.hand_answers.Given as goal

abbrev pub invariant-loop-at : goal.invariant-loop-at
invariant-loop-at g l = record {
  handed : HasHandedAnswers l.text l.at l.pairs l.refused l.filter (g.K.Sink.seen l.fn.out).told l.fn.outlet.kept.items (g.K.Sink.seen l.out).told l.outlet.kept.items;
  quiet : (g.K.Sink.seen l.out).faults ≡ (g.K.Sink.seen l.fn.out).faults;
}

abbrev pub decreases-loop-at : goal.decreases-loop-at
decreases-loop-at g l = length l.text - l.at
