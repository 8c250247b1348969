-- Nothing but the steps taken and the clogged seats changes.
use Rattle.std.proofs.Common.{◌≡◌, ◌-◌, length}
use Rattle.lk_talks.proofs.list_talks.ListTalks.take_steps.Given as goal

abbrev pub invariant-loop-self : goal.invariant-loop-self
invariant-loop-self l = record {
  rows : l.self.rows ≡ l.initial.self.rows;
  room : l.self.room ≡ l.initial.self.room;
  failures : l.self.failures ≡ l.initial.self.failures;
  opened : l.self.opened ≡ l.initial.self.opened;
}

abbrev pub decreases-loop-self : goal.decreases-loop-self
decreases-loop-self l = length l.self.steps.items - l.self.taken
