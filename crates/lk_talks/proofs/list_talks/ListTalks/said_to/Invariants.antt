-- What was said by the first rows, and what the others say, is all that was said.
use Rattle.std.proofs.Common.{◌≡◌, ◌-◌, ◌++◌, ◌≤◌, length, drop}
use Rattle.std.specs.List.{flat_map}
use Rattle.lk_talks.specs.Steps.{said_by}
use Rattle.lk_talks.proofs.list_talks.ListTalks.said_to.Given as goal

abbrev pub invariant-loop-at : goal.invariant-loop-at
invariant-loop-at l = record {
  said : l.bytes.items ++ flat_map (said_by l.seat) (drop l.at l.self.rows.items) ≡ flat_map (said_by l.seat) l.self.rows.items;
  within : l.at ≤ length l.self.rows.items;
}

abbrev pub decreases-loop-at : goal.decreases-loop-at
decreases-loop-at l = length l.self.rows.items - l.at
