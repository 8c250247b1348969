-- So many events were taken as are counted, for the seed that the load began with.
use Rattle.std.proofs.Common.{◌≤◌, ◌-◌}
use Rattle.link_commands.specs.Loading.{NodeHasTaken}
use Rattle.link_commands.proofs.load.Load.take_events.Given as goal

abbrev pub invariant-loop-counts : goal.invariant-loop-counts
invariant-loop-counts l = record {
  taken : NodeHasTaken l.fn.self.events.seed l.self.events l.self.node l.counts;
  within : l.counts.events ≤ l.count;
}

abbrev pub decreases-loop-counts : goal.decreases-loop-counts
decreases-loop-counts l = l.count - l.counts.events
