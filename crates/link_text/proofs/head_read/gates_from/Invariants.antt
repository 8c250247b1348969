use Rattle.std.proofs.Common.{◌-◌, length, map}
use Rattle.link_node.specs.Config.{gate_value}
use Rattle.link_text.specs.HeadParts.{HasGates}
use Rattle.link_text.specs.Places.{IsAhead, counting_from}
use Rattle.link_text.proofs.head_read.gates_from.Given as goal

abbrev pub invariant-loop-place : goal.invariant-loop-place
invariant-loop-place l = record {
  ahead : IsAhead l.text l.place;
  gates : HasGates (counting_from l.text l.fn.start.at) (map gate_value l.gates.items) (counting_from l.text l.place.at);
}

abbrev pub decreases-loop-place : goal.decreases-loop-place
decreases-loop-place l = length l.text - l.place.at
