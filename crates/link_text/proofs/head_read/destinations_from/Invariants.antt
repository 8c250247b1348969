use Rattle.std.proofs.Common.{◌-◌, ◌≤◌, length}
use Rattle.link_text.specs.HeadParts.{HasDestinations}
use Rattle.link_text.specs.Places.{IsAhead, counting_from}
use Rattle.link_text.proofs.head_read.destinations_from.Given as goal

abbrev pub invariant-loop-place : goal.invariant-loop-place
invariant-loop-place l = record {
  ahead : IsAhead l.text l.place;
  destinations : HasDestinations (counting_from l.text l.fn.start.at) l.destinations.items (counting_from l.text l.place.at);
  further : l.fn.start.at ≤ l.place.at;
}

abbrev pub decreases-loop-place : goal.decreases-loop-place
decreases-loop-place l = length l.text - l.place.at
