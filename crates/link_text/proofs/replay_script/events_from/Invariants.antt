use Rattle.std.proofs.Common.{◌-◌, length}
use Rattle.link_text.specs.Places.{IsAhead, HasEvents, counting_from}
use Rattle.link_text.proofs.replay_script.events_from.Given as goal

abbrev pub invariant-loop-place : goal.invariant-loop-place
invariant-loop-place l = record {
  ahead : IsAhead l.text l.place;
  events : HasEvents l.version l.gates (counting_from l.text l.fn.start.at) l.audio (counting_from l.text l.place.at);
}

abbrev pub decreases-loop-place : goal.decreases-loop-place
decreases-loop-place l = length l.text - l.place.at
