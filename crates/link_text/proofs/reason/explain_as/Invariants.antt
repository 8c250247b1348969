use Rattle.std.proofs.Common.{◌-◌, length}
use Rattle.link_text.specs.Places.{IsAhead}
use Rattle.link_text.proofs.reason.explain_as.Given as goal

abbrev pub invariant-loop-place : goal.invariant-loop-place
invariant-loop-place l = IsAhead l.text l.place

abbrev pub decreases-loop-place : goal.decreases-loop-place
decreases-loop-place l = length l.text - l.place.at
