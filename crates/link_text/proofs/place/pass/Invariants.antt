use Rattle.std.proofs.Common.{◌-◌, length}
use Rattle.link_text.specs.Places.{HasWalked}
use Rattle.link_text.proofs.place.pass.Given as goal

abbrev pub invariant-loop-place : goal.invariant-loop-place
invariant-loop-place l = HasWalked l.text l.fn.start l.place

abbrev pub decreases-loop-place : goal.decreases-loop-place
decreases-loop-place l = length l.text - l.place.at
