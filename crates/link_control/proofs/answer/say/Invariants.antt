use Rattle.std.proofs.Common.{length, take, ◌-◌, ◌≡◌, ◌≤◌, IsSome}
use Rattle.lk_outside.specs.Sink.{Appends}
use Rattle.link_control.proofs.answer.say.Given as goal

abbrev pub invariant-loop-done : goal.invariant-loop-done
invariant-loop-done g l = record {
  within : l.done ≤ length l.answer;
  written : Appends (g.L.Talk.seen l.fn.talk).written (take l.done l.answer) (g.L.Talk.seen l.talk).written;
  faults : (g.L.Talk.seen l.talk).faults ≡ (g.L.Talk.seen l.fn.talk).faults;
  left : (g.L.Talk.seen l.talk).left ≡ (g.L.Talk.seen l.fn.talk).left;
  opened : (g.L.Talk.seen l.talk).opened ≡ (g.L.Talk.seen l.fn.talk).opened;
  is_open : IsSome (g.L.Talk.seen l.talk).opened;
}

abbrev pub decreases-loop-done : goal.decreases-loop-done
decreases-loop-done g l = length l.answer - l.done
