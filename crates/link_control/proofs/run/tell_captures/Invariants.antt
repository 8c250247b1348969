use Rattle.std.proofs.Common.{◌≡◌, take, vec_capacity, vec_len}
use Rattle.link_control.specs.Log.{captures_in}
use Rattle.link_control.proofs.run.tell_captures.Given as goal

abbrev pub invariant-loop-line : goal.invariant-loop-line
invariant-loop-line l = record {
  captures : l.captures.items ≡ captures_in (take l.line-index l.lines);
  len : vec_len l.captures ≡ l.line-index;
  capacity : vec_capacity l.captures ≡ vec_capacity l.fn.captures;
}
