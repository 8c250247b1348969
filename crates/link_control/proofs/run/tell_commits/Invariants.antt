use Rattle.std.proofs.Common.{◌≡◌, ◌≤◌, take, vec_capacity, vec_len}
use Rattle.link_control.proofs.ClientLemmas.{made_in}
use Rattle.link_control.proofs.run.tell_commits.Given as goal

abbrev pub invariant-loop-line : goal.invariant-loop-line
invariant-loop-line l = record {
  commits : l.commits.items ≡ made_in (take l.line-index l.lines);
  len : vec_len l.commits ≤ l.line-index;
  capacity : vec_capacity l.commits ≡ vec_capacity l.fn.commits;
}
