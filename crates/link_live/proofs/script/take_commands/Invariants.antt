use Rattle.std.proofs.Common.{◌≡◌, ◌≤◌}
use Rattle.std.specs.Prelude.{vec_capacity, vec_len}
use Rattle.link_live.specs.TakingRun.{IsTaking}
use Rattle.link_live.proofs.script.take_commands.Given as goal

abbrev pub invariant-loop-command : goal.invariant-loop-command
invariant-loop-command g l = record {
  run : IsTaking (g.T.Pace.late l.fn.pace) l.commands l.command-index l.pass l.report.captures.items l.report.commits.items;
  late : g.T.Pace.late l.pace ≡ g.T.Pace.late l.fn.pace;
  captures_fit : (vec_capacity l.report.captures ≡ vec_capacity l.fn.report.captures) × (vec_len l.report.captures ≤ l.command-index);
  commits_fit : (vec_capacity l.report.commits ≡ vec_capacity l.fn.report.commits) × (vec_len l.report.commits ≤ l.command-index);
}
