use Rattle.std.proofs.Common.{◌∙◌, length, refl, ap, arith}
use Rattle.link_control.proofs.TellLemmas.{commits_all, commits_more}
use Rattle.link_control.proofs.run.tell_commits.Goals as goal

pub loop-line-init : goal.loop-line-init
loop-line-init c = record {
  commits = c.requires.empty;
  len = omega (arith, ap length c.requires.empty);
  capacity = refl;
}

pub loop-line-preserved : goal.loop-line-preserved
loop-line-preserved c = record {
  commits = commits_more c.args.lines.now c.loop-line.line-index _ _ _ c.loop-line-test.true c.loop-line.invariant.commits c.tell_commit.ensures.items;
  len = omega (arith, c.tell_commit.ensures.len, c.loop-line.invariant.len);
  capacity = c.tell_commit.ensures.capacity ∙ c.loop-line.invariant.capacity;
}

pub returns : goal.returns
returns c = commits_all c.args.lines.now c.loop-line.line-index _ (omega (arith, c.loop-line-test.false)) c.loop-line.invariant.commits
