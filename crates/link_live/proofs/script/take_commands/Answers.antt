use Rattle.std.proofs.Common.{refl, ◌∙◌, ap, ℕ, ◌+◌, ◌≤◌, length, true, false, true≢false, sym, arith}
use Rattle.link_live.proofs.ScriptLemmas.{has_run, nothing_taken, one_taken}
use Rattle.link_live.proofs.script.take_commands.Goals as goal

pub loop-command-init : goal.loop-command-init
loop-command-init g c = record {
  run = nothing_taken _ _ _ _ _ c.requires.sole c.requires.empty;
  late = refl;
  captures_fit = (refl, omega (arith, ap length c.requires.empty.0));
  commits_fit = (refl, omega (arith, ap length c.requires.empty.1));
}

pub returns-then-not-take_command : goal.returns-then-not-take_command
returns-then-not-take_command g c = record {
  run = has_run _ _ _ _ _ _ false (λ e. absurd (true≢false (sym e)))
      (one_taken _ _ _ _ _ _ _ _ _ _ _ _ false c.loop-command.invariant.late c.loop-command-test.true c.if-not-take_command.true c.take_command.ensures.taken c.loop-command.invariant.run);
}

pub loop-command-preserved : goal.loop-command-preserved
loop-command-preserved g c = record {
  run = one_taken _ _ _ _ _ _ _ _ _ _ _ _ true c.loop-command.invariant.late c.loop-command-test.true c.if-not-take_command.false c.take_command.ensures.taken c.loop-command.invariant.run;
  late = c.take_command.ensures.late ∙ c.loop-command.invariant.late;
  captures_fit = (c.take_command.ensures.captures_fit.0 ∙ c.loop-command.invariant.captures_fit.0, add_one _ _ _ c.take_command.ensures.captures_fit.1 c.loop-command.invariant.captures_fit.1);
  commits_fit = (c.take_command.ensures.commits_fit.0 ∙ c.loop-command.invariant.commits_fit.0, add_one _ _ _ c.take_command.ensures.commits_fit.1 c.loop-command.invariant.commits_fit.1);
}
  where
    add_one : (a b n : ℕ) → a ≤ b + 1 → b ≤ n → a ≤ n + 1
    add_one a b n first second = omega (arith, first, second)
