use Rattle.live_tests.proofs.tests.live.scripts.script_of.Goals as goal

pub returns-clause-apps : goal.returns-clause-apps
returns-clause-apps c = (c.scripts_have_commands.ensures _ _ _ _ _ _ c.in_ok-script.ensures.script).0

pub returns-clause-commands : goal.returns-clause-commands
returns-clause-commands c = (c.scripts_have_commands.ensures _ _ _ _ _ _ c.in_ok-script.ensures.script).1
