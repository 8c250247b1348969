use Rattle.link_live.proofs.ScriptLemmas.{are_block_commands, are_commands}
use Rattle.link_live.proofs.room.scripts_have_commands.Goals as goal

pub returns : goal.returns
returns c = λ text mpb sync gates apps blocks told.
    (are_commands text mpb sync gates apps blocks told, are_block_commands text mpb sync gates apps blocks told)
