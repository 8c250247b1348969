use Rattle.link_words.proofs.CommandWordLemmas.{bare_command}
use Rattle.link_words.proofs.command_words.bare.Goals as goal

pub returns : goal.returns
returns c =
    bare_command c.args.name.now c.new.result c.in_ok-command.command c.disable_help_flag.result c.disable_version_flag.result
    c.new.ensures.app c.new.ensures.empty.0 c.new.ensures.empty.1 c.new.ensures.local c.new.ensures.negates
    c.in_ok-command.ensures.0 c.disable_help_flag.ensures c.disable_version_flag.ensures
