use Rattle.link_commands.proofs.DecodeLemmas.{one_output}
use Rattle.link_commands.proofs.laws.one_output.Goals as goal

pub returns : goal.returns
returns c = one_output c.one_reading.ensures
