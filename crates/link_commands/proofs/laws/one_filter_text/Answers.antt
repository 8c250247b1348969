use Rattle.link_commands.proofs.FilterLemmas.{one_filter_text}
use Rattle.link_commands.proofs.laws.one_filter_text.Goals as goal

pub returns : goal.returns
returns c = one_filter_text c.one_value.ensures c.one_pair.ensures
