use Rattle.link_text.proofs.OneLoadLemmas.{one_text}
use Rattle.link_text.proofs.laws.one_load_text.Goals as goal

pub returns : goal.returns
returns c = one_text
