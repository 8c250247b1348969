use Rattle.link_payload.proofs.WalkLemmas.{one_spelled}
use Rattle.link_payload.proofs.laws.one_spelling.Goals as goal

pub returns : goal.returns
returns c = one_spelled
