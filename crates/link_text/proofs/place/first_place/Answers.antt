use Rattle.std.proofs.Common.{refl, []}
use Rattle.link_text.proofs.PlaceLemmas.{ahead_of, counting_same}
use Rattle.link_text.proofs.place.first_place.Goals as goal

pub returns-clause-ahead : goal.returns-clause-ahead
returns-clause-ahead c = ahead_of c.args.text.now (record { at = 0; number = 1 }) c.pass.result [] refl refl c.pass.ensures

pub returns-clause-counting : goal.returns-clause-counting
returns-clause-counting c = counting_same c.args.text.now (record { at = 0; number = 1 }) c.pass.result c.pass.ensures.walked
