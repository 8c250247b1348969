use Rattle.ghost_xform.proofs.RankLemmas.{HasRank-Contains, one_rank, ranked_in-HasRank}
use Rattle.ghost_xform.proofs.laws.one_value_a_rank.Goals as goal

pub returns-clause-there : goal.returns-clause-there
returns-clause-there c = ranked_in-HasRank

pub returns-clause-element : goal.returns-clause-element
returns-clause-element c = HasRank-Contains

pub returns-clause-one : goal.returns-clause-one
returns-clause-one c = one_rank
