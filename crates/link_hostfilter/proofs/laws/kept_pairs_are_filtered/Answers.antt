use Rattle.link_hostfilter.proofs.FilterLemmas.{kept_filtered}
use Rattle.link_hostfilter.proofs.laws.kept_pairs_are_filtered.Goals as goal

pub returns : goal.returns
returns c = kept_filtered
