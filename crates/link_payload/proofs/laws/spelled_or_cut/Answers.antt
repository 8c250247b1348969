use Rattle.link_payload.proofs.WalkLemmas.{walk_of, spelled_or_cut_by, not_both_of, one_cut_of}
use Rattle.link_payload.proofs.FoundLemmas.{walk_finds, spelled_found}
use Rattle.link_payload.proofs.laws.spelled_or_cut.Goals as goal

pub returns-clause-either : goal.returns-clause-either
returns-clause-either c = λ bytes are_bytes len. spelled_or_cut_by bytes (walk_of bytes are_bytes)

pub returns-clause-not_both : goal.returns-clause-not_both
returns-clause-not_both c = not_both_of

pub returns-clause-one_cut : goal.returns-clause-one_cut
returns-clause-one_cut c = one_cut_of

pub returns-clause-walked : goal.returns-clause-walked
returns-clause-walked c = λ payload are_bytes len. walk_finds payload are_bytes

pub returns-clause-spelled : goal.returns-clause-spelled
returns-clause-spelled c = spelled_found
