use Rattle.link_shared.proofs.HearingLemmas.{all_heard_of}
use Rattle.link_shared.proofs.hub.hearing.hear_all.Goals as goal

pub returns-clause-heard : goal.returns-clause-heard
returns-clause-heard g c = all_heard_of _ _ _ _ _ _ _ _ _ _ c.requires.handed c.audit.ensures.whole c.hear_each.ensures.told
