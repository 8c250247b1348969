use Rattle.link_node.proofs.FollowingLemmas.{step-follows, opened-follows}
use Rattle.link_node.proofs.ShowingLemmas.{replayed-shows, step-shows}
use Rattle.link_node.proofs.staying.clients_follow_sessions.Goals as goal

pub returns-clause-opening : goal.returns-clause-opening
returns-clause-opening c = opened-follows c.one_best.ensures.there c.one_best.ensures.one

pub returns-clause-step : goal.returns-clause-step
returns-clause-step c = step-follows c.one_best.ensures.there c.one_best.ensures.one

pub returns-clause-run : goal.returns-clause-run
returns-clause-run c = replayed-shows c.one_best.ensures.there c.one_best.ensures.one

pub returns-clause-shown : goal.returns-clause-shown
returns-clause-shown c = step-shows
