use Rattle.std.proofs.Common.{◌≡◌, ◌∙◌, sym, false, Option, Some, None, is_some, refl}
use Rattle.lk_base.specs.declared.timeline.Timeline.{Timeline}
use Rattle.link_node.specs.Commits.{commit_taken, client_taken}
use Rattle.link_node.specs.Machine.{Machine}
use Rattle.link_node.proofs.PartLemmas.{limit_back}
use Rattle.link_node.proofs.node.Node.take_commit.Goals as goal

-- where there is none, nothing is taken
untaken : (session : Option Timeline) (client : Timeline) (m : Machine) → is_some session ≡ false → client_taken session client m ≡ m
untaken None client m is = refl
untaken (Some session) client m is = cc

pub returns-then-take_client_timeline-clause-stands : goal.returns-then-take_client_timeline-clause-stands
unfolding commit_taken
returns-then-take_client_timeline-clause-stands c m stands =
    let answer = rw (limit_back _ c.requires.tidy.at) at (c.take_client_timeline.ensures.answer m stands) in
    let taken = rw (limit_back _ c.requires.tidy.at) at (c.take_client_timeline.ensures.stands m stands) in
    rw (c.in-Some.is, sym answer ∙ c.if-take_client_timeline.true) (c.take_rest.ensures.stands _ taken)

pub returns-else-take_client_timeline-clause-stands : goal.returns-else-take_client_timeline-clause-stands
unfolding commit_taken
returns-else-take_client_timeline-clause-stands c m stands =
    let answer = rw (limit_back _ c.requires.tidy.at) at (c.take_client_timeline.ensures.answer m stands) in
    let taken = rw (limit_back _ c.requires.tidy.at) at (c.take_client_timeline.ensures.stands m stands) in
    rw (c.in-Some.is, sym answer ∙ c.if-take_client_timeline.false) (rw (untaken _ _ _ (sym answer ∙ c.if-take_client_timeline.false)) at taken)

pub returns-in-None-clause-stands : goal.returns-in-None-clause-stands
unfolding commit_taken
returns-in-None-clause-stands c m stands = rw c.in-None.is (c.take_rest-in-None.ensures.stands m stands)
