use Rattle.std.proofs.Common.{◌≡◌, ap, w64, to_z, of_z}
use Rattle.std.proofs.lemmas.Int.{to_z-of_z}
use Rattle.link_node.specs.Event.{App}
use Rattle.link_shared.proofs.OfferLemmas.{quiet, offered_as_well}
use Rattle.link_shared.proofs.keeper.Keeper.offer_app.Goals as goal

pub returns-clause-offered : goal.returns-clause-offered
returns-clause-offered g c =
    let same : to_z w64 (of_z w64 c.args.now) ≡ c.args.now = to_z-of_z w64 c.args.now c.ranges.now in
    offered_as_well _ _ _ _ _ _ _ _ _ (ap (App c.args.commit) same) c.offer.ensures.offered

pub returns-clause-sends : goal.returns-clause-sends
returns-clause-sends g c = quiet _ _ _ _ _ _ _ _ c.offer.ensures.offered (λ m. c.commits_send_nothing.ensures.app m _ _)
