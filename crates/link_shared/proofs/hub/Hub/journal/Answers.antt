use Rattle.std.proofs.Common.{◌≤◌, length, map, sym, subst, arith}
use Rattle.std.proofs.lemmas.List.{length-map}
use Rattle.link_node.specs.Config.{gate_value}
use Rattle.link_node.specs.Event.{event_value}
use Rattle.link_node.specs.Runs.{AreFitting}
use Rattle.link_shared.specs.Hub.{HubView}
use Rattle.link_shared.proofs.EndingLemmas.{fitting_of}
use Rattle.link_shared.proofs.LastTurnLemmas.{fitting_again}
use Rattle.link_shared.proofs.hub.Hub.journal.Goals as goal

pub returns-clause-fits : goal.returns-clause-fits
returns-clause-fits g c =
    let keeper = c.self.inside.keeper in
    subst (λ (h : HubView). AreFitting (length h.config.gates) 0 0 h.journal) c.self.view_is
    (fitting_of _ _ (fitting_again _ _ _ (sym (length-map keeper.node.config.gates.items gate_value)) keeper.fitting))

pub returns-clause-room : goal.returns-clause-room
returns-clause-room g c =
    let keeper = c.self.inside.keeper in
    subst (λ (h : HubView). length h.journal ≤ h.most) c.self.view_is
    (let few : length (map event_value keeper.journal.items) ≤ keeper.most = omega (arith, length-map keeper.journal.items event_value, keeper.room.few_events) in few)
