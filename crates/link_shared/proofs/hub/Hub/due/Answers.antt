use Rattle.std.proofs.Common.{◌∙◌, w64}
use Rattle.std.proofs.lemmas.Int.{to_z-of_z}
use Rattle.link_node.specs.Due.{due_of}
use Rattle.link_shared.proofs.TurnLemmas.{machine_tells}
use Rattle.link_shared.proofs.hub.Hub.due.Goals as goal

pub returns : goal.returns
returns g c = to_z-of_z w64 c.due.result (record { sfits = c.due.type_inv }) ∙ machine_tells c.self.inside.keeper.node _ _ _ due_of c.self.view_is c.self.inside.keeper.stands c.due.ensures
