use Rattle.link_shared.proofs.QueueMoves.{pushes}
use Rattle.link_shared.proofs.desk.Desk.quit.Goals as goal

pub push_as-requires-clause-rule : goal.push_as-requires-clause-rule
push_as-requires-clause-rule g c = (pushes _ _ _ _ c.args.self.now.pass_is.2 tt, λ items hands k at. tt)
