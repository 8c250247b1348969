use Rattle.std.proofs.Common.{ap, ◌∙◌}
use Rattle.link_shared.proofs.QueueMoves.{pushes}
use Rattle.link_shared.proofs.desk.Desk.commit.Goals as goal

pub push_as-requires-clause-rule : goal.push_as-requires-clause-rule
push_as-requires-clause-rule g c = (pushes _ _ _ _ (ap (λ h. h.pushes) c.hear_pass.ensures.heard ∙ c.args.self.now.pass_is.2) c.requires.commit, λ items hands k at. tt)
