use Rattle.std.proofs.Common.{sym, ◌∙◌, w64}
use Rattle.std.proofs.lemmas.Int.{to_z-of_z}
use Rattle.link_live.proofs.AskLemmas.{moment_fits}
use Rattle.link_live.proofs.ScriptLemmas.{act_taken, look_taken}
use Rattle.link_live.proofs.script.take_command.Goals as goal

pub returns-then-looks-clause-taken : goal.returns-then-looks-clause-taken
returns-then-looks-clause-taken g c = λ commands count comes run.
    look_taken _ commands count c.args.command.now _ _ _ _ _ _ _ _ (sym c.looks.ensures ∙ c.if-looks.true) (to_z-of_z w64 _ (moment_fits _ c.requires.command.0))
    c.until-at.ensures.answer c.in-Ok.ensures.captured c.push_reserved.ensures.items comes run

pub returns-clause-taken : goal.returns-clause-taken
returns-clause-taken g c = λ commands count comes run.
    act_taken _ commands count c.args.command.now _ _ _ _ _ _ _ _ _ _ _ _ _ (sym c.looks.ensures ∙ c.if-looks.false) (to_z-of_z w64 _ (moment_fits _ c.requires.command.0))
    (to_z-of_z w64 _ (record { sfits = c.until-at.type_inv }))
    c.until-at.ensures.answer c.in-Ok.ensures.captured c.commit_of-commit.ensures.value c.hand_over.ensures.committed
    c.push_reserved.ensures.items c.push_reserved-2.ensures.items comes run
