use Rattle.link_commands.proofs.OutletLemmas.{on_failure, over_part_last}
use Rattle.link_commands.proofs.run_text.write_output.Goals as goal

pub returns-in_err-flush-clause-part : goal.returns-in_err-flush-clause-part
returns-in_err-flush-clause-part g c =
    on_failure c.from_residual-in_err-flush.result
    (over_part_last ((g.T.TextCommand.command c.args.params.now).Gives c.args.text.now) _ _ _ _ _ c.requires.empty c.in_ok-hand.ensures.kept c.in_err-flush.ensures.part)
