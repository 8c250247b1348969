use Rattle.std.proofs.Common.{◌-◌}
use Rattle.link_text.specs.Load.{load_line_of}
use Rattle.link_text.specs.ReplayText.{state_line_of}
use Rattle.link_commands.proofs.LoadLemmas.{told_part_kept}
use Rattle.link_commands.proofs.OutletLemmas.{on_failure}
use Rattle.link_commands.proofs.load.write_load.Goals as goal

pub returns-in_err-flush-clause-part : goal.returns-in_err-flush-clause-part
returns-in_err-flush-clause-part g c =
    let counts = c.args.counts.now in
    on_failure c.from_residual-in_err-flush.result
    (told_part_kept (load_line_of counts.events counts.states counts.sends) (state_line_of 2 (counts.states - 1) c.args.state.now) _ _ _ _ _ _ _
    c.requires.empty (rw (c.as_slice.ensures.value, c.write_load_line.ensures) at c.in_ok-put_line.ensures.kept)
    c.in_ok-hand_state.ensures.kept c.in_err-flush.ensures.part)
