use Rattle.std.proofs.lemmas.Bool.{OnTrue_at}
use Rattle.drum_machine.proofs.RehearsalLemmas.{is_rehearsed}
use Rattle.drum_machine.proofs.rehearsal.rehearse_bars.Goals as goal

pub returns-clause-told : goal.returns-clause-told
returns-clause-told g c = is_rehearsed _ _ _ _ _ _ _ _ (OnTrue_at c.if-not-written.false c.play_bars-block.ensures.told) c.tell_done.ensures.told
