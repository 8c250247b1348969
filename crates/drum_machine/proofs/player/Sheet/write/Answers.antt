use Rattle.std.proofs.Common.{◌∙◌}
use Rattle.std.proofs.lemmas.Bool.{OnTrue_at, OnFalse_at}
use Rattle.drum_machine.proofs.PlayedLemmas.{lines_cut, sound_cut}
use Rattle.drum_machine.proofs.player.Sheet.write.Goals as goal

pub returns-then-not-write_whole-clause-front : goal.returns-then-not-write_whole-clause-front
returns-then-not-write_whole-clause-front g c =
    sound_cut _ _ _ _ _ _ (c.deref.ensures.0 ∙ c.put_samples.ensures) (OnFalse_at c.if-not-write_whole.true c.write_whole.ensures.part)

pub returns-clause-front : goal.returns-clause-front
returns-clause-front g c =
    lines_cut _ _ _ _ _ _ _ _ _ (c.deref.ensures.0 ∙ c.put_samples.ensures) c.as_slice.ensures.value (OnTrue_at c.if-not-write_whole.false c.write_whole.ensures.whole)
    c.write_lines.ensures.part
