use Rattle.std.proofs.Common.{refl, ◌∙◌, w64}
use Rattle.std.proofs.lemmas.Bool.{OnTrue_at, OnFalse_at}
use Rattle.std.proofs.lemmas.Int.{to_z-of_z}
use Rattle.link_live.proofs.AskLemmas.{moment_fits}
use Rattle.drum_machine.proofs.ScoreLemmas.{block_part, block_told, struck_at}
use Rattle.drum_machine.proofs.TextLemmas.{prefix_of_more}
use Rattle.drum_machine.proofs.score.Score.tell_block.Goals as goal

pub returns-then-not-tell_tempo-clause-part : goal.returns-then-not-tell_tempo-clause-part
returns-then-not-tell_tempo-clause-part g c = prefix_of_more _ _ _ _ _ refl (OnFalse_at c.if-not-tell_tempo.true c.tell_tempo.ensures.part)

pub returns-clause-told : goal.returns-clause-told
returns-clause-told g c =
    block_told _ _ _ _ _ _ _ (c.as_slice.ensures.value ∙ c.steps_begun-hits.ensures ∙ struck_at _ _ _ _ (to_z-of_z w64 _ (moment_fits _ c.requires.origin)))
    (OnTrue_at c.if-not-tell_tempo.false c.tell_tempo.ensures.told) _ c.tell_steps.ensures.told

pub returns-clause-part : goal.returns-clause-part
returns-clause-part g c =
    block_part _ _ _ _ _ _ _ (c.as_slice.ensures.value ∙ c.steps_begun-hits.ensures ∙ struck_at _ _ _ _ (to_z-of_z w64 _ (moment_fits _ c.requires.origin)))
    (OnTrue_at c.if-not-tell_tempo.false c.tell_tempo.ensures.told) _ c.tell_steps.ensures.part
