use Rattle.std.proofs.Common.{ap, ◌∙◌}
use Rattle.step_sequencer.specs.Sound.{next_ages}
use Rattle.step_sequencer.proofs.SoundLemmas.{ages_of, ages_are}
use Rattle.step_sequencer.proofs.kit.Kit.strike.Goals as goal

pub returns : goal.returns
returns c =
    let inside = ages_of c.self.inside.kick c.self.inside.snare c.self.inside.hat in
    ages_are c.args.strokes inside _ _ _ c.next_age-self-inside.ensures.value c.next_age-self-inside-2.ensures.value c.next_age-self-inside-3.ensures.value
    ∙ ap (next_ages c.args.strokes) c.self.view_is
