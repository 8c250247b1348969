use Rattle.link_midi.proofs.CountLemmas.{pulse_after_all}
use Rattle.link_midi.proofs.laws.each_pulse_has_a_clock.Goals as goal

pub returns : goal.returns
returns c = pulse_after_all
