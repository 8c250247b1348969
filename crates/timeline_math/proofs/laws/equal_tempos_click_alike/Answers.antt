use Rattle.timeline_math.proofs.ClickLemmas.{clicks_alike, accents_alike, beats_alike}
use Rattle.timeline_math.proofs.laws.equal_tempos_click_alike.Goals as goal

pub returns-clause-click : goal.returns-clause-click
returns-clause-click c = clicks_alike

pub returns-clause-accent : goal.returns-clause-accent
returns-clause-accent c = accents_alike

pub returns-clause-beat : goal.returns-clause-beat
returns-clause-beat c = beats_alike
