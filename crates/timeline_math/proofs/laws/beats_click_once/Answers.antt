use Rattle.timeline_math.proofs.ClickLemmas.{passed_once}
use Rattle.timeline_math.proofs.laws.beats_click_once.Goals as goal

pub returns : goal.returns
returns c = passed_once
