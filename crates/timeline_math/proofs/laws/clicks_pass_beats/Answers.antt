use Rattle.timeline_math.proofs.ClickLemmas.{click_passes, passing_clicks}
use Rattle.timeline_math.proofs.laws.clicks_pass_beats.Goals as goal

pub returns : goal.returns
returns c =
    (click_passes c.args.tl.now c.args.time c.requires, passing_clicks c.args.tl.now c.args.time c.requires)
