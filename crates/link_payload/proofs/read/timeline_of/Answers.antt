use Rattle.std.proofs.Common.{◌∙◌, rules}
use Rattle.link_payload.proofs.ValueLemmas.{timeline_is, stored_timeline}
use Rattle.link_payload.proofs.read.timeline_of.Goals as goal

pub returns : goal.returns
returns c =
    stored_timeline c.i64_at-mpb.result.0 c.i64_at-beat.result.0 c.i64_at-time.result.0 (search rules) (search rules) (search rules)
    ∙ timeline_is _ _ _ _ _ _ _ c.i64_at-mpb.ensures.bytes c.i64_at-beat.ensures.bytes c.i64_at-time.ensures.bytes (search rules) (search rules) (search rules)
