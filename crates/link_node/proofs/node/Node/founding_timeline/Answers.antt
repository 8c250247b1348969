use Rattle.std.proofs.Common.{◌∙◌, refl}
use Rattle.link_node.specs.Settling.{founding_timeline_in}
use Rattle.link_node.proofs.NumberLemmas.{moment-back, within-back, mpb-back}
use Rattle.link_node.proofs.node.Node.founding_timeline.Goals as goal

pub returns-clause-value : goal.returns-clause-value
unfolding founding_timeline_in
returns-clause-value c m stands =
    let tidy = c.current-current.ensures.tidy c.args.self.now.timelines in
    let moment = moment-back c.args.self.now.moment c.args.self.now.in_time ∙ stands.moment in
    let timeline = c.current-current.ensures.timeline m.sessions stands.sessions in
    let xform = c.current-current.ensures.xform m.sessions stands.sessions in
    let mpb = mpb-back c.current-current.result.timeline.mpb tidy.fastest tidy.slowest in
    let beat = within-back c.beat_at-beat.result c.beat_at-beat.ensures.within in
    let ghost_time = within-back c.to_ghost.result c.to_ghost.ensures.within in
    rw (mpb, beat, c.beat_at-beat.ensures.value, ghost_time, c.to_ghost.ensures.value, moment, timeline, xform) refl
