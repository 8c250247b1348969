use Rattle.std.proofs.Common.{◌∙◌}
use Rattle.link_shared.proofs.AudioLemmas.{has_read_audio}
use Rattle.link_shared.proofs.DeskLemmas.{rests_after_read}
use Rattle.link_shared.proofs.link.Link.capture_audio.Goals as goal

pub invariant_of-pass : goal.invariant_of-pass
invariant_of-pass g c =
    let known = c.pass.invariant in
    let read = c.read-read.ensures in (
      read.cell ∙ known.0,
      known.1,
      rests_after_read (g.C.StateCell.reading c.pass.inside.reader) (g.C.StateCell.reading c.read-read.new.reader) _ _ known.2 read.read read.number read.never_falls.0,
      known.3,
      known.4,
      known.5,
    )

pub returns-clause-read : goal.returns-clause-read
returns-clause-read g c =
    let known = c.pass.invariant in
    let read = c.read-read.ensures in
    has_read_audio (g.C.StateCell.reading c.pass.inside.reader) (g.C.StateCell.reading c.read-read.new.reader) _ _ _ _ _ _ _
    known.2 read.read read.number read.never_falls.0 c.from_row-state.ensures.state c.shown.ensures.value known.4 c.pass.view_is
