use Rattle.std.proofs.Common.{codes}
use Rattle.std.specs.Fmt.{decimal, signed_decimal}
use Rattle.link_lines.specs.Words.{truth_text_of}
use Rattle.link_control.specs.Answers.{status_text_of}
use Rattle.link_control.proofs.TextLemmas.{status_pieces}
use Rattle.link_control.proofs.answer.put_status.Goals as goal

pub returns : goal.returns
unfolding status_text_of
returns c =
    let shown = c.args.shown.now in
    rw (c.put-2.ensures.items, c.put_shown.ensures.items, c.put.ensures.items, c.requires)
    (status_pieces (codes "status ") (signed_decimal shown.timeline.mpb) (signed_decimal shown.timeline.beat) (signed_decimal shown.timeline.time)
    (truth_text_of shown.start.playing) (decimal shown.peers))
