use Rattle.std.specs.Fmt.{decimal, signed_decimal}
use Rattle.hex.specs.Hex.{encode_lower}
use Rattle.link_lines.specs.Words.{truth_text_of}
use Rattle.link_asks.specs.Views.{view_words}
use Rattle.link_asks.proofs.TextLemmas.{view_pieces}
use Rattle.link_asks.proofs.answer.put_view.Goals as goal

pub returns : goal.returns
unfolding view_words
returns c =
    let view = c.args.view.now in
    rw (c.put-5.ensures.items, c.put_session.ensures.items, c.put-4.ensures.items, c.put_playing.ensures.items, c.put-3.ensures.items, c.put_timeline_of.ensures.items, c.put-2.ensures.items, c.put.ensures.items, c.requires.empty)
    (view_pieces c.args.word.now (signed_decimal view.mpb) (signed_decimal view.beat) (signed_decimal view.time)
    (truth_text_of view.playing) (signed_decimal view.start_time) (decimal view.peers) (signed_decimal view.quantum)
    (encode_lower view.session.0) (decimal c.args.published))
