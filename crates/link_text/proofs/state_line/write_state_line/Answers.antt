use Rattle.std.proofs.Common.{codes}
use Rattle.std.specs.Fmt.{decimal, signed_decimal}
use Rattle.link_text.specs.ReplayText.{profile_words, state_line_of}
use Rattle.link_lines.specs.Words.{truth_text_of}
use Rattle.link_text.proofs.JoinLemmas.{state_pieces}
use Rattle.link_text.proofs.state_line.write_state_line.Goals as goal

pub returns : goal.returns
unfolding state_line_of
returns c =
    let state = c.args.state.now in
    rw (c.put-5.ensures.items, c.put_profile.ensures.items, c.put_counts.ensures.items, c.put-4.ensures.items, c.put_client_start.ensures.items, c.put-3.ensures.items, c.put_timeline.ensures.items, c.put-2.ensures.items, c.put_decimal.ensures.items, c.put.ensures.items, c.clear.ensures)
    (state_pieces (codes "state ") (decimal c.args.number)
    (signed_decimal state.timeline.mpb) (signed_decimal state.timeline.beat) (signed_decimal state.timeline.time)
    (truth_text_of state.start.playing) (signed_decimal state.start.time) (signed_decimal state.start.stamp)
    (truth_text_of state.sync) (decimal state.peers) (signed_decimal state.moment) (decimal state.app) (decimal state.audio)
    (profile_words c.args.version state))
