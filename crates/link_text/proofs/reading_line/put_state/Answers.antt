use Rattle.std.specs.Fmt.{decimal, signed_decimal}
use Rattle.link_lines.specs.Words.{truth_text_of}
use Rattle.link_text.specs.ReadingLine.{id_text_of, maybe_endpoint_text_of}
use Rattle.link_text.proofs.JoinLemmas.{state_line}
use Rattle.link_text.proofs.reading_line.put_state.Goals as goal

pub returns : goal.returns
returns c =
    rw (c.put-5.ensures.items, c.put_maybe_endpoint.ensures.items, c.put-4.ensures.items, c.put_start.ensures.items, c.put-3.ensures.items, c.put_id.ensures.items, c.put-2.ensures.items, c.put_timeline.ensures.items, c.put.ensures.items, c.put_sender.ensures.items)
    (state_line c.args.line.now.items
    (id_text_of c.args.state.now.from) (decimal c.args.state.now.ttl) (decimal c.args.state.now.group)
    (signed_decimal c.args.state.now.fields.timeline.mpb) (signed_decimal c.args.state.now.fields.timeline.beat) (signed_decimal c.args.state.now.fields.timeline.time)
    (id_text_of c.args.state.now.fields.session)
    (truth_text_of c.args.state.now.fields.start.playing) (signed_decimal c.args.state.now.fields.start.beats) (signed_decimal c.args.state.now.fields.start.stamp)
    (maybe_endpoint_text_of c.args.state.now.fields.endpoint))
