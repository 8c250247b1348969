use Rattle.std.proofs.Common.{arith}
use Rattle.link_text.proofs.PlaceLemmas.{walked_more, passed_first, stops_end, stops_first}
use Rattle.link_text.proofs.place.pass.Goals as goal

pub loop-place-preserved : goal.loop-place-preserved
loop-place-preserved c =
    let text = c.args.text.now in
    let at = c.loop-place.place.at in
    walked_more text c.args.start c.loop-place.place _ _ c.loop-place.invariant c.line_at-next.ensures.lines
    (passed_first text _ at _ (omega arith) c.line_at-next.ensures.lines (c.begins_passed.ensures.0 c.if-not-begins_passed.false))
    (omega arith) c.line_at-next.ensures.further c.line_at-next.ensures.within

pub returns-then-not-begins_passed : goal.returns-then-not-begins_passed
returns-then-not-begins_passed c = record {
  walked = c.loop-place.invariant;
  stops = stops_first c.args.text.now c.loop-place.place.at (omega arith) (λ either. cc (c.begins_passed.ensures.1 either, c.if-not-begins_passed.true));
}

pub returns : goal.returns
returns c = record { walked = c.loop-place.invariant; stops = stops_end c.args.text.now c.loop-place.place.at (omega arith) }
