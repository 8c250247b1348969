use Rattle.std.proofs.Common.{◌≤◌, ◌*◌, ◌∙◌, length, refl, arith}
use Rattle.link_commands.specs.HexLines.{IsHexLine}
use Rattle.link_commands.proofs.DecodeLemmas.{decoded_none, line_holds, decoded_more, decoded_whole, decoded_part}
use Rattle.link_commands.proofs.OutletLemmas.{on_failure}
use Rattle.link_commands.proofs.decode.hand_lines.Goals as goal

pub loop-at-init : goal.loop-at-init
loop-at-init g c = record { decoded = decoded_none c.args.text.now _ _; quiet = refl; room = refl }

pub put_reading-requires-clause-hex : goal.put_reading-requires-clause-hex
put_reading-requires-clause-hex g c =
    line_holds IsHexLine c.args.text.now c.line_at-next.result.0.now c.loop-at.at _ _ _ _ _ c.loop-at.invariant.decoded c.line_at-next.ensures.lines c.requires.lines

pub put_reading-requires-clause-room : goal.put_reading-requires-clause-room
put_reading-requires-clause-room g c =
    let short : length c.line_at-next.result.0.now ≤ 2 * length c.args.bytes.now =
    line_holds (λ line. length line ≤ 2 * length c.args.bytes.now) c.args.text.now c.line_at-next.result.0.now c.loop-at.at _ _ _ _ _ c.loop-at.invariant.decoded c.line_at-next.ensures.lines c.requires.room in
    omega (arith, c.loop-at.invariant.room)

pub returns-in_err-put_line-clause-part : goal.returns-in_err-put_line-clause-part
returns-in_err-put_line-clause-part g c =
    on_failure c.from_residual.result
    (decoded_part c.all_are_read.ensures c.args.text.now c.line_at-next.result.0.now c.put_reading.new.line.items c.loop-at.at c.line_at-next.result.1 (length c.args.bytes.now) _ _ _ _ _
    c.loop-at.invariant.decoded c.line_at-next.ensures.lines c.requires.lines c.requires.room c.requires.few
    c.put_reading.ensures (rw c.as_slice.ensures.value at c.in_err-put_line.ensures.part))

pub loop-at-preserved : goal.loop-at-preserved
loop-at-preserved g c = record {
  decoded = decoded_more c.args.text.now c.line_at-next.result.0.now c.put_reading.new.line.items c.loop-at.at c.line_at-next.result.1 _ _ _ _ _ _
      c.loop-at.invariant.decoded c.line_at-next.ensures.lines c.line_at-next.ensures.within
      c.put_reading.ensures (rw c.as_slice.ensures.value at c.in_ok-put_line.ensures.kept);
  quiet = c.in_ok-put_line.ensures.quiet ∙ c.loop-at.invariant.quiet;
  room = c.put_reading.auto.bytes ∙ c.loop-at.invariant.room;
}

pub returns-clause-kept : goal.returns-clause-kept
returns-clause-kept g c = decoded_whole c.args.text.now c.loop-at.at _ _ _ _ c.loop-at.invariant.decoded (omega arith)
