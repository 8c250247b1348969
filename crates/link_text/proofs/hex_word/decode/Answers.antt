use Rattle.std.proofs.Common.{arith, ◌∙◌, ◌+◌, ◌*◌, slice_index}
use Rattle.hex.proofs.HexLemmas.{decode_of-even}
use Rattle.hex.proofs.Pairs.{decode_done, decode_step}
use Rattle.link_text.proofs.HexWordLemmas.{pair_is}
use Rattle.link_text.proofs.hex_word.decode.Goals as goal

pub loop-i-preserved : goal.loop-i-preserved
loop-i-preserved c =
    let digits = c.args.digits.now in
    let at = 2 * c.loop-i.i in
    decode_step digits c.loop-i.bytes c.loop-i.i _ (omega arith) (omega arith)
    (pair_is (slice_index digits at) (slice_index digits (at + 1)) at _ _ c.digit_value.ensures.value c.digit_value-in-loop-i.ensures.value)
    c.loop-i.invariant

pub returns : goal.returns
returns c =
    decode_of-even c.args.digits.now (omega arith)
    ∙ decode_done c.args.digits.now c.loop-i.bytes c.loop-i.i (omega arith) (omega arith) c.loop-i.invariant
