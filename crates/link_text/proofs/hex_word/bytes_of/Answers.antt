use Rattle.std.proofs.Common.{arith, ap, sym, ◌∙◌, length}
use Rattle.arrayvec.proofs.ArrayVecLemmas.{items-with_items}
use Rattle.link_text.specs.HexWord.{hex_bytes}
use Rattle.link_text.proofs.HexWordLemmas.{bytes_are, no_bytes, says_digits}
use Rattle.link_text.proofs.hex_word.bytes_of.Goals as goal

pub decode-requires-clause-digits : goal.decode-requires-clause-digits
decode-requires-clause-digits c =
    let some = says_digits c.args.hex.now (hex_bytes c.args.hex.now) c.requires.2 c.requires.0 (λ h. cc (c.is_word.ensures.1 h, c.if-is_word.false)) in
    some.digits

pub decode-requires-clause-room : goal.decode-requires-clause-room
decode-requires-clause-room c =
    let some = says_digits c.args.hex.now (hex_bytes c.args.hex.now) c.requires.2 c.requires.0 (λ h. cc (c.is_word.ensures.1 h, c.if-is_word.false)) in
    let lent = ap length c.as_mut_slice.ensures.value in
    omega (arith, lent, c.truncate.ensures.len, c.from-bytes.ensures, some.even, some.short)

pub returns-then-is_word : goal.returns-then-is_word
returns-then-is_word c = c.new.ensures ∙ sym (no_bytes c.args.hex.now (c.is_word.ensures.0 c.if-is_word.true))
