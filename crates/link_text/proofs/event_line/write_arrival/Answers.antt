use Rattle.std.proofs.Common.{rules, codes, FitsSigned, w64}
use Rattle.std.specs.Fmt.{decimal, signed_decimal}
use Rattle.std.proofs.lemmas.Int.{to_z-of_z}
use Rattle.link_script.specs.ReplayScript.{event_words, hex_word}
use Rattle.link_lines.specs.Words.{endpoint_text_of}
use Rattle.link_text.proofs.JoinLemmas.{arrival_pieces}
use Rattle.link_text.proofs.event_line.write_arrival.Goals as goal

pub returns : goal.returns
unfolding event_words
returns c =
    let now : FitsSigned w64 c.args.now = search rules in
    rw (c.put-5.ensures.items, c.put_bytes.ensures.items, c.put-4.ensures.items, c.put_endpoint.ensures.items, c.put-3.ensures.items, c.put_decimal.ensures.items, c.put-2.ensures.items, c.put_signed.ensures.items, c.put.ensures.items, c.clear.ensures)
    (simp (c.from.ensures, to_z-of_z w64 c.args.now now)
    (arrival_pieces (codes "rx ") (signed_decimal c.args.now) (decimal c.args.gate.0) (endpoint_text_of c.args.from) (hex_word c.args.bytes.now)))
