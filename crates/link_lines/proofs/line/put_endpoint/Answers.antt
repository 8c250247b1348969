use Rattle.std.proofs.Common.{append_assoc}
use Rattle.link_lines.specs.Words.{endpoint_text_of, dotted}
use Rattle.link_lines.proofs.line.put_endpoint.Goals as goal

pub returns-clause-items : goal.returns-clause-items
unfolding endpoint_text_of dotted
returns-clause-items c =
    rw (c.put_decimal-5.ensures.items, c.put-4.ensures.items, c.put_decimal-4.ensures.items, c.put-3.ensures.items, c.put_decimal-3.ensures.items, c.put-2.ensures.items, c.put_decimal-2.ensures.items, c.put.ensures.items, c.put_decimal.ensures.items)
    (simp (append_assoc, c.from.ensures, c.from-2.ensures, c.from-3.ensures, c.from-4.ensures, c.from-5.ensures))
