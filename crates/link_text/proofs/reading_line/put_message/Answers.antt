use Rattle.std.proofs.Common.{append_assoc}
use Rattle.link_text.proofs.reading_line.put_message.Goals as goal

pub returns-in-OtherDiscovery : goal.returns-in-OtherDiscovery
returns-in-OtherDiscovery c =
    rw (c.put-in-OtherDiscovery-2.ensures.items, c.put_decimal.ensures.items, c.put-in-OtherDiscovery.ensures.items)
    (simp append_assoc (simp (c.in-OtherDiscovery.is, c.from.ensures)))
