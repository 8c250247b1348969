use Rattle.std.proofs.Common.{refl}
use Rattle.link_payload.specs.Spelling.{spelled_ping_of}
use Rattle.asdp_messages.specs.Datagram as message
use Rattle.asdp_messages.specs.Spelling.{spelled_of}
use Rattle.asdp_messages.specs.Spelling as written
use Rattle.asdp_messages.proofs.SentLemmas.{joined, as_spelled}
use Rattle.asdp_messages.proofs.write.write_ping_message.Goals as goal

pub returns-clause-reads_back : goal.returns-clause-reads_back
unfolding spelled_of
returns-clause-reads_back c =
    as_spelled (written.Ping c.args.ping.now) (message.Ping (spelled_ping_of c.args.ping.now))
    (joined _ _ _ _ _ c.write_ping.ensures.items c.put_link_header.ensures.items c.new-out.ensures)
    (c.written_is_read.ensures.read (written.Ping c.args.ping.now) (message.Ping (spelled_ping_of c.args.ping.now)) tt refl)
