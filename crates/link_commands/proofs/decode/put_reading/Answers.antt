use Rattle.link_commands.proofs.decode.put_reading.Goals as goal

pub write_reading-requires : goal.write_reading-requires
write_reading-requires c = c.ping_payload_len.ensures _ _ c.read_datagram.ensures.reading
