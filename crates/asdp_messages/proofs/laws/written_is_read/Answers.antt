use Rattle.asdp_messages.proofs.SentLemmas.{written_read}
use Rattle.asdp_messages.proofs.laws.written_is_read.Goals as goal

pub returns-clause-read : goal.returns-clause-read
returns-clause-read c =
    written_read
    (record { state = c.payload_lens.ensures.state; ping = c.payload_lens.ensures.ping; pong = c.payload_lens.ensures.pong })
    (record { state = c.state_reads_back.ensures; pong = c.pong_reads_back.ensures })

pub returns-clause-value : goal.returns-clause-value
returns-clause-value c = λ w m tidy says.
    c.read_messages.ensures.value _ m (written_read
    (record { state = c.payload_lens.ensures.state; ping = c.payload_lens.ensures.ping; pong = c.payload_lens.ensures.pong })
    (record { state = c.state_reads_back.ensures; pong = c.pong_reads_back.ensures }) w m tidy says)
