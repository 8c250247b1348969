use Rattle.std.proofs.Common.{refl, arith, rules}
use Rattle.asdp_messages.specs.Datagram as message
use Rattle.asdp_messages.specs.Spelling.{sent, spelled_of}
use Rattle.asdp_messages.specs.Spelling as written
use Rattle.asdp_messages.specs.Written.{IsTidyMessage}
use Rattle.asdp_messages.proofs.SentLemmas.{joined, as_spelled}
use Rattle.asdp_messages.proofs.write.write_response.Goals as goal

pub returns-clause-reads_back : goal.returns-clause-reads_back
unfolding spelled_of
returns-clause-reads_back c = λ tidy.
    let sent_message = sent c.args.from c.args.group c.args.fields.now in
    let is_tidy : IsTidyMessage sent_message = record {
      ttl = omega arith;
      group = omega arith;
      from = search rules;
      stored = c.fields_are_stored.ensures;
      fields = tidy;
    } in
    as_spelled (written.Response sent_message) (message.Response sent_message)
    (joined _ _ _ _ _ c.write_state.ensures.items c.put_header.ensures.items c.new-out.ensures)
    (c.written_is_read.ensures.read (written.Response sent_message) (message.Response sent_message) is_tidy refl)
