use Rattle.std.proofs.Common.{List, ℕ, ◌++◌, refl, ap, ◌∙◌, lit<, arith, rules}
use Rattle.asdp_messages.specs.Datagram as message
use Rattle.asdp_messages.specs.Spelling.{spelled_of, spelled_header_of}
use Rattle.asdp_messages.specs.Spelling as written
use Rattle.asdp_messages.proofs.SentLemmas.{as_spelled}
use Rattle.asdp_messages.proofs.write.write_bye.Goals as goal

pub returns-clause-reads_back : goal.returns-clause-reads_back
unfolding spelled_of
returns-clause-reads_back c =
    as_spelled (written.Bye c.args.from 0 c.args.group) (message.Bye c.args.from 0 c.args.group)
    (c.put_header.ensures.items ∙ ap (λ (bs : List ℕ). bs ++ spelled_header_of 3 0 c.args.group c.args.from) c.new-out.ensures)
    (c.written_is_read.ensures.read (written.Bye c.args.from 0 c.args.group) (message.Bye c.args.from 0 c.args.group) (lit< tt, omega arith, search rules) refl)
