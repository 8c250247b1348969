use Rattle.std.proofs.Common.{◌++◌, List, ℕ, ap, ◌∙◌}
use Rattle.asdp_messages.proofs.HeaderLemmas.{header_as_written}
use Rattle.asdp_messages.proofs.write.put_header.Goals as goal

pub returns-clause-items : goal.returns-clause-items
returns-clause-items c =
    header_as_written c.args.out.now.items _ _ _ _ c.args.header.now.kind c.args.header.now.ttl c.args.header.now.group c.args.header.now.from
    (c.append.ensures.items ∙ ap (λ (bs : List ℕ). c.args.out.now.items ++ bs) c.write_u64.ensures)
    c.append-2.ensures.items
    (c.append-3.ensures.items ∙ ap (λ (bs : List ℕ). c.append-2.new.out.items ++ bs) c.write_u16.ensures)
    c.append-4.ensures.items
