use Rattle.std.proofs.Common.{ℤ, ◌++◌, w64, refl, ap, ◌∙◌, rules}
use Rattle.std.proofs.lemmas.Int.{to_z-of_z}
use Rattle.link_payload.specs.Fields.{echoing}
use Rattle.link_payload.specs.Spelling.{spelled_pong_of}
use Rattle.asdp_messages.specs.Datagram as message
use Rattle.asdp_messages.specs.Spelling.{spelled_of}
use Rattle.asdp_messages.specs.Spelling as written
use Rattle.asdp_messages.proofs.SentLemmas.{joined, as_spelled}
use Rattle.asdp_messages.proofs.write.write_pong_message.Goals as goal

pub returns-clause-reads_back : goal.returns-clause-reads_back
unfolding spelled_of
returns-clause-reads_back c = λ ping tidy within echo_is.
    let said = message.Pong (echoing c.args.session c.args.ghost_time ping) in
    as_spelled (written.Pong c.args.session c.args.ghost_time c.args.echo.now) said
    (joined _ _ _ _ _ (c.write_pong.ensures.items ∙ ap (λ (z : ℤ). c.put_link_header.new.out.items ++ spelled_pong_of c.args.session z c.args.echo.now) (to_z-of_z w64 c.args.ghost_time (search rules))) c.put_link_header.ensures.items c.new-out.ensures)
    (c.written_is_read.ensures.read (written.Pong c.args.session c.args.ghost_time c.args.echo.now) said (search rules, within) (ping, tidy, echo_is, refl))
