use Rattle.std.proofs.Common.{◌≡◌, Result, rules, Ok, Err, sym, subst, arith}
use Rattle.link_payload.specs.Entries.{AreBytes}
use Rattle.link_payload.specs.Fields.{pong_answer_of}
use Rattle.link_payload.proofs.EntryLemmas.{AreBytes-drop}
use Rattle.asdp_messages.specs.declared.fault.WireFault.{WireFault}
use Rattle.asdp_messages.specs.declared.fault.WireFault.TheVariants.{Payload}
use Rattle.asdp_messages.specs.declared.message.Message.{Message}
use Rattle.asdp_messages.specs.Datagram.{IsLinkReadAs, answer_value}
use Rattle.asdp_messages.proofs.DatagramLemmas.{answer_from, ping_read, pong_read, other_link_read}
use Rattle.asdp_messages.proofs.read.link_message.Goals as goal

pub returns-then-kind-eq-LINK_PING : goal.returns-then-kind-eq-LINK_PING
returns-then-kind-eq-LINK_PING c = ping_read c.args.bytes.now c.split_at.result.1.now c.if-kind-eq-LINK_PING.true (sym c.split_at.ensures.back)

pub returns-then-kind-ne-LINK_PONG : goal.returns-then-kind-ne-LINK_PONG
returns-then-kind-ne-LINK_PONG c = other_link_read c.args.bytes.now c.if-kind-eq-LINK_PING.false c.if-kind-ne-LINK_PONG.true

pub returns : goal.returns
returns c =
    let bytes = subst AreBytes (sym c.split_at.ensures.back) (AreBytes-drop 9 c.args.bytes.now (λ i. omega (arith, c.type_inv.bytes i))) in
    let either = c.spelled_or_cut.ensures.either c.split_at.result.1.now bytes (omega arith) in
    pong_read c.args.bytes.now c.split_at.result.1.now (Ok c.in_ok-fields.fields) c.if-kind-ne-LINK_PONG.false (sym c.split_at.ensures.back)
    (answer_from pong_answer_of c.split_at.result.1.now (Ok c.in_ok-fields.fields) either (c.in_ok-fields.ensures {u = tt}).spelled (c.in_ok-fields.ensures {u = tt}).cut)

pub returns-in_err-fields : goal.returns-in_err-fields
returns-in_err-fields c =
    let bytes = subst AreBytes (sym c.split_at.ensures.back) (AreBytes-drop 9 c.args.bytes.now (λ i. omega (arith, c.type_inv.bytes i))) in
    let either = c.spelled_or_cut.ensures.either c.split_at.result.1.now bytes (omega arith) in
    let passed : c.from_residual.result ≡ Err (Payload c.in_err-fields.field-0.0) = search rules in
    subst (λ (r : Result Message WireFault). IsLinkReadAs c.args.bytes.now (answer_value r)) (sym passed)
    (pong_read c.args.bytes.now c.split_at.result.1.now (Err c.in_err-fields.field-0.0) c.if-kind-ne-LINK_PONG.false (sym c.split_at.ensures.back)
    (answer_from pong_answer_of c.split_at.result.1.now (Err c.in_err-fields.field-0.0) either (c.in_err-fields.ensures {u = tt}).spelled (c.in_err-fields.ensures {u = tt}).cut))
