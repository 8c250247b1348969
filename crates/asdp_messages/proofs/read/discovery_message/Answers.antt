use Rattle.std.proofs.Common.{◌≡◌, Result, rules, Ok, Err, refl, sym, subst, ap, ◌∙◌, arith}
use Rattle.link_payload.specs.Entries.{AreBytes}
use Rattle.link_payload.specs.Fields.{state_answer_of}
use Rattle.lk_base.proofs.ByteLemmas.{id_with}
use Rattle.link_payload.proofs.EntryLemmas.{AreBytes-drop}
use Rattle.asdp_messages.specs.declared.fault.WireFault.{WireFault}
use Rattle.asdp_messages.specs.declared.fault.WireFault.TheVariants.{Payload}
use Rattle.asdp_messages.specs.declared.message.Message.{Message}
use Rattle.asdp_messages.specs.Datagram.{IsDiscoveryReadAs, answer_value}
use Rattle.asdp_messages.proofs.DatagramLemmas.{answer_from, alive_read, response_read, bye_read, other_read, state_fault_read, second_of}
use Rattle.asdp_messages.proofs.read.discovery_message.Goals as goal

pub returns-then-kind-eq-DISCOVERY_BYE : goal.returns-then-kind-eq-DISCOVERY_BYE
returns-then-kind-eq-DISCOVERY_BYE c =
    bye_read {payload = c.split_at.result.1.now} (record {
      kind_is = c.if-kind-eq-DISCOVERY_BYE.true;
      ttl_is = refl;
      group_is = sym c.read_u16-group.ensures;
      sender_is = ap id_with c.from_bytes-from.ensures;
      payload_is = sym c.split_at.ensures.back;
    })

pub returns-then-not-tells_state : goal.returns-then-not-tells_state
returns-then-not-tells_state c = other_read c.args.bytes.now (sym c.tells_state.ensures ∙ c.if-not-tells_state.true) c.if-kind-eq-DISCOVERY_BYE.false

pub returns-in_err-fields : goal.returns-in_err-fields
returns-in_err-fields c =
    let bytes = subst AreBytes (sym c.split_at.ensures.back) (AreBytes-drop 20 c.args.bytes.now (λ i. omega (arith, c.type_inv.bytes i))) in
    let either = c.spelled_or_cut.ensures.either c.split_at.result.1.now bytes (omega arith) in
    let passed : c.from_residual.result ≡ Err (Payload c.in_err-fields.field-0.0) = search rules in
    subst (λ (r : Result Message WireFault). IsDiscoveryReadAs c.args.bytes.now (answer_value r)) (sym passed)
    (state_fault_read c.args.bytes.now c.split_at.result.1.now c.in_err-fields.field-0.0 (sym c.tells_state.ensures ∙ c.if-not-tells_state.false) (sym c.split_at.ensures.back)
    (answer_from state_answer_of c.split_at.result.1.now (Err c.in_err-fields.field-0.0) either (c.in_err-fields.ensures {u = tt}).spelled (c.in_err-fields.ensures {u = tt}).cut))

pub returns-then-kind-eq-DISCOVERY_ALIVE : goal.returns-then-kind-eq-DISCOVERY_ALIVE
returns-then-kind-eq-DISCOVERY_ALIVE c =
    let bytes = subst AreBytes (sym c.split_at.ensures.back) (AreBytes-drop 20 c.args.bytes.now (λ i. omega (arith, c.type_inv.bytes i))) in
    let either = c.spelled_or_cut.ensures.either c.split_at.result.1.now bytes (omega arith) in
    alive_read c.in_ok-fields.fields (record {
      kind_is = c.if-kind-eq-DISCOVERY_ALIVE.true;
      ttl_is = refl;
      group_is = sym c.read_u16-group.ensures;
      sender_is = ap id_with c.from_bytes-from.ensures;
      payload_is = sym c.split_at.ensures.back;
    }) (answer_from state_answer_of c.split_at.result.1.now (Ok c.in_ok-fields.fields) either (c.in_ok-fields.ensures {u = tt}).spelled (c.in_ok-fields.ensures {u = tt}).cut)

pub returns : goal.returns
returns c =
    let bytes = subst AreBytes (sym c.split_at.ensures.back) (AreBytes-drop 20 c.args.bytes.now (λ i. omega (arith, c.type_inv.bytes i))) in
    let either = c.spelled_or_cut.ensures.either c.split_at.result.1.now bytes (omega arith) in
    response_read c.in_ok-fields.fields (record {
      kind_is = second_of _ (sym c.tells_state.ensures ∙ c.if-not-tells_state.false) c.if-kind-eq-DISCOVERY_ALIVE.false;
      ttl_is = refl;
      group_is = sym c.read_u16-group.ensures;
      sender_is = ap id_with c.from_bytes-from.ensures;
      payload_is = sym c.split_at.ensures.back;
    }) (answer_from state_answer_of c.split_at.result.1.now (Ok c.in_ok-fields.fields) either (c.in_ok-fields.ensures {u = tt}).spelled (c.in_ok-fields.ensures {u = tt}).cut)
