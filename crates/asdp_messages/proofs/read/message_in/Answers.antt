use Rattle.std.proofs.Common.{◌∙◌, arith}
use Rattle.asdp_messages.proofs.DatagramLemmas.{short_read, not_link_read, too_long_read, link_read, short_head_read, discovery_read, known_is, link_is, not_link_is}
use Rattle.asdp_messages.proofs.read.message_in.Goals as goal

pub returns-then-bytes-lt-LINK_HEADER_LEN : goal.returns-then-bytes-lt-LINK_HEADER_LEN
returns-then-bytes-lt-LINK_HEADER_LEN c = short_read c.args.bytes.now (omega arith)

pub returns-then-not-is_of_link : goal.returns-then-not-is_of_link
returns-then-not-is_of_link c =
    not_link_read c.args.bytes.now (omega arith) (known_is c.args.bytes.now _ _ c.read_u64-protocol.ensures c.is_of_link.ensures ∙ c.if-not-is_of_link.true)

pub returns-then-bytes-gt-GREATEST_LEN : goal.returns-then-bytes-gt-GREATEST_LEN
returns-then-bytes-gt-GREATEST_LEN c =
    too_long_read c.args.bytes.now (omega arith) (known_is c.args.bytes.now _ _ c.read_u64-protocol.ensures c.is_of_link.ensures ∙ c.if-not-is_of_link.false) (omega arith)

pub returns-then-protocol-eq-LINK_PROTOCOL : goal.returns-then-protocol-eq-LINK_PROTOCOL
returns-then-protocol-eq-LINK_PROTOCOL c =
    link_read c.args.bytes.now _ (omega arith) (known_is c.args.bytes.now _ _ c.read_u64-protocol.ensures c.is_of_link.ensures ∙ c.if-not-is_of_link.false) (omega arith)
    (link_is c.args.bytes.now _ c.read_u64-protocol.ensures c.if-protocol-eq-LINK_PROTOCOL.true) c.link_message.ensures

pub returns-then-bytes-lt-DISCOVERY_HEADER_LEN : goal.returns-then-bytes-lt-DISCOVERY_HEADER_LEN
returns-then-bytes-lt-DISCOVERY_HEADER_LEN c =
    short_head_read c.args.bytes.now (omega arith) (known_is c.args.bytes.now _ _ c.read_u64-protocol.ensures c.is_of_link.ensures ∙ c.if-not-is_of_link.false) (omega arith)
    (not_link_is c.args.bytes.now _ c.read_u64-protocol.ensures c.if-protocol-eq-LINK_PROTOCOL.false) (omega arith)

pub returns : goal.returns
returns c =
    discovery_read c.args.bytes.now _ (omega arith) (known_is c.args.bytes.now _ _ c.read_u64-protocol.ensures c.is_of_link.ensures ∙ c.if-not-is_of_link.false) (omega arith)
    (not_link_is c.args.bytes.now _ c.read_u64-protocol.ensures c.if-protocol-eq-LINK_PROTOCOL.false) c.discovery_message.ensures
