use Rattle.std.proofs.Common.{◌∙◌, ap}
use Rattle.lk_base.specs.declared.ids.NodeId.{NodeId}
use Rattle.link_payload.specs.declared.fields.PeerFields.{PeerFields}
use Rattle.asdp_messages.specs.Spelling.{sent, spelled_of}
use Rattle.asdp_messages.specs.Spelling as written
use Rattle.link_text.specs.Load.{peer_id_of}
use Rattle.link_text.proofs.load.alive.Goals as goal

pub returns : goal.returns
returns c =
    c.write_alive.ensures.items
    ∙ ap (λ (id : NodeId). spelled_of (written.Alive (sent id 0 c.peer_fields.result))) c.peer_id.ensures
    ∙ ap (λ (fields : PeerFields). spelled_of (written.Alive (sent (peer_id_of c.args.peer) 0 fields))) c.peer_fields.ensures
