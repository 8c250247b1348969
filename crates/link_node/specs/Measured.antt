-- The session and the offset that a pong ends a measurement with.
use Rattle.std.specs.Prelude.{◌≡◌, ℤ, Some, Ok}
use Rattle.std.specs.Int.{int_max}
use Rattle.ghost_xform.specs.declared.xform.XForm.{XForm}
use Rattle.lk_base.specs.declared.ids.NodeId.{NodeId}
use Rattle.link_payload.specs.declared.fields.PongFields.{PongFields}
use Rattle.asdp_messages.specs.Datagram as message
use Rattle.asdp_messages.specs.Reading.{reading_of}
use Rattle.ping_measure.specs.Life.{Life, pong_outcome}
use Rattle.ping_measure.specs.declared.outcome.Outcome.TheVariants.{Done}
use Rattle.link_node.specs.Event.{EventValue, Rx, Tick, App, Audio, End}
use Rattle.link_node.specs.Machine.{Machine}

-- by the pong the measurement that ran is done, of this session and with this offset
abbrev pub IsMeasured : Machine → EventValue → NodeId → ℤ → Type 0
IsMeasured m (Rx gate from bytes now) session offset =
    (life : Life) × (pong : PongFields) × (xform : XForm) × (m.measuring ≡ Some life) × (reading_of bytes ≡ Ok (message.Pong pong))
    × (pong_outcome life gate from pong (int_max m.moment now) ≡ Done xform) × (life.session ≡ session) × (xform.offset ≡ offset)
IsMeasured m (Tick now) session offset = ⊥
IsMeasured m (App commit now) session offset = ⊥
IsMeasured m (Audio number commit now) session offset = ⊥
IsMeasured m (End now) session offset = ⊥
