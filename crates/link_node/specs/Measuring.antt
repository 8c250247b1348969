-- What follows from a measurement's answers.
use Rattle.std.specs.Prelude.{ℤ, pos, ◌+ℤ◌, List, [], ◌∷◌, if◌then◌else◌, Option, Some, None}
use Rattle.lk_base.specs.IdOrder.{same_id}
use Rattle.lk_base.specs.declared.endpoint.Endpoint.{Endpoint}
use Rattle.lk_base.specs.declared.endpoint.Gate.{Gate}
use Rattle.lk_base.specs.declared.endpoint.Target.{Target}
use Rattle.lk_base.specs.declared.ids.NodeId.{NodeId}
use Rattle.link_payload.specs.declared.fields.PingFields.{PingFields}
use Rattle.link_payload.specs.declared.fields.PongFields.{PongFields}
use Rattle.asdp_messages.specs.Spelling.{spelled_of}
use Rattle.asdp_messages.specs.Spelling as written
use Rattle.ping_measure.specs.Life.{Life, pong_outcome, pong_after, tick_outcome, tick_after}
use Rattle.ping_measure.specs.declared.outcome.Outcome.{Outcome}
use Rattle.ping_measure.specs.declared.outcome.Outcome.TheVariants.{Idle, Again, Done, Failed}
use Rattle.session_choice.specs.History.{measured_of, measured_after, forgotten}
use Rattle.session_choice.specs.declared.verdict.Verdict.{Verdict}
use Rattle.session_choice.specs.declared.verdict.Verdict.TheVariants.{Joined, Stayed, Remeasured, Unknown}
use Rattle.link_node.specs.Client.{renewed}
use Rattle.link_node.specs.Event.{SendingValue}
use Rattle.link_node.specs.Machine.{Machine, session_in}

-- Rule: The current session is to be measured anew 30 seconds after it was joined, was measured or couldn't be measured.
abbrev pub remeasured_later : Machine → Machine
remeasured_later m = record m { remeasure_at = Some (m.moment +ℤ pos 30_000_000) }

-- ---- a session was measured

-- a session that is joined has no start yet
abbrev pub chosen : Verdict → Machine → Machine
chosen Joined m = remeasured_later (renewed (record m { starts = [] }))
chosen Remeasured m = remeasured_later (renewed m)
chosen Stayed m = m
chosen Unknown m = m

-- Rule: Another session that was measured is joined exactly where it wins over the current one.
unfoldable pub measured : NodeId → ℤ → Machine → Machine
measured session offset m =
    chosen
    (measured_of m.sessions session offset m.moment)
    (record m { sessions = measured_after m.sessions session offset m.moment })

-- ---- or it couldn't be

-- Rule: Another session that can't be measured is forgotten, and the rows of its peers stay.
unfoldable pub unmeasured : NodeId → Machine → Machine
unmeasured session m =
    if same_id session (session_in m) then remeasured_later m
    else record m { sessions = forgotten session m.sessions }

-- ---- answers of the measurement that runs

-- its last answers end it
abbrev pub judged : Outcome → NodeId → Machine → Machine
judged Idle session m = m
judged (Again ping) session m = m
judged (Done xform) session m = measured session xform.offset (record m { measuring = None })
judged (Failed fault) session m = unmeasured session (record m { measuring = None })

unfoldable pub ping_to : Target → PingFields → SendingValue
ping_to target ping =
    record { gate = target.gate; to = target.endpoint; bytes = spelled_of (written.Ping ping) }

abbrev pub pings_of : Outcome → Target → List SendingValue
pings_of Idle target = []
pings_of (Again ping) target = ping_to target ping ∷ []
pings_of (Done xform) target = []
pings_of (Failed fault) target = []

-- a pong that came on a gate from an endpoint
abbrev pub pong_by : Option Life → Gate → Endpoint → PongFields → Machine → Machine
pong_by None gate from pong m = m
pong_by (Some life) gate from pong m =
    judged
    (pong_outcome life gate from pong m.moment)
    life.session
    (record m { measuring = Some (pong_after life gate from pong m.moment) })

-- Rule: A pong goes to the measurement that runs, and is passed over where none runs.
unfoldable pub pong_heard : Gate → Endpoint → PongFields → Machine → Machine
pong_heard gate from pong m = pong_by m.measuring gate from pong m

abbrev pub pings_by_pong : Option Life → Gate → Endpoint → PongFields → ℤ → List SendingValue
pings_by_pong None gate from pong now = []
pings_by_pong (Some life) gate from pong now = pings_of (pong_outcome life gate from pong now) life.target

unfoldable pub pings_after_pong : Gate → Endpoint → PongFields → Machine → List SendingValue
pings_after_pong gate from pong m = pings_by_pong m.measuring gate from pong m.moment

-- a tick
abbrev pub tick_by : Option Life → Machine → Machine
tick_by None m = m
tick_by (Some life) m =
    judged (tick_outcome life m.moment) life.session (record m { measuring = Some (tick_after life m.moment) })

unfoldable pub measurement_ticked : Machine → Machine
measurement_ticked m = tick_by m.measuring m

abbrev pub pings_by_tick : Option Life → ℤ → List SendingValue
pings_by_tick None now = []
pings_by_tick (Some life) now = pings_of (tick_outcome life now) life.target

unfoldable pub pings_after_tick : Machine → List SendingValue
pings_after_tick m = pings_by_tick m.measuring m.moment
