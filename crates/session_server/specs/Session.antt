-- What a session leaves that clients are served in.
use Rattle.std.specs.Prelude.{◌≡◌, ◌⊎◌, ◌^◌, ◌-◌, ℕ, ℤ, pos, ◌+ℤ◌, List, length, map, Option, Some, None}
use Rattle.rand_pcg.specs.Lcg.{started, increment_of}
use Rattle.rand_pcg.specs.Pcg.{multiplier_64}
use Rattle.lk_base.specs.Ids.{drawn_id}
use Rattle.lk_outside.specs.Port.{PortSeen}
use Rattle.lk_talks.specs.Talks.{TalksSeen}
use Rattle.client_state.specs.declared.state.State.{State}
use Rattle.link_node.specs.Config.{ConfigValue, gate_value}
use Rattle.link_node.specs.Event.{EventValue}
use Rattle.link_clients.specs.ServeRun.{EndsServeRun, ServeSetup}
use Rattle.link_clients.specs.declared.terms.ServeEnd.{ServeEnd}
use Rattle.session_server.specs.Statuses.{ended_as}
use Rattle.session_server.specs.declared.setup.Setup.{Setup}
use Rattle.session_server.specs.declared.status.Status.{Status}
use Rattle.session_server.specs.declared.status.Status.TheVariants as status

-- the config of a node that opens so; its id is the first that the seed gives
abbrev pub serving_from : ℕ → Setup → ConfigValue
serving_from seed setup = record {
  id = drawn_id (started 64 multiplier_64 seed (increment_of 64 1));
  seed = seed;
  mpb = setup.opening.mpb;
  sync = setup.opening.sync;
  group = setup.group;
  quantum = setup.quantum;
  gates = map gate_value setup.opening.gates.items;
}

-- Rule: A session server ends so many hours after its node opened, or without `--hours` not for its time.
-- the moment at which serving ends; the last number of its type, which no moment is, where it lasts without end
abbrev pub ends_at_of : ℤ → Option ℤ → ℤ
ends_at_of opened_at (Some span) = opened_at +ℤ span
ends_at_of opened_at None = pos (2 ^ 63 - 1)

abbrev pub setup_from : ℕ → ℤ → Setup → ServeSetup
setup_from seed opened_at setup = record {
  config = serving_from seed setup;
  opened_at = opened_at;
  events = setup.events;
  at = setup.at;
  terms = record { may_end = setup.may_end; ends_at = ends_at_of opened_at setup.lasts };
}

-- Rule: A session's end is told by its status, with how many events the journal took; where no memory was left before it began, nothing
-- was called.
abbrev pub EndsSession : ServeSetup → Option ℤ → PortSeen → PortSeen → TalksSeen → TalksSeen → Status → ℕ → Type 0
EndsSession setup late port port_then talks talks_then ended took =
    ((ended ≡ status.Memory) × (took ≡ 0) × (port_then ≡ port) × (talks_then ≡ talks))
    ⊎ ((events : List EventValue) × (published : List State) × (end : ServeEnd) × (ended ≡ ended_as end) × (took ≡ length events)
    × EndsServeRun setup late port port_then talks talks_then events published end)
