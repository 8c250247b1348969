-- Only for proofs: the datagrams from one gate.
use Rattle.std.specs.Prelude.{ℕ, List, [], map, Option, Some, None}
use Rattle.lk_base.specs.declared.endpoint.Endpoint.{Endpoint}
use Rattle.lk_base.specs.declared.endpoint.Gate.{Gate}
use Rattle.link_node.specs.Config.{GateValue}
use Rattle.link_node.specs.Event.{SendingValue}

abbrev pub sent_on : Gate → List ℕ → Endpoint → SendingValue
sent_on gate bytes to = record { gate = gate; to = to; bytes = bytes }

-- from the gate of this number, if there is one, to each of its destinations
abbrev pub sent_at : (GateValue → List ℕ) → ℕ → Option GateValue → List SendingValue
sent_at spelled k None = []
sent_at spelled k (Some gate) = map (sent_on (record { 0 = k }) (spelled gate)) gate.destinations
