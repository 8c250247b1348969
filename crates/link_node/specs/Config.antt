-- A node's setup as plain data.
use Rattle.std.specs.Prelude.{ℕ, ℤ, pos, ◌≤ℤ◌, ◌≤◌, Bool, List, length, map}
use Rattle.lk_base.specs.declared.endpoint.Endpoint.{Endpoint}
use Rattle.lk_base.specs.Ranges.{IsQuantum}
use Rattle.lk_base.specs.declared.ids.NodeId.{NodeId}
use Rattle.link_node.specs.declared.config.Config.{Config}
use Rattle.link_node.specs.declared.config.GateSetup.{GateSetup}

-- a gate: its own endpoint, and those that it broadcasts to
pub record GateValue : Type 0 where
  pub local : Endpoint
  pub destinations : List Endpoint

pub record ConfigValue : Type 0 where
  pub id : NodeId
  pub seed : ℕ
  pub mpb : ℤ
  pub sync : Bool
  pub group : ℕ
  pub quantum : ℤ
  pub gates : List GateValue

abbrev pub gate_value : GateSetup → GateValue
gate_value setup = record { local = setup.local; destinations = setup.peers.items }

abbrev pub config_value : Config → ConfigValue
config_value config = record {
  id = config.id;
  seed = config.seed;
  mpb = config.mpb;
  sync = config.sync;
  group = config.group;
  quantum = config.quantum;
  gates = map gate_value config.gates.items;
}

-- Rule: A node opens with one to four gates, a tempo from 60,060 to 3,000,000 microseconds per beat, and a quantum from 0 to 2^40.
pub record IsConfig (config : ConfigValue) : Type 0 where
  pub some_gate : 1 ≤ length config.gates
  pub few_gates : length config.gates ≤ 4
  pub fastest : pos 60_060 ≤ℤ config.mpb
  pub slowest : config.mpb ≤ℤ pos 3_000_000
  pub quantum : IsQuantum config.quantum
