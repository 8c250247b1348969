-- Only for proofs: the lines of a head, one after the other.
use Rattle.std.specs.Prelude.{◌≡◌, ◌≤◌, ◌<◌, ◌^◌, ◌⊎◌, ℕ, ℤ, pos, ◌≤ℤ◌, List, [], ◌∷◌, ◌++◌, length, map, All}
use Rattle.std.specs.List.{flat_map}
use Rattle.lk_base.specs.Endpoint.{IsEndpoint}
use Rattle.lk_base.specs.Ranges.{IsMoment, IsQuantum}
use Rattle.lk_base.specs.declared.endpoint.Endpoint.{Endpoint}
use Rattle.link_node.specs.Config.{ConfigValue, GateValue}
use Rattle.link_lines.specs.Lines.{lines_of, counting_in}
use Rattle.link_text.specs.Places.{IsAhead, counting_from}
use Rattle.link_script.specs.ReplayScript.{IsVisibleId, IsGate, IsVersion, gate_line, gate_lines, node_line, profile_lines, to_line, version_line}
use Rattle.link_text.specs.declared.head_read.Node.{Node}
use Rattle.link_text.specs.declared.place.Place.{Place}

-- a script can be of these versions
abbrev pub IsKnownVersion : ℕ → Type 0
IsKnownVersion version = (version ≡ 1) ⊎ (version ≡ 2)

-- the setup that the lines before the gates say
abbrev pub config_of : Node → ℕ → ℤ → ConfigValue
config_of node group quantum =
    record { id = node.id; seed = node.seed; mpb = node.mpb; sync = node.sync; group = group; quantum = quantum; gates = [] }

-- where only a node's line does, as in version 1
abbrev pub plain_of : Node → ConfigValue
plain_of node = config_of node 0 (pos 4_000_000)

pub record IsNode (config : ConfigValue) (now : ℤ) : Type 0 where
  pub id : IsVisibleId config.id
  pub seed : config.seed < 2 ^ 64
  pub fastest : pos 60_060 ≤ℤ config.mpb
  pub slowest : config.mpb ≤ℤ pos 3_000_000
  pub moment : IsMoment now

pub record IsNodeLine (line : List ℕ) (node : Node) : Type 0 where
  pub range : IsNode (plain_of node) node.now
  pub said : line ≡ node_line (plain_of node) node.now

-- what the lines before the gates can say
pub record IsOpening (version : ℕ) (config : ConfigValue) (now : ℤ) : Type 0 where
  pub known : IsVersion version config
  pub node : IsNode config now
  pub group : config.group < 2 ^ 16
  pub quantum : IsQuantum config.quantum

-- the lines that count are those before the gates, and then those from a place on
pub record IsFront (text : List ℕ) (version : ℕ) (config : ConfigValue) (now : ℤ) (place : Place) : Type 0 where
  pub ahead : IsAhead text place
  pub opening : IsOpening version config now
  pub said : counting_in (lines_of text) ≡ version_line version ∷ node_line config now ∷ (profile_lines version config ++ counting_from text place.at)

-- lines that begin with no destination, or there is no room for one
abbrev pub LacksTo : ℕ → List (List ℕ) → Type 0
LacksTo count lines = ((e : Endpoint) (more : List (List ℕ)) → IsEndpoint e → lines ≡ to_line e ∷ more → ⊥) ⊎ (32 ≤ count)

-- lines that begin with no gate, or there is no room for one
abbrev pub LacksGate : ℕ → List (List ℕ) → Type 0
LacksGate count lines = ((e : Endpoint) (more : List (List ℕ)) → IsEndpoint e → lines ≡ gate_line e ∷ more → ⊥) ⊎ (4 ≤ count)

-- each gate has all the destinations that it can have
abbrev pub AreFull : List GateValue → List (List ℕ) → Type 0
AreFull [] rest = Unit {0}
AreFull (gate ∷ gates) rest = LacksTo (length gate.destinations) (flat_map gate_lines gates ++ rest) × AreFull gates rest

-- the lines are those of destinations, and then others
pub record HasDestinations (lines : List (List ℕ)) (destinations : List Endpoint) (rest : List (List ℕ)) : Type 0 where
  pub each : All IsEndpoint destinations
  pub few : length destinations ≤ 32
  pub said : lines ≡ map to_line destinations ++ rest

-- the lines are those of gates with all their destinations, and then others
pub record HasGates (lines : List (List ℕ)) (gates : List GateValue) (rest : List (List ℕ)) : Type 0 where
  pub each : All IsGate gates
  pub few : length gates ≤ 4
  pub said : lines ≡ flat_map gate_lines gates ++ rest
  pub full : AreFull gates rest
