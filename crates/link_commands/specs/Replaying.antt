-- How far a replay has come. Only proofs and private functions speak of it. A node is told by the machines that it stands for, by how
-- many gates it has, and by the commits that it has taken.
use Rattle.std.specs.Prelude.{◌≡◌, ◌<◌, ◌+◌, ◌^◌, ℕ, ℤ, List, length}
use Rattle.link_node.specs.Config.{ConfigValue}
use Rattle.link_node.specs.Event.{EventValue}
use Rattle.link_node.specs.Machine.{Machine}
use Rattle.link_node.specs.Opening.{opened}
use Rattle.link_node.specs.Standing.{StandsFor, gates_of, app_of, audio_of}
use Rattle.link_node.specs.declared.node.Node.{Node}
use Rattle.link_script.specs.ReplayScript.{IsScriptOf, SaysFrom}

-- the node stands for the machine, and the text says from the place on these events, which the node can take
pub record GoesOn (Stands : Machine → Type 0) (gates app audio : ℕ) (text : List ℕ) (at : ℕ) (m : Machine) (es : List EventValue) : Type 0 where
  pub stands : Stands m
  pub says : SaysFrom gates audio text at es
  pub few_commits : app + length es < 2 ^ 60

-- the text is a script of this version, and the node is the one of its head at the opening, before the first event
pub record IsOpened (Stands : Machine → Type 0) (gates app audio version : ℕ) (text : List ℕ) (first : ℕ) : Type 0 where
  pub config : ConfigValue
  pub now : ℤ
  pub es : List EventValue
  pub script : IsScriptOf text version config now es
  pub stands : Stands (opened config now)
  pub says : SaysFrom gates audio text first es
  pub no_commits : app ≡ 0

-- the same of a node's value
abbrev pub NodeGoesOn : Node → List ℕ → ℕ → Machine → List EventValue → Type 0
NodeGoesOn node text at m es = GoesOn (StandsFor node) (gates_of node) (app_of node) (audio_of node) text at m es

abbrev pub IsNodeOpened : Node → ℕ → List ℕ → ℕ → Type 0
IsNodeOpened node version text first = IsOpened (StandsFor node) (gates_of node) (app_of node) (audio_of node) version text first

-- and at this moment
abbrev pub IsNodeOpenedAt : Node → ℕ → List ℕ → ℕ → ℤ → Type 0
IsNodeOpenedAt node version text first now = (is : IsNodeOpened node version text first) × (is.now ≡ now)
