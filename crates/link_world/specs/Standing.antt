-- What a world's value stands for.
use Rattle.std.specs.Prelude.{◌≡◌, ℕ, ℤ, ◌⊎◌, ◌++◌, List, [], ◌∷◌, length, map, Some, slice_get, slice_set}
use Rattle.link_node.specs.Config.{ConfigValue}
use Rattle.link_node.specs.Event.{EventValue, Fits, sending_value}
use Rattle.link_node.specs.Machine.{Machine}
use Rattle.link_node.specs.Standing.{StandsFor}
use Rattle.link_node.specs.Step.{step_of, sends_of}
use Rattle.link_world.specs.Agreement.{HasOrigins, Agrees, Converges, OneRoundSuffices, OneMessageSuffices, ClickTogether}
use Rattle.link_world.specs.World.{WorldValue, TurnValue, IsWorldOf}
use Rattle.link_world.specs.declared.peer.Peer.{Peer}
use Rattle.link_world.specs.declared.world.World.{World}

-- how many peers there are
abbrev pub peers_in : World → ℕ
peers_in world = length world.peers.items

-- as many peers as machines, and each stands for the machine at its place
abbrev pub AreStanding : List Peer → List Machine → Type 0
AreStanding [] [] = Unit {0}
AreStanding [] (m ∷ machines) = ⊥
AreStanding (peer ∷ peers) [] = ⊥
AreStanding (peer ∷ peers) (m ∷ machines) = StandsFor peer.node m × AreStanding peers machines

pub record StandsForWorld (world : World) (w : WorldValue) : Type 0 where
  pub peers : AreStanding world.peers.items w.machines
  pub sent : map sending_value world.sent.items ≡ w.sent

-- What a schedule leads to from these configs and this moment on: the value that the world stands for, and what holds of it
pub record IsRun (configs : List ConfigValue) (now : ℤ) (turns : List TurnValue) (world : World) : Type 0 where
  pub value : WorldValue
  pub after : IsWorldOf configs now turns value
  pub stands : StandsForWorld world value
  -- nobody holds or tells a timeline that nobody made
  pub origin : HasOrigins configs now turns value
  -- who took the same holds the same
  pub agreement : Agrees value
  -- who took all that was made holds the greatest of it
  pub convergence : Converges configs now turns value
  -- and who heard the greatest of it told, once, holds that
  pub round : OneRoundSuffices configs now turns value
  -- so one message of one who holds that suffices for each
  pub message : OneMessageSuffices configs now turns value
  -- who holds the same clicks at the same ghost times
  pub clicks : ClickTogether value

-- ---- for proofs alone

-- the peer of that number takes the event, where it is there and can take it
abbrev pub IsOffered : ℕ → EventValue → WorldValue → WorldValue → Type 0
IsOffered k event before after =
    ((machine : Machine) × (slice_get before.machines k ≡ Some machine) × Fits (length machine.config.gates) machine.app machine.audio event
    × (after ≡ record { machines = slice_set before.machines k (step_of machine event); sent = before.sent ++ sends_of machine event }))
    ⊎ (((machine : Machine) → slice_get before.machines k ≡ Some machine → Fits (length machine.config.gates) machine.app machine.audio event → ⊥)
    × (after ≡ before))
