-- What holds of the peers of a world, whatever the network did.
use Rattle.std.specs.Prelude.{◌≡◌, ℕ, ℤ, ◌⊎◌, ◌↔◌, ◌≤ℤ◌, ◌+ℤ◌, ◌-ℤ◌, List, Some, slice_get}
use Rattle.lk_base.specs.declared.ids.NodeId.{NodeId}
use Rattle.lk_base.specs.declared.timeline.Timeline.{Timeline}
use Rattle.asdp_messages.specs.Reading.{reading_of}
use Rattle.peer_gateway.specs.Happenings.{Has}
use Rattle.session_choice.specs.Best.{IsBest}
use Rattle.timeline_math.specs.Clicks.{clicks_at, is_accented}
use Rattle.client_state.specs.Timelines.{IsInReachOf}
use Rattle.link_node.specs.Brought.{IsTakenIn, TellsTimeline, taken_in}
use Rattle.link_node.specs.Config.{ConfigValue}
use Rattle.link_node.specs.Event.{SendingValue}
use Rattle.link_node.specs.Machine.{Machine, session_in, timeline_in, offset_in}
use Rattle.link_world.specs.Made.{IsMade}
use Rattle.link_world.specs.Round.{HearsTold, HearsHolder, HoldsAndStays}
use Rattle.link_world.specs.World.{WorldValue, TurnValue, opened_world}

-- one of the peers
abbrev pub IsPeer : WorldValue → Machine → Type 0
IsPeer world machine = (k : ℕ) × (slice_get world.machines k ≡ Some machine)

-- different timelines among these have different beat origins
abbrev pub HaveOwnOrigins : (Timeline → Type 0) → Type 0
HaveOwnOrigins Among = (a b : Timeline) → Among a → Among b → a.beat ≡ b.beat → a ≡ b

-- ---- origin

-- Rule: Whatever a peer has taken for a session, and whatever it has sent of one, some peer made for that session.
pub record HasOrigins (configs : List ConfigValue) (now : ℤ) (turns : List TurnValue) (world : WorldValue) : Type 0 where
  pub taken : (machine : Machine) → IsPeer world machine → (session : NodeId) (tl : Timeline)
      → IsTakenIn machine session tl → IsMade configs now turns session tl
  pub told : (sending : SendingValue) → Has world.sent sending → (session : NodeId) (tl : Timeline)
      → TellsTimeline (reading_of sending.bytes) session tl → IsMade configs now turns session tl
  -- and what counts for a peer is the first of greatest beat origin that its session has taken
  pub best : (machine : Machine) → IsPeer world machine → IsBest (taken_in machine) (timeline_in machine)

-- ---- agreement

-- Rule: Two peers in one session that took the same timelines hold the same one, where different timelines differ in beat origin.
-- Two peers in one session that have taken the same timelines there hold the same one, in whatever order and however often
-- they took them, where different ones have different beat origins.
abbrev pub Agrees : WorldValue → Type 0
Agrees world =
    (one other : Machine) → IsPeer world one → IsPeer world other → session_in one ≡ session_in other
    → ((tl : Timeline) → Has (taken_in one) tl ↔ Has (taken_in other) tl) → HaveOwnOrigins (Has (taken_in one))
    → timeline_in one ≡ timeline_in other

-- ---- convergence

-- Rule: A peer whose session took all that was made for it holds the timeline of greatest beat origin, where different timelines differ in
-- that.
abbrev pub Converges : List ConfigValue → ℤ → List TurnValue → WorldValue → Type 0
Converges configs now turns world =
    (machine : Machine) → IsPeer world machine
    → ((tl : Timeline) → IsMade configs now turns (session_in machine) tl → Has (taken_in machine) tl)
    → HaveOwnOrigins (IsMade configs now turns (session_in machine))
    → IsMade configs now turns (session_in machine) (timeline_in machine)
    × ((tl : Timeline) → IsMade configs now turns (session_in machine) tl → tl.beat ≤ℤ (timeline_in machine).beat)

-- Rule: A peer that hears once, in its session, the greatest timeline made for that session, and stays there, holds that timeline, where
-- different timelines made for it differ in beat origin.
abbrev pub OneRoundSuffices : List ConfigValue → ℤ → List TurnValue → WorldValue → Type 0
OneRoundSuffices configs now turns world =
    (k : ℕ) (machine : Machine) (tl : Timeline) → slice_get world.machines k ≡ Some machine
    → HearsTold k (session_in machine) tl (opened_world configs now) turns
    → HaveOwnOrigins (IsMade configs now turns (session_in machine))
    → ((other : Timeline) → IsMade configs now turns (session_in machine) other → other.beat ≤ℤ tl.beat)
    → timeline_in machine ≡ tl

-- Rule: One message to each suffices: a peer that hears, in a session, one datagram of a holder of the session's greatest timeline, or is a
-- holder, and stays there, holds that timeline, where different timelines differ in beat origin.
abbrev pub OneMessageSuffices : List ConfigValue → ℤ → List TurnValue → WorldValue → Type 0
OneMessageSuffices configs now turns world =
    (session : NodeId) (tl : Timeline) → HaveOwnOrigins (IsMade configs now turns session)
    → ((other : Timeline) → IsMade configs now turns session other → other.beat ≤ℤ tl.beat)
    → (k : ℕ) (machine : Machine) → slice_get world.machines k ≡ Some machine → session_in machine ≡ session
    → HearsHolder k session tl (opened_world configs now) turns ⊎ HoldsAndStays k session tl (opened_world configs now) turns
    → timeline_in machine ≡ tl

-- ---- clicks

-- Rule: Two peers that hold the same timeline click in the same microseconds of ghost time, with the same accents by one quantum, where
-- nothing is clipped.
-- A host time of the one clicks where the host time of the other that has the same ghost time does, where nothing is clipped.
abbrev pub ClickTogether : WorldValue → Type 0
ClickTogether world =
    (one other : Machine) → IsPeer world one → IsPeer world other → timeline_in one ≡ timeline_in other
    → (time quantum : ℤ) → IsInReachOf (timeline_in one) one.published.timeline (offset_in one) time
    → IsInReachOf (timeline_in other) other.published.timeline (offset_in other) (time +ℤ offset_in one -ℤ offset_in other)
    → (clicks_at one.published.timeline time ≡ clicks_at other.published.timeline (time +ℤ offset_in one -ℤ offset_in other))
    × (is_accented one.published.timeline quantum time ≡ is_accented other.published.timeline quantum (time +ℤ offset_in one -ℤ offset_in other))

-- ---- for proofs alone

pub record IsSoundWorld (configs : List ConfigValue) (now : ℤ) (turns : List TurnValue) (world : WorldValue) : Type 0 where
  pub origin : HasOrigins configs now turns world
  pub round : OneRoundSuffices configs now turns world
  pub message : OneMessageSuffices configs now turns world
  pub clicks : ClickTogether world
