-- What the loop that owns the network promises.
use Rattle.std.specs.Prelude.{◌≡◌, ◌≤◌, ◌<◌, ◌⊎◌, ℕ, ℤ, ◌+◌, ◌≤ℤ◌, Bool, true, false, List, [], ◌∷◌, ◌++◌, length, map, Option, None, IfSome}
use Rattle.lk_base.specs.Ranges.{IsMoment}
use Rattle.audio_handoff.specs.Cell.{Grows}
use Rattle.lk_base.specs.declared.endpoint.Endpoint.{Endpoint}
use Rattle.lk_base.specs.declared.endpoint.Gate.{Gate}
use Rattle.lk_outside.specs.Arrivals.{ArrivalValue, PostValue}
use Rattle.lk_outside.specs.Contents.{BothTell}
use Rattle.lk_outside.specs.Faults.{Rose}
use Rattle.lk_outside.specs.Port.{PortContents, PortSeen}
use Rattle.link_node.specs.Config.{ConfigValue}
use Rattle.link_node.specs.Event.{EventValue, Rx, SendingValue}
use Rattle.link_node.specs.Runs.{machine_after, sent_of}
use Rattle.link_shared.specs.Hub.{HubView, opening_of}
use Rattle.link_shared.specs.Journal.{app_commits_in}
use Rattle.link_live.specs.Journal.{AreInOrder, IsHeard, clock_after, ticks_in, has_ended}
use Rattle.link_live.specs.Turns.{TurnValue, HaveTurned, is_full_in, LastQuits}

-- the local endpoints of a node's gates, in order
abbrev pub locals_of : ConfigValue → List Endpoint
locals_of config = map (λ gate. gate.local) config.gates

-- a datagram to send, as it is posted
abbrev pub post_of : SendingValue → PostValue
post_of sending = record { gate = sending.gate; to = sending.to; bytes = sending.bytes }

abbrev pub posts_of : List SendingValue → List PostValue
posts_of sends = map post_of sends

-- these arrivals were taken from the front of those left and given, and these datagrams posted
pub record HasGrown (arrivals : List ArrivalValue) (posts : List PostValue) (before after : PortContents) : Type 0 where
  pub left : before.left ≡ arrivals ++ after.left
  pub given : after.given ≡ before.given ++ arrivals
  pub posted : after.posted ≡ before.posted ++ posts

-- Rule: All that was sent for the events before a datagram of the journal was posted before that datagram was taken.
abbrev pub ArePostedBefore : ConfigValue → ℤ → List EventValue → List PostValue → Type 0
ArePostedBefore config now events posts =
    (before after : List EventValue) (gate : Gate) (from : Endpoint) (bytes : List ℕ) (at : ℤ)
    → events ≡ before ++ Rx gate from bytes at ∷ after → Grows (posts_of (sent_of config now before)) posts

-- the port tells what comes, and something is left
abbrev pub HasMore : Option PortContents → Type 0
HasMore told = IfSome told (λ contents. 0 < length contents.left) × (told ≡ None → ⊥)

-- From a hub whose journal was empty: the turns that were made, the arrivals taken, and the datagrams posted.
pub record IsNetworkRun (before after : HubView) (told told_then : Option PortContents) (clock : ℤ) (failed full : Bool) : Type 0 where
  -- the loop ends with the first turn that popped a quit; `full` is told exactly where a turn told it
  pub turns : List TurnValue
  pub turned : HaveTurned before turns after
  pub quits : LastQuits turns
  pub full_is : full ≡ is_full_in turns
  -- what the hub was made with stays, and the passes handed in
  pub same_config : after.config ≡ before.config
  pub same_opening : after.opened_at ≡ before.opened_at
  pub same_most : after.most ≡ before.most
  pub same_handed : after.handed ≡ before.handed
  pub one_quit : after.quits ≡ before.quits + 1
  -- the arrivals are there for any port; where it tells, they are those that were given
  pub arrivals : List ArrivalValue
  pub posts : List PostValue
  pub grown : BothTell (HasGrown arrivals posts) told told_then
  -- the clock is the greatest moment heard, and no event is past it
  pub clock_is : clock ≡ clock_after before.opened_at arrivals
  pub moment : IsMoment clock
  pub reached : (machine_after (opening_of before) after.journal).moment ≤ℤ clock
  -- the journal: in order, begun with a tick, not ended, and what was heard
  pub order : AreInOrder (opening_of before) [] after.journal
  pub ticked : full ≡ false → 0 < ticks_in after.journal
  pub goes_on : has_ended after.journal ≡ false
  pub heard : IsHeard full before.config before.opened_at arrivals after.journal
  pub fits : length after.journal ≤ before.most
  pub no_room : full ≡ true → length after.journal ≡ before.most
  -- all that the machine sends is posted, in order, unless the port failed, and then the first of it
  pub sent : failed ≡ false → posts ≡ posts_of (sent_of before.config before.opened_at after.journal)
  pub unsent : List PostValue
  pub some_sent : posts_of (sent_of before.config before.opened_at after.journal) ≡ posts ++ unsent
  pub before_each : ArePostedBefore before.config before.opened_at after.journal posts
  -- where something is left to come, each turn took an arrival or a tick, and at most one commit of an application; the last took none
  pub outnumbered : HasMore told_then → failed ≡ false → full ≡ false
      → length (app_commits_in after.journal) < length arrivals + ticks_in after.journal

-- Rule: A run's port failed exactly where no gate was bound or its count of failures rose.
-- `failed` is told exactly where no gate was bound or the port's count rose, and where none was bound no call was made
pub record HasCause (bound : Bool) (port port_then : PortSeen) (failed : Bool) : Type 0 where
  pub works : failed ≡ false → (bound ≡ true) × (port_then.faults ≡ port.faults)
  pub fails : failed ≡ true → (bound ≡ false) ⊎ Rose port.faults port_then.faults
  pub unbound : bound ≡ false → (failed ≡ true) × (port_then.faults ≡ port.faults) × (port_then.told ≡ port.told)
