-- What a hub stands for, and what each call does to it.
use Rattle.std.specs.Prelude.{◌≡◌, ℕ, ℤ, ◌+◌, ◌<◌, List, [], ◌∷◌, ◌++◌, length, map, Bool, true, false, if◌then◌else◌, nat_lt, Option, Some, None}
use Rattle.audio_handoff.specs.Cell.{Pair}
use Rattle.client_state.specs.Words.{commit_of_words}
use Rattle.client_state.specs.declared.commit.Commit.{Commit}
use Rattle.link_node.specs.Config.{ConfigValue}
use Rattle.link_node.specs.Event.{EventValue, Rx, Tick, App, Audio, End, SendingValue}
use Rattle.link_node.specs.Machine.{Machine}
use Rattle.link_node.specs.Opening.{opened}
use Rattle.link_node.specs.Runs.{replayed}
use Rattle.link_shared.specs.Journal.{IsOffered}
use Rattle.link_shared.specs.Passes.{AppView}
use Rattle.link_shared.specs.declared.got.Got.{Got}
use Rattle.link_shared.specs.declared.got.Got.TheVariants as got
use Rattle.link_shared.specs.declared.queue.Item.{Item}
use Rattle.link_shared.specs.declared.queue.Item.TheVariants as item

-- The config, the opening moment, how many events the journal takes, and the journal; the rows of audio commits read, each behind its
-- number; the applications' commits popped, and how many quits; and the passes handed in
pub record HubView : Type 0 where
  pub config : ConfigValue
  pub opened_at : ℤ
  pub most : ℕ
  pub journal : List EventValue
  pub reads : List Pair
  pub popped : List Commit
  pub quits : ℕ
  pub handed : List AppView

abbrev pub new_hub : ConfigValue → ℤ → ℕ → HubView
new_hub config opened_at most =
    record { config = config; opened_at = opened_at; most = most; journal = []; reads = []; popped = []; quits = 0; handed = [] }

abbrev pub opening_of : HubView → Machine
opening_of hub = opened hub.config hub.opened_at

-- what the journal makes of the node
abbrev pub machine_of : HubView → Machine
machine_of hub = replayed hub.config hub.opened_at hub.journal

-- ---- what is offered in a turn

-- the commit that was popped, if one was
abbrev pub item_events : ℤ → Option Item → List EventValue
item_events now None = []
item_events now (Some (item.Commit commit)) = App commit now ∷ []
item_events now (Some item.Quit) = []

-- Rule: An audio commit is offered only where it is newer than the last one taken; one overtaken by a later one before a turn is never
-- offered.
abbrev pub read_events : ℤ → ℕ → Pair → List EventValue
read_events now taken pair = if nat_lt taken pair.0 then Audio pair.0 (commit_of_words pair.1) now ∷ [] else []

-- that commit is offered to the journal
abbrev pub IsReadOffered : ConfigValue → ℤ → ℕ → ℤ → Pair → List EventValue → List EventValue → List SendingValue → List SendingValue → Bool → Type 0
IsReadOffered config opened_at most now pair before after unsent sent full =
    IsOffered (opened config opened_at) most (read_events now (replayed config opened_at before).audio pair) before after unsent sent full

-- what the turn was given
abbrev pub got_events : ℤ → Got → List EventValue
got_events now got.Nothing = []
got_events now (got.Datagram gate from bytes) = Rx gate from bytes.items now ∷ []
got_events now got.Tick = Tick now ∷ []
got_events now got.End = End now ∷ []

-- a datagram came on a gate that is there
abbrev pub IsOnGate : ℕ → Got → Type 0
IsOnGate gates got.Nothing = Unit {0}
IsOnGate gates (got.Datagram gate from bytes) = gate.0 < gates
IsOnGate gates got.Tick = Unit {0}
IsOnGate gates got.End = Unit {0}

-- ---- what a turn does

abbrev pub commits_of_item : Option Item → List Commit
commits_of_item None = []
commits_of_item (Some (item.Commit commit)) = commit ∷ []
commits_of_item (Some item.Quit) = []

abbrev pub is_quit : Option Item → Bool
is_quit None = false
is_quit (Some (item.Commit commit)) = false
is_quit (Some item.Quit) = true

-- Rule: A turn of the hub offers to the journal the commit popped from the queue, then the audio commit read, then the datagram or tick.
-- One item is popped at most, one row of the audio commits' cell is read, and these and what the turn was given are offered, in this order.
-- `sends` is exactly what the machine sent for the events taken. A quit is told, and no turn tells one that wasn't popped.
pub record HasTurned (before after : HubView) (now : ℤ) (got : Got) (sends : List SendingValue) (quit full : Bool) : Type 0 where
  pub popped_item : Option Item
  pub popped : after.popped ≡ before.popped ++ commits_of_item popped_item
  pub quits : after.quits ≡ before.quits + (if quit then 1 else 0)
  pub quit_is : quit ≡ is_quit popped_item
  pub pair : Pair
  pub reads : after.reads ≡ before.reads ++ pair ∷ []
  pub offered : IsOffered (opening_of before) before.most
      ((item_events now popped_item ++ read_events now (machine_of before).audio pair) ++ got_events now got)
      before.journal after.journal [] sends full
  pub others_stay : after
      ≡ record before { journal = after.journal; reads = after.reads; popped = after.popped; quits = after.quits }
