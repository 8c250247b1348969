-- Only for proofs: the parts of a turn.
use Rattle.std.specs.Prelude.{◌≡◌, ℤ, ◌+◌, List, [], ◌∷◌, ◌++◌, Bool, if◌then◌else◌, Option}
use Rattle.audio_handoff.specs.Cell.{Pair}
use Rattle.link_node.specs.Event.{EventValue, SendingValue}
use Rattle.link_shared.specs.Hub.{HubView, opening_of, machine_of, item_events, read_events, commits_of_item, is_quit}
use Rattle.link_shared.specs.Journal.{IsOffered}
use Rattle.link_shared.specs.declared.queue.Item.{Item}

-- one item was popped at most, and its commit offered, which sends nothing
pub record HasTakenItem (before after : HubView) (now : ℤ) (unsent sent : List SendingValue) (quit full : Bool) : Type 0 where
  pub popped_item : Option Item
  pub popped : after.popped ≡ before.popped ++ commits_of_item popped_item
  pub quits : after.quits ≡ before.quits + (if quit then 1 else 0)
  pub quit_is : quit ≡ is_quit popped_item
  pub offered : IsOffered (opening_of before) before.most (item_events now popped_item) before.journal after.journal unsent sent full
  pub sends_stay : sent ≡ unsent
  pub audio_stays : (machine_of after).audio ≡ (machine_of before).audio
  pub others_stay : after ≡ record before { journal = after.journal; popped = after.popped; quits = after.quits }

-- a row of the audio commits' cell was read, and its commit offered where it is a later one, which sends nothing
pub record HasTakenAudio (before after : HubView) (now : ℤ) (unsent sent : List SendingValue) (full : Bool) : Type 0 where
  pub pair : Pair
  pub reads : after.reads ≡ before.reads ++ pair ∷ []
  pub offered : IsOffered (opening_of before) before.most (read_events now (machine_of before).audio pair) before.journal after.journal unsent sent full
  pub sends_stay : sent ≡ unsent
  pub others_stay : after ≡ record before { journal = after.journal; reads = after.reads }

-- these events were offered
pub record HasOffered (before after : HubView) (events : List EventValue) (unsent sent : List SendingValue) (full : Bool) : Type 0 where
  pub offered : IsOffered (opening_of before) before.most events before.journal after.journal unsent sent full
  pub others_stay : after ≡ record before { journal = after.journal }
