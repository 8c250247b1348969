-- Only for proofs: which events are time alone.
use Rattle.std.specs.Prelude.{Bool, true, false}
use Rattle.link_node.specs.Event.{EventValue, Rx, Tick, App, Audio, End}

abbrev pub is_tick : EventValue → Bool
is_tick (Rx gate from bytes now) = false
is_tick (Tick now) = true
is_tick (App commit now) = false
is_tick (Audio number commit now) = false
is_tick (End now) = false
