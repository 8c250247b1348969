-- Events that stand side by side.
use Rattle.std.specs.Prelude.{◌≡◌, ℕ, ◌≤◌, ◌<◌, ℤ, List, [], ◌∷◌, ◌++◌}
use Rattle.link_midi.specs.Events.{event}
use Rattle.link_midi.specs.declared.message.MidiMessage.TheVariants.{Continue, Position}
use Rattle.link_midi.specs.declared.message.MidiEvent.{MidiEvent}

-- these end with a song position of that time, which isn't that of a start
pub record EndWithPosition (before : List MidiEvent) (time : ℤ) : Type 0 where
  pub earlier : List MidiEvent
  pub sixteenths : ℕ
  pub some : 1 ≤ sixteenths
  pub short : sixteenths < 16_384
  pub split : before ≡ earlier ++ event time (Position sixteenths) ∷ []

-- these begin with a continue of that time
pub record BeginWithContinue (after : List MidiEvent) (time : ℤ) : Type 0 where
  pub later : List MidiEvent
  pub split : after ≡ event time Continue ∷ later
