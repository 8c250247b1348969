-- MIDI messages: their bytes, and which of them are clocks.
use Rattle.std.specs.Prelude.{ℕ, ◌<◌, ◌%◌, ◌/◌, Bool, true, false, not, List, [], ◌∷◌}
use Rattle.link_midi.specs.declared.message.MidiMessage.{MidiMessage}
use Rattle.link_midi.specs.declared.message.MidiMessage.TheVariants.{Clock, Start, Continue, Stop, Position}
use Rattle.link_midi.specs.declared.message.MidiEvent.{MidiEvent}

-- a position has 14 bits
abbrev pub IsMessage : MidiMessage → Type 0
IsMessage Clock = Unit
IsMessage Start = Unit
IsMessage Continue = Unit
IsMessage Stop = Unit
IsMessage (Position sixteenths) = sixteenths < 16_384

-- Rule: The MIDI bytes are F8 for a clock, FA for a start, FB for a continue, FC for a stop, and F2 with 14 bits for a song position.
-- a position is sent in two bytes of seven bits, the lower first
unfoldable pub bytes_of : MidiMessage → List ℕ
bytes_of Clock = 248 ∷ []
bytes_of Start = 250 ∷ []
bytes_of Continue = 251 ∷ []
bytes_of Stop = 252 ∷ []
bytes_of (Position sixteenths) = 242 ∷ (sixteenths % 128) ∷ (sixteenths / 128) ∷ []

unfoldable pub is_clock_message : MidiMessage → Bool
is_clock_message Clock = true
is_clock_message Start = false
is_clock_message Continue = false
is_clock_message Stop = false
is_clock_message (Position sixteenths) = false

abbrev pub is_clock : MidiEvent → Bool
is_clock event = is_clock_message event.message

abbrev pub is_other : MidiEvent → Bool
is_other event = not (is_clock_message event.message)
