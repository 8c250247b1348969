-- What is sent of blocks: the MIDI messages of the states read for them, their bytes, and how many there are of each kind.
use Rattle.std.specs.Prelude.{ℕ, ℤ, pos, ◌+ℤ◌, ◌+◌, ◌*◌, Bool, true, false, List, [], ◌∷◌, map, count_by}
use Rattle.std.specs.List.{flat_map}
use Rattle.audio_handoff.specs.Cell.{Pair}
use Rattle.lk_base.specs.declared.block.Block.{Block}
use Rattle.client_state.specs.Words.{state_of_words}
use Rattle.client_state.specs.declared.state.State.{State}
use Rattle.link_midi.specs.Events.{Part, all_events_of, span}
use Rattle.link_midi.specs.Messages.{bytes_of, is_clock}
use Rattle.link_midi.specs.declared.message.MidiEvent.{MidiEvent}
use Rattle.link_midi.specs.declared.message.MidiMessage.{MidiMessage}
use Rattle.link_midi.specs.declared.message.MidiMessage.TheVariants.{Clock, Start, Continue, Stop, Position}
use Rattle.midi_clock.specs.declared.counts.Counts.{Counts}

-- the block of this number, counted from 0: each has 2 milliseconds
abbrev pub block_at : ℤ → ℕ → Block
block_at origin number = span (origin +ℤ pos (number * 2_000)) 2_000

-- each of these states with the block that it is for, from a number on
unfoldable pub parts_from : ℤ → ℕ → List State → List Part
parts_from origin number [] = []
parts_from origin number (state ∷ states) = record { state = state; block = block_at origin number } ∷ parts_from origin (number + 1) states

-- Rule: The MIDI clock sends, of blocks of 2 milliseconds that follow on each other, the MIDI events of the state read for each.
-- the messages of as many blocks as there are reads; before them the clock isn't running
abbrev pub messages_of : ℤ → List Pair → List MidiEvent
messages_of origin reads = all_events_of false (parts_from origin 0 (map (λ (pair : Pair). state_of_words pair.1) reads))

-- the bytes of messages, one after another
unfoldable pub midi_bytes_of : List MidiEvent → List ℕ
midi_bytes_of events = flat_map (λ (event : MidiEvent). bytes_of event.message) events

-- ---- how many there are

unfoldable pub is_start_message : MidiMessage → Bool
is_start_message Clock = false
is_start_message Start = true
is_start_message Continue = false
is_start_message Stop = false
is_start_message (Position sixteenths) = false

unfoldable pub is_continue_message : MidiMessage → Bool
is_continue_message Clock = false
is_continue_message Start = false
is_continue_message Continue = true
is_continue_message Stop = false
is_continue_message (Position sixteenths) = false

unfoldable pub is_stop_message : MidiMessage → Bool
is_stop_message Clock = false
is_stop_message Start = false
is_stop_message Continue = false
is_stop_message Stop = true
is_stop_message (Position sixteenths) = false

-- Rule: The MIDI clock tells how many clocks, starts, continues and stops it sent.
-- how many messages of each kind these are; a song position is told with its continue
abbrev pub counts_of : List MidiEvent → Counts
counts_of events = record {
  clocks = count_by is_clock events;
  starts = count_by (λ (event : MidiEvent). is_start_message event.message) events;
  continues = count_by (λ (event : MidiEvent). is_continue_message event.message) events;
  stops = count_by (λ (event : MidiEvent). is_stop_message event.message) events;
}
