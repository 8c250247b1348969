-- The MIDI events of blocks, microsecond by microsecond. When a start is sent is a rule of this project: at the first sixteenth that the
-- state wants to run at.
use Rattle.std.specs.Prelude.{ℕ, zero, suc, ℤ, pos, ◌+ℤ◌, unsigned_abs, int_le, Bool, not, ◌&&◌, ◌||◌, if◌then◌else◌, List, [], ◌∷◌, ◌++◌}
use Rattle.std.specs.Int.{int_div_euclid, int_rem_euclid}
use Rattle.std.specs.Ordering.{int_eq}
use Rattle.lk_base.specs.declared.block.Block.{Block}
use Rattle.client_state.specs.declared.state.State.{State}
use Rattle.link_midi.specs.Pulse.{pulse_of, pulses_at}
use Rattle.link_midi.specs.declared.message.MidiMessage.{MidiMessage}
use Rattle.link_midi.specs.declared.message.MidiMessage.TheVariants.{Clock, Start, Continue, Stop, Position}
use Rattle.link_midi.specs.declared.message.MidiEvent.{MidiEvent}

-- Rule: A MIDI clock is to run while the state is playing and its start has come.
unfoldable pub wants_at : State → ℤ → Bool
wants_at state time = state.start.playing && int_le state.start.time time

-- a message at a time
abbrev pub event : ℤ → MidiMessage → MidiEvent
event time message = record { at = time; message = message }

-- a sixteenth begins with this pulse
unfoldable pub is_sixteenth : ℤ → Bool
is_sixteenth pulse = int_eq (int_rem_euclid pulse (pos 6)) (pos 0)

-- Rule: The MIDI song position is the number of sixteenth notes past the beat origin, modulo 16,384.
unfoldable pub position_of : ℤ → ℕ
position_of pulse = unsigned_abs (int_rem_euclid (int_div_euclid pulse (pos 6)) (pos 16_384))

-- Rule: MIDI starts with a start message at song position 0, and else with the song position and a continue message.
unfoldable pub opening_at : ℤ → ℕ → List MidiEvent
opening_at time zero = event time Start ∷ []
opening_at time (suc n) = event time (Position (suc n)) ∷ event time Continue ∷ []

-- Rule: MIDI stops, where it is running, at the first microsecond at which the state doesn't play or is to start later.
-- It runs and the state doesn't want to, so it stops; it doesn't run, the state wants to, and a sixteenth begins there, so it begins.
abbrev pub stops_at : State → Bool → ℤ → Bool
stops_at state running time = running && not (wants_at state time)

-- Rule: MIDI starts with the next sixteenth note at which the state plays, where it isn't running.
abbrev pub begins_at : State → Bool → ℤ → Bool
begins_at state running time =
    not running && wants_at state time && pulses_at state.timeline time && is_sixteenth (pulse_of state.timeline time)

-- Rule: Of one microsecond a MIDI stop comes first, then what starts, then the clock.
unfoldable pub events_at : State → Bool → ℤ → List MidiEvent
events_at state running time =
    (if stops_at state running time then event time Stop ∷ [] else [])
    ++ (if begins_at state running time then opening_at time (position_of (pulse_of state.timeline time)) else [])
    ++ (if pulses_at state.timeline time then event time Clock ∷ [] else [])

-- whether it runs after a time
unfoldable pub running_at : State → Bool → ℤ → Bool
running_at state running time = (running && wants_at state time) || begins_at state running time

-- the events of the n microseconds from a time on, in order, and whether it runs after them
unfoldable pub events_from : State → Bool → ℤ → ℕ → List MidiEvent
events_from state running time zero = []
events_from state running time (suc n) = events_at state running time ++ events_from state (running_at state running time) (time +ℤ pos 1) n

unfoldable pub running_from : State → Bool → ℤ → ℕ → Bool
running_from state running time zero = running
running_from state running time (suc n) = running_from state (running_at state running time) (time +ℤ pos 1) n

-- so many microseconds from a time on
abbrev pub span : ℤ → ℕ → Block
span time n = record { start = time; length = pos n }

-- Rule: The MIDI events of a block are those of its microseconds, in order.
abbrev pub events_of : State → Bool → Block → List MidiEvent
events_of state running block = events_from state running block.start (unsigned_abs block.length)

-- Rule: A MIDI clock runs on into the next block as it ran at the end of the one before.
abbrev pub running_after : State → Bool → Block → Bool
running_after state running block = running_from state running block.start (unsigned_abs block.length)

-- a state and the block that is played by it
pub record Part : Type 0 where
  pub state : State
  pub block : Block

-- those of parts, one after another
unfoldable pub all_events_of : Bool → List Part → List MidiEvent
all_events_of running [] = []
all_events_of running (part ∷ parts) =
    events_of part.state running part.block ++ all_events_of (running_after part.state running part.block) parts
