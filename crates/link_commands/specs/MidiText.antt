-- What `midi` writes: the MIDI events of blocks that adjoin from the opening moment, each played by the state that was published last when
-- the block began; and at the end how many blocks there were, and how many MIDI events.
use Rattle.std.specs.Prelude.{ℕ, zero, suc, ℤ, pos, ◌+◌, ◌*◌, ◌+ℤ◌, int_le, false, if◌then◌else◌, List, [], ◌∷◌, ◌++◌, length, codes}
use Rattle.std.specs.List.{flat_map}
use Rattle.std.specs.Fmt.{decimal, signed_decimal}
use Rattle.hex.specs.Hex.{encode_lower}
use Rattle.link_midi.specs.Events.{Part, all_events_of, span}
use Rattle.link_midi.specs.Messages.{bytes_of}
use Rattle.link_midi.specs.declared.message.MidiEvent.{MidiEvent}
use Rattle.link_node.specs.Config.{ConfigValue}
use Rattle.link_node.specs.Event.{EventValue, moment_of}
use Rattle.link_node.specs.Runs.{replayed}
use Rattle.link_lines.specs.Line.{line_of}

-- ---- the blocks

-- The longest run of first events of which each comes at or before a time, so that the greatest moment is at or before it too.
unfoldable pub due_by : ℤ → List EventValue → List EventValue
due_by time [] = []
due_by time (e ∷ es) = if int_le (moment_of e) time then e ∷ due_by time es else []

-- how a node is opened, at which moment, what happens to it, and how long its blocks are
pub record MidiRun : Type 0 where
  pub config : ConfigValue
  pub now : ℤ
  pub events : List EventValue
  pub length : ℕ

-- where a block begins, by its number, counted from 0
abbrev pub begin_of : MidiRun → ℕ → ℤ
begin_of run k = run.now +ℤ pos (k * run.length)

-- a block by its number, with the state that was published last when it began
abbrev pub part_of : MidiRun → ℕ → Part
part_of run k = record {
  state = (replayed run.config run.now (due_by (begin_of run k) run.events)).published;
  block = span (begin_of run k) run.length;
}

-- so many blocks, from a number on
unfoldable pub parts_from : MidiRun → ℕ → ℕ → List Part
parts_from run k zero = []
parts_from run k (suc n) = part_of run k ∷ parts_from run (k + 1) n

-- the MIDI events of the first blocks
abbrev pub midi_events_of : MidiRun → ℕ → List MidiEvent
midi_events_of run blocks = all_events_of false (parts_from run 0 blocks)

-- ---- the text

-- Rule: A line of `midi` tells a MIDI event by its time and its bytes in hex.
-- a MIDI event, with its bytes in hex
unfoldable pub midi_line_of : MidiEvent → List ℕ
midi_line_of event = line_of (codes "midi" ∷ signed_decimal event.at ∷ encode_lower (bytes_of event.message) ∷ [])

-- how many blocks there were, and how many MIDI events
unfoldable pub blocks_line_of : ℕ → ℕ → List ℕ
blocks_line_of blocks events = line_of (codes "done" ∷ decimal blocks ∷ decimal events ∷ [])

-- Rule: `midi` writes the MIDI events of adjoining blocks, the first begun at the moment of opening, for the replay script that it reads.
unfoldable pub midi_text_of : MidiRun → ℕ → List ℕ
midi_text_of run blocks =
    flat_map midi_line_of (midi_events_of run blocks) ++ blocks_line_of blocks (length (midi_events_of run blocks))
