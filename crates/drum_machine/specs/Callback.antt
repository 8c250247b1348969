-- The block of the audio callback, and what an edit makes of a state.
use Rattle.std.specs.Prelude.{ℕ, ℤ, pos, true}
use Rattle.lk_base.specs.declared.block.Block.{Block}
use Rattle.client_state.specs.Edits.{played_of, requested_of, tempo_set_of}
use Rattle.client_state.specs.declared.state.State.{State}
use Rattle.step_sequencer.specs.Frames.{frame_time}
use Rattle.drum_machine.specs.declared.callback.Change.{Change}
use Rattle.drum_machine.specs.declared.callback.Change.TheVariants as change

-- the time of the 960 frames from this one on
abbrev pub block_from : ℤ → ℕ → Block
block_from origin first = record { start = frame_time origin first; length = pos 20_000 }

-- It plays as of a moment, from beat 0, which is there where nobody else is in the session, and else where a bar of it begins next; or it
-- keeps its beat there at another tempo.
abbrev pub changed_by : Change → ℤ → State → State
changed_by change.Play at state = record state {
  timeline = requested_of state.peers state.timeline (pos 0) at (pos 4_000_000);
  start = played_of state.start true at;
}
changed_by (change.Tempo mpb) at state = record state { timeline = tempo_set_of state.timeline mpb at }
