-- How the events of a block are found, from pulse to pulse. Only proofs and private functions speak of it.
use Rattle.std.specs.Prelude.{◌≡◌, ◌≤◌, ℤ, pos, ◌+ℤ◌, ◌-ℤ◌, ◌*ℤ◌, ◌<ℤ◌, ◌≤ℤ◌, Bool, true, false, List, ◌++◌, count_by, unsigned_abs}
use Rattle.lk_base.specs.declared.timeline.Timeline.{Timeline}
use Rattle.client_state.specs.declared.state.State.{State}
use Rattle.link_midi.specs.Pulse.{pulse_of}
use Rattle.link_midi.specs.Events.{wants_at, events_from, running_from}
use Rattle.link_midi.specs.Messages.{is_clock, is_other}
use Rattle.link_midi.specs.declared.message.MidiEvent.{MidiEvent}

-- the events from a time up to but not another
unfoldable pub events_between : State → Bool → ℤ → ℤ → List MidiEvent
events_between state running from to = events_from state running from (unsigned_abs (to -ℤ from))

unfoldable pub running_between : State → Bool → ℤ → ℤ → Bool
running_between state running from to = running_from state running from (unsigned_abs (to -ℤ from))

-- so many microbeats are the first at which a pulse is passed
pub record IsBeatOf (pulse whole : ℤ) : Type 0 where
  pub there : (pulse *ℤ pos 1_000_000) ≤ℤ (pos 24 *ℤ whole)
  pub before : (pos 24 *ℤ (whole -ℤ pos 1)) <ℤ (pulse *ℤ pos 1_000_000)

-- the first pulse from a time on is at `at`
pub record IsPulseTime (tl : Timeline) (pulse from end at : ℤ) : Type 0 where
  pub not_before : from ≤ℤ at
  pub inside : at <ℤ end
  pub there : pulse_of tl at ≡ pulse
  pub before : pulse_of tl (at -ℤ pos 1) ≡ pulse -ℤ pos 1

-- the events of a block up to a time have been found, and the last pulse before it is known
pub record HasEvents (state : State) (was : Bool) (start end : ℤ) (running : Bool) (pulse from : ℤ) (events : List MidiEvent) : Type 0 where
  pub later : start ≤ℤ from
  pub order : from ≤ℤ end
  pub last : pulse ≡ pulse_of state.timeline (from -ℤ pos 1)
  pub wanted : running ≡ true → wants_at state from ≡ true
  pub clocks : pulse ≡ pulse_of state.timeline (start -ℤ pos 1) +ℤ pos (count_by is_clock events)
  pub others : count_by is_other events ≤ 3
  pub begun : running ≡ false → count_by is_other events ≤ 1
  pub found : events_between state was start end ≡ events ++ events_between state running from end
  pub runs : running_between state was start end ≡ running_between state running from end
