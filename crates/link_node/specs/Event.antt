-- What happens to a node, and what it sends, as plain data.
use Rattle.std.specs.Prelude.{ℕ, ℤ, ◌+◌, ◌≤◌, ◌<◌, ◌^◌, List, length}
use Rattle.lk_base.specs.Ranges.{IsMoment}
use Rattle.lk_base.specs.declared.endpoint.Endpoint.{Endpoint}
use Rattle.lk_base.specs.declared.endpoint.Gate.{Gate}
use Rattle.link_payload.specs.Entries.{AreBytes}
use Rattle.client_state.specs.Commit.{IsTidyCommit}
use Rattle.client_state.specs.declared.commit.Commit.{Commit}
use Rattle.link_node.specs.declared.event.Event.{Event}
use Rattle.link_node.specs.declared.event.Event.TheVariants as event
use Rattle.link_node.specs.declared.sends.Sending.{Sending}

-- a datagram, time alone, a commit of an application or of the audio thread, or the end; each with its moment
pub data EventValue : Type 0 where
  Rx : (gate : Gate) → (from : Endpoint) → (bytes : List ℕ) → (now : ℤ) → EventValue
  Tick : (now : ℤ) → EventValue
  App : (commit : Commit) → (now : ℤ) → EventValue
  Audio : (number : ℕ) → (commit : Commit) → (now : ℤ) → EventValue
  End : (now : ℤ) → EventValue

abbrev pub event_value : Event → EventValue
event_value (event.Rx gate from bytes now) = Rx gate from bytes.items now
event_value (event.Tick now) = Tick now
event_value (event.App commit now) = App commit now
event_value (event.Audio number commit now) = Audio number commit now
event_value (event.End now) = End now

-- a datagram on its way out
pub record SendingValue : Type 0 where
  pub gate : Gate
  pub to : Endpoint
  pub bytes : List ℕ

abbrev pub sending_value : Sending → SendingValue
sending_value sending = record { gate = sending.gate; to = sending.to; bytes = sending.bytes.items }

abbrev pub moment_of : EventValue → ℤ
moment_of (Rx gate from bytes now) = now
moment_of (Tick now) = now
moment_of (App commit now) = now
moment_of (Audio number commit now) = now
moment_of (End now) = now

-- What a node with so many gates can take, where so many application commits and audio commits up to this number were
-- taken. That a datagram is at most 513 bytes holds of all events in code.
abbrev pub FitsKind : ℕ → ℕ → ℕ → EventValue → Type 0
FitsKind gates app audio (Rx gate from bytes now) = (gate.0 < gates) × AreBytes bytes × (length bytes ≤ 513)
FitsKind gates app audio (Tick now) = Unit {0}
FitsKind gates app audio (App commit now) = IsTidyCommit commit × (app < 2 ^ 60)
FitsKind gates app audio (Audio number commit now) = IsTidyCommit commit × (audio < number) × (number < 2 ^ 60)
FitsKind gates app audio (End now) = Unit {0}

abbrev pub Fits : ℕ → ℕ → ℕ → EventValue → Type 0
Fits gates app audio e = IsMoment (moment_of e) × FitsKind gates app audio e

-- how many application commits were taken after this event, and the number of the last audio commit
abbrev pub app_after : ℕ → EventValue → ℕ
app_after app (Rx gate from bytes now) = app
app_after app (Tick now) = app
app_after app (App commit now) = app + 1
app_after app (Audio number commit now) = app
app_after app (End now) = app

abbrev pub audio_after : ℕ → EventValue → ℕ
audio_after audio (Rx gate from bytes now) = audio
audio_after audio (Tick now) = audio
audio_after audio (App commit now) = audio
audio_after audio (Audio number commit now) = number
audio_after audio (End now) = audio
