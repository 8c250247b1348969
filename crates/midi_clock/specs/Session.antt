-- What a session leaves: what its node recorded, published and sent, and which MIDI messages went out.
use Rattle.std.specs.Prelude.{◌≡◌, ◌⊎◌, ℕ, ℤ, pos, ◌+ℤ◌, ◌*◌, Bool, true, false, List, [], Option, None}
use Rattle.audio_handoff.specs.Cell.{NumbersNeverFall}
use Rattle.lk_base.specs.declared.endpoint.Endpoint.{Endpoint}
use Rattle.lk_outside.specs.Faults.{Rose}
use Rattle.lk_outside.specs.Port.{PortContents, PortSeen}
use Rattle.lk_outside.specs.Stream.{Stream}
use Rattle.client_state.specs.declared.state.State.{State}
use Rattle.link_node.specs.Config.{ConfigValue, GateValue}
use Rattle.link_node.specs.Event.{EventValue}
use Rattle.link_shared.specs.Audio.{AudioView}
use Rattle.link_shared.specs.Ending.{WerePublished}
use Rattle.link_shared.specs.Journal.{AreCarried, app_commits_in}
use Rattle.link_live.specs.Headline.{IsRecorded, new_audio}
use Rattle.link_live.specs.NodeRun.{recorded_of}
use Rattle.link_live.specs.OneGate.{one_gate_from}
use Rattle.midi_clock.specs.Player.{HasPlayCause, IsCutOff, IsPlayedWhole}
use Rattle.midi_clock.specs.Sent.{counts_of}
use Rattle.midi_clock.specs.Statuses.{ended_as}
use Rattle.midi_clock.specs.declared.counts.Counts.{Counts}
use Rattle.midi_clock.specs.declared.player.PlayEnd.{PlayEnd}
use Rattle.midi_clock.specs.declared.player.PlayEnd.TheVariants as play_end
use Rattle.midi_clock.specs.declared.status.Status.{Status}
use Rattle.midi_clock.specs.declared.status.Status.TheVariants as status

-- the config of a node with one gate, that counts in this quantum and is in this group
abbrev pub following_from : ℕ → ℤ → GateValue → ℤ → ℕ → ConfigValue
following_from seed mpb gate quantum group = record (one_gate_from seed mpb gate) { quantum = quantum; group = group }

-- what is seen of the devices: the port, and the sink of the MIDI
pub record DevicesSeen : Type 0 where
  pub port : PortSeen
  pub midi : Stream

abbrev pub devices_seen : PortSeen → Stream → DevicesSeen
devices_seen port midi = record { port = port; midi = midi }

-- What the node recorded: it heard, sent and published what replay gives for its events, among which there is no commit. What the audio
-- thread's pass read are states that were published, none older than one before.
pub record IsSessionRecorded (config : ConfigValue) (opened_at : ℤ) (failed full : Bool) (port port_then : Option PortContents) (gates : List Endpoint) (pass : AudioView) : Type 0 where
  pub events : List EventValue
  pub published : List State
  pub recorded : IsRecorded config 524_288 None failed full port port_then gates (recorded_of config opened_at events published)
  pub reads : WerePublished published pass.seen
  pub never_falls : NumbersNeverFall pass.seen
  pub no_audio_commit : AreCarried [] events
  pub no_app_commit : app_commits_in events ≡ []

-- Rule: The first block of the MIDI clock begins half a second after its node opened, and 500 blocks are a second.
-- What a session met: how its loop ended, whether the port failed, whether an event found no room; and what is promised of it then.
pub record HasSession (seconds : ℕ) (config : ConfigValue) (opened_at : ℤ) (before after : DevicesSeen) (end : PlayEnd) (failed full : Bool) (counts : Counts) : Type 0 where
  pub pass : AudioView
  pub recorded : IsSessionRecorded config opened_at failed full before.port.told after.port.told after.port.gates pass
  pub whole : end ≡ play_end.Played → IsPlayedWhole (seconds * 500) (opened_at +ℤ pos 500_000) new_audio pass before.midi.told after.midi.told counts
  pub cut : end ≡ play_end.Output → IsCutOff (seconds * 500) (opened_at +ℤ pos 500_000) new_audio pass before.midi.told after.midi.told counts
  pub cause : HasPlayCause before.midi.faults after.midi.faults end
  pub port_works : failed ≡ false → after.port.faults ≡ before.port.faults
  pub port_fails : failed ≡ true → Rose before.port.faults after.port.faults

-- A session's end is the first cause that holds, of what it met. Where no memory was left, nothing was called.
abbrev pub EndsSession : ℕ → ConfigValue → ℤ → DevicesSeen → DevicesSeen → Status → Counts → Type 0
EndsSession seconds config opened_at before after ended counts =
    ((ended ≡ status.Memory) × (after ≡ before) × (counts ≡ counts_of []))
    ⊎ ((end : PlayEnd) × (failed : Bool) × (full : Bool) × (ended ≡ ended_as end failed full)
    × HasSession seconds config opened_at before after end failed full counts)
