-- What a session leaves: what its node recorded, published and sent, and what was played of it.
use Rattle.std.specs.Prelude.{◌≡◌, ◌⊎◌, ℕ, ℤ, Bool, true, false, List, length, Option, None}
use Rattle.audio_handoff.specs.Cell.{NumbersNeverFall}
use Rattle.lk_base.specs.declared.endpoint.Endpoint.{Endpoint}
use Rattle.lk_outside.specs.Audio.{AudioSeen}
use Rattle.lk_outside.specs.Faults.{Rose}
use Rattle.lk_outside.specs.Port.{PortContents, PortSeen}
use Rattle.lk_outside.specs.Stream.{Stream}
use Rattle.client_state.specs.declared.state.State.{State}
use Rattle.link_node.specs.Config.{ConfigValue}
use Rattle.link_node.specs.Event.{EventValue}
use Rattle.link_shared.specs.Audio.{AudioView}
use Rattle.link_shared.specs.Ending.{WerePublished}
use Rattle.link_shared.specs.Journal.{AreCarried, last_audio_in}
use Rattle.link_live.specs.Headline.{IsRecorded, new_audio}
use Rattle.link_live.specs.NodeRun.{recorded_of}
use Rattle.step_sequencer.specs.Sound.{silent}
use Rattle.step_sequencer.specs.declared.pattern.Pattern.{Pattern}
use Rattle.drum_machine.specs.Ends.{Counts, HasPlayCause, counted}
use Rattle.drum_machine.specs.Player.{IsCutOff, IsPlayedInPart, IsPlayedWhole}
use Rattle.drum_machine.specs.Statuses.{ended_as}
use Rattle.drum_machine.specs.declared.player.PlayEnd.{PlayEnd}
use Rattle.drum_machine.specs.declared.player.PlayEnd.TheVariants as play_end
use Rattle.drum_machine.specs.declared.status.Status.{Status}
use Rattle.drum_machine.specs.declared.status.Status.TheVariants as status

-- what is seen of the devices: the port, the audio device, and the sinks of the sound and of the MIDI
pub record DevicesSeen : Type 0 where
  pub port : PortSeen
  pub audio : AudioSeen
  pub sound : Stream
  pub midi : Stream

abbrev pub devices_seen : PortSeen → AudioSeen → Stream → Stream → DevicesSeen
devices_seen port audio sound midi = record { port = port; audio = audio; sound = sound; midi = midi }

-- how often the audio device and the two sinks have failed
abbrev pub counts_of : DevicesSeen → Counts
counts_of devices = counted devices.audio.faults devices.sound.faults devices.midi.faults

-- What the node recorded: it heard, sent and published what replay gives for its events. What the audio thread's pass read are states that
-- were published, none older than one before; of its commits those among the events carry what was made under their numbers, which rise,
-- and the last one made is there, unless an event found no room.
pub record IsSessionRecorded (config : ConfigValue) (opened_at : ℤ) (failed full : Bool) (port port_then : Option PortContents) (gates : List Endpoint) (pass : AudioView) : Type 0 where
  pub events : List EventValue
  pub published : List State
  pub recorded : IsRecorded config 262_144 None failed full port port_then gates (recorded_of config opened_at events published)
  pub reads : WerePublished published pass.seen
  pub never_falls : NumbersNeverFall pass.seen
  pub commits : AreCarried pass.made events
  pub last_commit : full ≡ false → last_audio_in 0 events ≡ length pass.made

-- What a session met: how its loop ended, whether the port failed, whether an event found no room; and what is promised of it then. What
-- was written begins with silence and before any MIDI clock.
pub record HasSession (blocks : ℕ) (pattern : Pattern) (config : ConfigValue) (opened_at : ℤ) (before after : DevicesSeen) (end : PlayEnd) (failed full : Bool) : Type 0 where
  pub pass : AudioView
  pub recorded : IsSessionRecorded config opened_at failed full before.port.told after.port.told after.port.gates pass
  pub whole : end ≡ play_end.Played → IsPlayedWhole blocks pattern silent false before.audio.told after.audio.told new_audio pass before.sound.told after.sound.told before.midi.told after.midi.told
  pub part : end ≡ play_end.Device → IsPlayedInPart blocks pattern silent false before.audio.told after.audio.told new_audio pass before.sound.told after.sound.told before.midi.told after.midi.told
  pub cut : end ≡ play_end.Output → IsCutOff blocks pattern silent false before.audio.told after.audio.told new_audio pass before.sound.told after.sound.told before.midi.told after.midi.told
  pub cause : HasPlayCause (counts_of before) (counts_of after) after.audio.told end
  pub port_works : failed ≡ false → after.port.faults ≡ before.port.faults
  pub port_fails : failed ≡ true → Rose before.port.faults after.port.faults

-- A session's end is the first cause that holds, of what it met. Where no memory was left, nothing was called.
abbrev pub EndsSession : ℕ → Pattern → ConfigValue → ℤ → DevicesSeen → DevicesSeen → Status → Type 0
EndsSession blocks pattern config opened_at before after ended =
    ((ended ≡ status.Memory) × (after ≡ before))
    ⊎ ((end : PlayEnd) × (failed : Bool) × (full : Bool) × (ended ≡ ended_as end failed full)
    × HasSession blocks pattern config opened_at before after end failed full)
