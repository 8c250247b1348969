-- Only for proofs: what the three loops of a live run owe and promise, one record each, as threads that are joined have one clause.
use Rattle.std.specs.Prelude.{◌≡◌, ◌≤◌, ◌<◌, ◌^◌, ◌+◌, ℕ, ℤ, not, Bool, true, None, List, [], length, map, All, Option}
use Rattle.std.specs.Vec.{vec_capacity}
use Rattle.lk_outside.specs.Audio.{AudioSeen}
use Rattle.lk_outside.specs.Port.{PortSeen}
use Rattle.link_shared.specs.Audio.{AudioView}
use Rattle.link_shared.specs.Hub.{HubView}
use Rattle.link_shared.specs.Passes.{AppView}
use Rattle.link_script.specs.LiveScript.{IsCommand, app, block}
use Rattle.link_script.specs.declared.live_script.AppCommand.{AppCommand}
use Rattle.link_script.specs.declared.live_script.BlockCommand.{BlockCommand}
use Rattle.link_live.specs.AudioRun.{IsAudioRun, HasAudioCause}
use Rattle.link_live.specs.Network.{IsNetworkRun, HasCause, locals_of}
use Rattle.link_live.specs.ScriptRun.{IsScriptRun}
use Rattle.link_live.specs.declared.audio.AudioReport.{AudioReport}
use Rattle.link_live.specs.declared.network.NetEnd.{NetEnd}
use Rattle.link_live.specs.declared.script.ScriptReport.{ScriptReport}

-- ---- the network's

pub record CanRun (bound : Bool) (hub : HubView) (port : PortSeen) : Type 0 where
  pub empty : hub.journal ≡ []
  pub bound_to : bound ≡ true → port.gates ≡ locals_of hub.config

pub record HasRun (bound : Bool) (before after : HubView) (port port_then : PortSeen) (end : NetEnd) : Type 0 where
  pub run : IsNetworkRun before after port.told port_then.told end.clock end.failed end.full
  pub cause : HasCause bound port port_then end.failed
  pub stay : port_then.gates ≡ port.gates

-- ---- the audio thread's

pub record CanPlay (blocks : ℕ) (commands : List BlockCommand) (pass : AudioView) (report : AudioReport) : Type 0 where
  pub each : All (λ command. IsCommand (block command)) commands
  pub numbers : length pass.made + length commands < 2 ^ 60
  pub empty : (report.reads.items ≡ []) × (report.commits.items ≡ []) × (report.plays.items ≡ [])
  pub room : (blocks ≤ vec_capacity report.reads) × (blocks ≤ vec_capacity report.plays)
  pub room_for_commits : length commands ≤ vec_capacity report.commits

pub record HasPlayedBlocks (blocks : ℕ) (commands : List BlockCommand) (before after : AudioView) (audio audio_then : AudioSeen) (report : AudioReport) (ended : Bool) : Type 0 where
  pub run : IsAudioRun blocks commands before after audio.told audio_then.told report.reads.items report.commits.items (map (λ clicks. clicks.items) report.plays.items) (not ended)
  pub cause : HasAudioCause audio.faults audio_then.faults ended

-- ---- the application's

pub record CanTake (commands : List AppCommand) (pass : AppView) (report : ScriptReport) : Type 0 where
  pub each : All (λ command. IsCommand (app command)) commands
  pub sole : (pass.sole ≡ true) × (pass.made ≡ 0) × (pass.own ≡ None) × (pass.pushed ≡ [])
  pub empty : (report.captures.items ≡ []) × (report.commits.items ≡ [])
  pub room : (length commands ≤ vec_capacity report.captures) × (length commands ≤ vec_capacity report.commits)

abbrev pub HasTakenCommands : Option ℤ → List AppCommand → AppView → ScriptReport → Bool → Type 0
HasTakenCommands late commands pass report all = IsScriptRun late commands pass report.captures.items report.commits.items all
