-- How a call of `live` may end: each status with its cause, and what was read, run, written and told then. The statuses are tried in this
-- order: the words, a failure of the source, a text over the limit, too many commands, a text that is no live script, a failure of the
-- port, one of the audio device, a full journal, a failure of the sink.
use Rattle.std.specs.Prelude.{◌≡◌, ◌≤◌, ◌+◌, ◌⊎◌, ℕ, true, Bool, List}
use Rattle.std.specs.declared.alloc.Global.{Global}
use Rattle.std.specs.declared.string.String.{String}
use Rattle.rand_pcg.specs.Lcg.{started, increment_of}
use Rattle.rand_pcg.specs.Pcg.{multiplier_64}
use Rattle.lk_base.specs.Ids.{drawn_id}
use Rattle.lk_outside.specs.Stream.{Stream}
use Rattle.lk_outside.specs.Transfer.{TakesWithin}
use Rattle.link_script.specs.LiveScript.{IsLiveText, commands_told}
use Rattle.link_script.specs.ReplayScript.{IsScriptOf}
use Rattle.link_live.specs.Headline.{LiveSetup}
use Rattle.link_live.specs.LiveRun.{EndsLiveRun}
use Rattle.link_words.specs.LiveWords.{BeginsLive, IsLive, NamesLive}
use Rattle.link_live_command.specs.Outside.{Outside}
use Rattle.link_live.specs.Report.{IsCleared, ReportValue}
use Rattle.link_live_command.specs.ReportText.{live_text_of}
use Rattle.link_live_command.specs.ScriptRead.{EndsRead}
use Rattle.link_commands.specs.Statuses.{WasRead, WritesPart, WritesSome, WritesWhole}
use Rattle.link_live.specs.declared.run.LiveEnd.{LiveEnd}
use Rattle.link_live.specs.declared.run.LiveEnd.TheVariants as end
use Rattle.link_words.specs.declared.live_words.LiveOptions.{LiveOptions}
use Rattle.link_commands.specs.declared.status.Status.{Status}
use Rattle.link_commands.specs.declared.status.Status.TheVariants as status

-- ---- a run that was begun

-- What a run is set up by: its words, the live script that was read to its end, and the seed, whose first id is the node's.
pub record IsSetUp (words : List (String Global)) (seed : ℕ) (input input' : Stream) (options : LiveOptions) (setup : LiveSetup) : Type 0 where
  pub named : NamesLive words options
  pub bytes : List ℕ
  pub read : WasRead 16_777_216 input input' bytes
  pub few : commands_told bytes ≤ 4_096
  pub script : IsLiveText bytes setup.config.mpb setup.config.sync setup.config.gates setup.apps setup.block_commands
  pub id : setup.config.id ≡ drawn_id (started 64 multiplier_64 seed (increment_of 64 1))
  pub seed_is : setup.config.seed ≡ seed
  pub events : setup.events ≡ options.events
  pub blocks : setup.blocks ≡ options.blocks
  pub quantum : setup.config.quantum ≡ options.quantum
  pub group : setup.config.group ≡ options.group

-- Rule: The record of a run is a replay script of just its node and its events, also where its journal was full (status 6).
abbrev pub IsReplayable : ReportValue → Type 0
IsReplayable report = IsScriptOf (live_text_of report true) 2 report.config report.now report.events

-- Rule: After the statuses 3, 4 and 6, and after 9 where a run had begun, the run's report stands and is written as far as the output takes
-- it.
-- A run ended so, which holds to all that is promised of a run whatever it met, and of the text of its report so much was written.
pub record HasEndedRun (setup : LiveSetup) (recorded : Bool) (before after : Outside) (ended : LiveEnd) (Writes : Stream → Stream → List ℕ → Type 0) : Type 0 where
  pub run : EndsLiveRun setup before.late before.port after.port before.audio after.audio after.report ended
  pub written : Writes before.out after.out (live_text_of after.report recorded)
  pub replayable : IsReplayable after.report

-- nothing was called but the input and the pace, and nothing is told anew
pub record Stays (before after : Outside) : Type 0 where
  pub port_stays : after.port ≡ before.port
  pub audio_stays : after.audio ≡ before.audio
  pub out_stays : after.out ≡ before.out
  pub report_stays : after.report ≡ before.report

-- How a run ends that was set up. Memory may be wanting for what it needs, before it begins, or for a capture in it.
abbrev pub EndsRun : LiveSetup → Bool → Outside → Outside → Status → Type 0
EndsRun setup recorded before after status.Done = HasEndedRun setup recorded before after end.Well WritesWhole
EndsRun setup recorded before after status.Sink = HasEndedRun setup recorded before after end.Well WritesPart
EndsRun setup recorded before after status.Port = HasEndedRun setup recorded before after end.Port WritesSome
EndsRun setup recorded before after status.Audio = HasEndedRun setup recorded before after end.Audio WritesSome
EndsRun setup recorded before after status.Events = HasEndedRun setup recorded before after end.Events WritesSome
EndsRun setup recorded before after status.Memory = Stays before after ⊎ HasEndedRun setup recorded before after end.Memory WritesSome
EndsRun setup recorded before after other = ⊥

-- ---- the command

-- no run was begun: neither port nor device was called, nothing was written, and the lists of the report are empty
pub record IsNotBegun (before after : Outside) : Type 0 where
  pub port_stays : after.port ≡ before.port
  pub audio_stays : after.audio ≡ before.audio
  pub out_stays : after.out ≡ before.out
  pub cleared : IsCleared before.report after.report

-- a run was set up by the words, the input and the seed, and ended so
pub record Runs (words : List (String Global)) (seed : ℕ) (input input' : Stream) (before after : Outside) (ended : Status) : Type 0 where
  pub options : LiveOptions
  pub setup : LiveSetup
  pub set_up : IsSetUp words seed input input' options setup
  pub ends : EndsRun setup options.«record» before after ended

-- What `live` did with these words and this seed between `input`, `before` and `input'`, `after`.
abbrev pub EndsLive : List (String Global) → ℕ → Stream → Stream → Outside → Outside → Status → Type 0
EndsLive words seed input input' before after status.Words = (IsLive words → ⊥) × (input' ≡ input) × IsNotBegun before after
EndsLive words seed input input' before after status.Input = IsLive words × EndsRead input input' status.Input × IsNotBegun before after
EndsLive words seed input input' before after (status.TooLong limit) =
    IsLive words × EndsRead input input' (status.TooLong limit) × IsNotBegun before after
EndsLive words seed input input' before after (status.TooMany limit) =
    IsLive words × EndsRead input input' (status.TooMany limit) × IsNotBegun before after
EndsLive words seed input input' before after (status.Script g line reason) =
    IsLive words × EndsRead input input' (status.Script g line reason) × IsNotBegun before after
-- want of memory may come of any run, while its words are read too; where a run had begun, it ended
EndsLive words seed input input' before after status.Memory =
    BeginsLive words × TakesWithin (16_777_216 + 65_536) input.told input'.told × (input'.faults ≡ input.faults)
    × (IsNotBegun before after
    ⊎ ((options : LiveOptions) × (setup : LiveSetup) × IsSetUp words seed input input' options setup
    × HasEndedRun setup options.«record» before after end.Memory WritesSome))
EndsLive words seed input input' before after other = Runs words seed input input' before after other

-- what holds where no run was begun, whatever the memory
abbrev pub IfNotBegun : Status → Type 0 → Type 0
IfNotBegun status.Words P = P
IfNotBegun status.Input P = P
IfNotBegun (status.Script g line reason) P = P
IfNotBegun (status.TooLong limit) P = P
IfNotBegun (status.TooMany limit) P = P
IfNotBegun other P = Unit {0}
