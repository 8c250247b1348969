-- The causes of the statuses exclude each other, and a text outside a grammar has one first line at fault.
use Rattle.std.specs.Prelude.{◌≡◌, ◌≢◌, ◌<◌, ◌^◌, ◌-◌, ℕ, IsSome, List, Option, Some, None}
use Rattle.std.specs.declared.alloc.Global.{Global}
use Rattle.std.specs.declared.string.String.{String}
use Rattle.lk_outside.specs.Stream.{Stream}
use Rattle.link_text.specs.LiveHead.{IsHeadLineFault}
use Rattle.link_script.specs.LiveScript.{IsLiveLineFault}
use Rattle.link_words.specs.ControlWords.{BeginsControl}
use Rattle.link_commands.specs.declared.status.Grammar.{Grammar}
use Rattle.link_commands.specs.declared.status.Status.{Status}
use Rattle.link_commands.specs.declared.status.Status.TheVariants as status
use Rattle.link_daemon.specs.Ends.{Ends}
use Rattle.link_daemon.specs.AllSeen.{AllSeen}
use Rattle.link_commands.specs.Statuses.{Command, status_number_of, replay_command, decode_command, filter_command}

-- a stream that tells what it holds, and whose count of failures can still rise
pub record IsTold (s : Stream) : Type 0 where
  pub told : IsSome s.told
  pub counts : s.faults < 2 ^ 64 - 1

-- what a status says of the run: its number, the grammar and the line at fault, the limit; all but the words for people
pub record End : Type 0 where
  pub number : ℕ
  pub fault : Option (Grammar × ℕ)
  pub limit : Option ℕ

abbrev pub end_of : Status → End
end_of (status.Script g line reason) = record { number = 8; fault = Some (g, line); limit = None }
end_of (status.TooLong limit) = record { number = 10; fault = None; limit = Some limit }
end_of (status.TooMany limit) = record { number = 10; fault = None; limit = Some limit }
end_of other = record { number = status_number_of other; fault = None; limit = None }

-- the counts of failures can still rise
pub record CanFail (all : AllSeen) : Type 0 where
  pub out_counts : all.out.faults < 2 ^ 64 - 1
  pub port_counts : all.port.faults < 2 ^ 64 - 1
  pub audio_counts : all.audio.faults < 2 ^ 64 - 1
  pub talk_counts : all.talk.faults < 2 ^ 64 - 1

-- where the words are of `control`, the talk tells what its client sends
abbrev pub TellsTalk : List (String Global) → AllSeen → Type 0
TellsTalk words all = BeginsControl words → IsSome all.talk.left

-- Rule: Over an input, and of `control` a talk, that tell what they hold, a run has one status: two that fit it have the same number, line
-- at fault and limit, want of memory apart.
-- The counts of failures can still rise, and the words that say to people why a line is at fault are left out.
abbrev pub HasOneStatus : Type 0
HasOneStatus =
    (words : List (String Global)) (seed : ℕ) (before after : AllSeen) (one other : Status)
    → IsTold before.input → CanFail before → TellsTalk words before
    → one ≢ status.Memory → other ≢ status.Memory
    → Ends words seed before after one
    → Ends words seed before after other
    → end_of one ≡ end_of other

-- the first line at fault of a text is one line
abbrev pub HasOneFaultLine : Command → Type 0
HasOneFaultLine command = (text : List ℕ) (line other : ℕ) → command.FaultsAt text line → command.FaultsAt text other → line ≡ other

abbrev pub HasOneLiveFaultLine : Type 0
HasOneLiveFaultLine = (text : List ℕ) (line other : ℕ) → IsLiveLineFault text line → IsLiveLineFault text other → line ≡ other

abbrev pub HasOneHeadFaultLine : Type 0
HasOneHeadFaultLine = (text : List ℕ) (line other : ℕ) → IsHeadLineFault text line → IsHeadLineFault text other → line ≡ other

abbrev pub HaveOneFaultLine : Type 0
HaveOneFaultLine =
    HasOneFaultLine replay_command
    × (HasOneFaultLine decode_command × (HasOneFaultLine filter_command × (HasOneLiveFaultLine × HasOneHeadFaultLine)))
