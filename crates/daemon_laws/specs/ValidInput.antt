-- A valid input is answered by its output, unless there is no memory.
use Rattle.std.specs.Prelude.{◌≡◌, ◌≤◌, ◌⊎◌, ℕ, true, List, length, Some}
use Rattle.std.specs.declared.alloc.Global.{Global}
use Rattle.std.specs.declared.string.String.{String}
use Rattle.lk_outside.specs.Faults.{Rose}
use Rattle.lk_outside.specs.Stream.{Stream}
use Rattle.lk_outside.specs.Talk.{TalkSeen}
use Rattle.link_live.specs.Journal.{has_ended}
use Rattle.link_lines.specs.Lines.{lines_of}
use Rattle.link_text.specs.LiveHead.{IsSomeHead}
use Rattle.link_script.specs.LiveScript.{IsSomeLiveScript, commands_told}
use Rattle.link_script.specs.ReplayScript.{IsSomeScript}
use Rattle.link_control.specs.Lines.{whole_lines_of}
use Rattle.link_words.specs.ControlWords.{IsControl}
use Rattle.link_words.specs.LoadWords.{IsLoad}
use Rattle.link_words.specs.MidiWords.{IsMidi}
use Rattle.link_commands.specs.HexLines.{IsDecodable}
use Rattle.link_commands.specs.PairLines.{IsPairText}
use Rattle.link_commands.specs.declared.status.Status.{Status}
use Rattle.link_commands.specs.declared.status.Status.TheVariants as status
use Rattle.link_daemon.specs.Ends.{Ends}
use Rattle.link_words.specs.LiveWords.{IsLive}
use Rattle.link_daemon.specs.AllSeen.{AllSeen}
use Rattle.link_commands.specs.Statuses.{Command, replay_command, decode_command, filter_command}
use Rattle.link_words.specs.CommandNames.{Names}
use Rattle.link_words.specs.declared.command_name.CommandName.{CommandName}
use Rattle.link_words.specs.declared.command_name.CommandName.TheVariants as name

-- the input tells a text within the limit, and it is one of the grammar
pub record IsValidFor (limit : ℕ) (IsText : List ℕ → Type 0) (input : Stream) : Type 0 where
  pub bytes : List ℕ
  pub told : input.told ≡ Some bytes
  pub within : length bytes ≤ limit
  pub text : IsText bytes

-- the grammar of replay scripts; that of `decode` is `IsDecodable`, and that of `filter` is `IsPairText`
abbrev pub IsScriptText : List ℕ → Type 0
IsScriptText text = IsSomeScript (lines_of text)

-- Where the words name the command, the input is valid and no count rose, all is done, or there was no memory.
abbrev pub CompletesValid : CommandName → Command → (List ℕ → Type 0) → Type 0
CompletesValid named command IsText =
    (words : List (String Global)) (seed : ℕ) (before after : AllSeen) (end : Status)
    → Names named words → IsValidFor command.limit IsText before.input
    → (Rose before.input.faults after.input.faults → ⊥) → (Rose before.out.faults after.out.faults → ⊥)
    → Ends words seed before after end
    → (end ≡ status.Done) ⊎ (end ≡ status.Memory)

-- Where the words are those of `midi`, the input is a replay script, and no count rose, all is done, or there was no memory.
abbrev pub CompletesMidi : Type 0
CompletesMidi =
    (words : List (String Global)) (seed : ℕ) (before after : AllSeen) (end : Status)
    → IsMidi words → IsValidFor replay_command.limit IsScriptText before.input
    → (Rose before.input.faults after.input.faults → ⊥) → (Rose before.out.faults after.out.faults → ⊥)
    → Ends words seed before after end
    → (end ≡ status.Done) ⊎ (end ≡ status.Memory)

-- Where the words are those of a load and no write failed, all is done, or there was no memory.
abbrev pub CompletesLoad : Type 0
CompletesLoad =
    (words : List (String Global)) (seed : ℕ) (before after : AllSeen) (end : Status)
    → IsLoad words → (Rose before.out.faults after.out.faults → ⊥)
    → Ends words seed before after end
    → (end ≡ status.Done) ⊎ (end ≡ status.Memory)

-- the input tells a live script within the limits
pub record IsValidLive (input : Stream) : Type 0 where
  pub bytes : List ℕ
  pub told : input.told ≡ Some bytes
  pub within : length bytes ≤ 16_777_216
  pub few : commands_told bytes ≤ 4_096
  pub script : IsSomeLiveScript (lines_of bytes)

-- Where the words are those of a live run, the input is valid, no count rose, and all events that were offered found room in the journal,
-- the end last (where one finds none the journal has no end), all is done, or there was no memory.
abbrev pub CompletesLive : Type 0
CompletesLive =
    (words : List (String Global)) (seed : ℕ) (before after : AllSeen) (end : Status)
    → IsLive words → IsValidLive before.input → has_ended after.report.events ≡ true
    → (Rose before.input.faults after.input.faults → ⊥) → (Rose before.port.faults after.port.faults → ⊥)
    → (Rose before.audio.faults after.audio.faults → ⊥) → (Rose before.out.faults after.out.faults → ⊥)
    → Ends words seed before after end
    → (end ≡ status.Done) ⊎ (end ≡ status.Memory)

-- the input tells the head of a live script within the limits
pub record IsValidHead (input : Stream) : Type 0 where
  pub bytes : List ℕ
  pub told : input.told ≡ Some bytes
  pub within : length bytes ≤ 16_777_216
  pub few : commands_told bytes ≤ 4_096
  pub head : IsSomeHead (lines_of bytes)

-- the talk tells no more lines than are answered
pub record IsValidTalk (talk : TalkSeen) : Type 0 where
  pub bytes : List ℕ
  pub told : talk.left ≡ Some bytes
  pub few : length (whole_lines_of bytes) ≤ 4_096

-- Where the words are those of `control`, the input and the talk are valid, no count rose, and all events that were offered found room in
-- the journal, the end last, all is done, or there was no memory.
abbrev pub CompletesControl : Type 0
CompletesControl =
    (words : List (String Global)) (seed : ℕ) (before after : AllSeen) (end : Status)
    → IsControl words → IsValidHead before.input → IsValidTalk before.talk → has_ended after.report.events ≡ true
    → (Rose before.input.faults after.input.faults → ⊥) → (Rose before.port.faults after.port.faults → ⊥)
    → (Rose before.talk.faults after.talk.faults → ⊥) → (Rose before.out.faults after.out.faults → ⊥)
    → Ends words seed before after end
    → (end ≡ status.Done) ⊎ (end ≡ status.Memory)

-- Rule: A run of valid words, input and talk within their limits ends with status 0, or 9 for want of memory, where no count of failures
-- rose and, of `live` and `control`, no event found the journal full (status 6).
abbrev pub CompleteValid : Type 0
CompleteValid =
    CompletesValid name.Replay replay_command IsScriptText
    × (CompletesValid name.Decode decode_command IsDecodable
    × (CompletesValid name.Filter filter_command IsPairText × (CompletesMidi × (CompletesLoad × (CompletesLive × CompletesControl)))))
