-- How a call of the program may end: each status with its cause, and what was read and written then. The statuses are tried in this order:
-- the words, a failure of the source, a text over the limit, a text outside the command's grammar, a failure of the sink.
use Rattle.std.specs.Prelude.{◌≡◌, ◌≤◌, ◌+◌, ◌⊎◌, ℕ, ℤ, List, length}
use Rattle.std.specs.declared.alloc.Global.{Global}
use Rattle.std.specs.declared.string.String.{String}
use Rattle.lk_outside.specs.Faults.{Rose}
use Rattle.lk_outside.specs.Sink.{Appends}
use Rattle.lk_outside.specs.Stream.{Stream}
use Rattle.lk_outside.specs.Transfer.{ReadsWhole, TakesOver, TakesWithin, AppendsPrefix}
use Rattle.link_node.specs.Config.{ConfigValue}
use Rattle.link_node.specs.Event.{EventValue}
use Rattle.link_text.specs.Load.{IsLoadText}
use Rattle.link_script.specs.ReplayScript.{IsScriptOf, IsNoScript, IsFirstFault}
use Rattle.link_text.specs.ReplayText.{replay_text_of}
use Rattle.link_commands.specs.HexLines.{IsFirstBadLine}
use Rattle.link_commands.specs.DecodeText.{IsDecodeText}
use Rattle.link_commands.specs.FilterText.{IsFilterText}
use Rattle.link_commands.specs.MidiText.{midi_text_of}
use Rattle.link_commands.specs.PairLines.{IsFirstNoPair}
use Rattle.link_words.specs.CommandNames.{Names}
use Rattle.link_words.specs.LoadWords.{BeginsLoad, IsLoad, NamesLoad}
use Rattle.link_words.specs.MidiWords.{BeginsMidi, IsMidi, NamesMidi}
use Rattle.link_words.specs.declared.command_name.CommandName.{CommandName}
use Rattle.link_words.specs.declared.command_name.CommandName.TheVariants as name
use Rattle.link_commands.specs.declared.status.Grammar.{Grammar}
use Rattle.link_commands.specs.declared.status.Grammar.TheVariants as grammar
use Rattle.link_commands.specs.declared.status.Status.{Status}
use Rattle.link_commands.specs.declared.status.Status.TheVariants as status

-- Rule: The exit status is 0 where all is done, 2 for wrong words, 3 for a failed port, 4 for a failed audio device, and 5 for a failed
-- input.
-- Rule: Status 6 means a full journal: an event of the run found no room in it.
-- Rule: Status 7 means a failed output, 8 a text at fault, 9 want of memory, and 10 too long an input or too many commands.
-- Rule: Of `control` alone, status 11 means a failed talk, and 12 a line more than the 4,096 that are answered.
abbrev pub status_number_of : Status → ℕ
status_number_of status.Done = 0
status_number_of status.Words = 2
status_number_of status.Port = 3
status_number_of status.Audio = 4
status_number_of status.Input = 5
status_number_of status.Events = 6
status_number_of status.Sink = 7
status_number_of (status.Script g line reason) = 8
status_number_of status.Memory = 9
status_number_of (status.TooLong limit) = 10
status_number_of (status.TooMany limit) = 10
status_number_of status.Talk = 11
status_number_of status.Lines = 12

-- Rule: With the statuses 2, 5, 8, 9 and 10 a command other than `live` and `control` has written nothing.
abbrev pub IfNothingWritten : Status → Type 0 → Type 0
IfNothingWritten status.Done P = Unit {0}
IfNothingWritten status.Sink P = Unit {0}
IfNothingWritten status.Port P = Unit {0}
IfNothingWritten status.Audio P = Unit {0}
IfNothingWritten status.Events P = Unit {0}
IfNothingWritten status.Talk P = Unit {0}
IfNothingWritten status.Lines P = Unit {0}
IfNothingWritten other P = P

-- What a command does that reads a text and writes another: how many bytes it reads at most, the grammar of its texts, what it writes for
-- a text in the grammar, and which line of a text outside it is the first at fault.
pub record Command : Type 1 where
  pub limit : ℕ
  pub grammar : Grammar
  pub Gives : List ℕ → List ℕ → Type 0
  pub FaultsAt : List ℕ → ℕ → Type 0

-- the text is a script, and the output is the text of its replay
abbrev pub GivesReplay : List ℕ → List ℕ → Type 0
GivesReplay text output =
    (version : ℕ) × (config : ConfigValue) × (now : ℤ) × (es : List EventValue)
    × IsScriptOf text version config now es × (output ≡ replay_text_of version config now es)

-- Rule: `replay` takes at most 1,073,741,824 bytes of input, and so does `midi`.
abbrev pub replay_command : Command
replay_command = record {
  limit = 1_073_741_824;
  grammar = grammar.ReplayScript;
  Gives = GivesReplay;
  FaultsAt = λ text line. IsFirstFault text line × IsNoScript text;
}

-- Rule: `decode` takes at most 16,777,216 bytes of input, and so does `filter`.
abbrev pub decode_command : Command
decode_command = record {
  limit = 16_777_216;
  grammar = grammar.HexLines;
  Gives = IsDecodeText;
  FaultsAt = IsFirstBadLine;
}

abbrev pub filter_command : Command
filter_command = record {
  limit = 16_777_216;
  grammar = grammar.Pairs;
  Gives = IsFilterText;
  FaultsAt = IsFirstNoPair;
}

-- the text is a script, and the output is what `midi` writes of so many blocks of this length
abbrev pub GivesMidi : ℕ → ℕ → List ℕ → List ℕ → Type 0
GivesMidi length blocks text output =
    (version : ℕ) × (config : ConfigValue) × (now : ℤ) × (es : List EventValue)
    × IsScriptOf text version config now es
    × (output ≡ midi_text_of (record { config = config; now = now; events = es; length = length }) blocks)

abbrev pub midi_command : ℕ → ℕ → Command
midi_command length blocks = record {
  limit = 1_073_741_824;
  grammar = grammar.ReplayScript;
  Gives = GivesMidi length blocks;
  FaultsAt = replay_command.FaultsAt;
}

-- these bytes were read, to the end of the input and within the limit, and no read failed
pub record WasRead (limit : ℕ) (before after : Stream) (bytes : List ℕ) : Type 0 where
  pub whole : ReadsWhole before.told bytes after.told
  pub within : length bytes ≤ limit
  pub quiet : after.faults ≡ before.faults

-- a text for which the command gives this output was read to its end
pub record ReadsText (command : Command) (before after : Stream) (output : List ℕ) : Type 0 where
  pub bytes : List ℕ
  pub read : WasRead command.limit before after bytes
  pub gives : command.Gives bytes output

-- Rule: With status 8 the whole input was read, and the first line at fault is told.
pub record ReadsFault (command : Command) (before after : Stream) (line : ℕ) : Type 0 where
  pub bytes : List ℕ
  pub read : WasRead command.limit before after bytes
  pub fault : command.FaultsAt bytes line

-- the output was written whole, and no write failed
pub record WritesWhole (before after : Stream) (output : List ℕ) : Type 0 where
  pub whole : Appends before.told output after.told
  pub quiet : after.faults ≡ before.faults

-- Rule: With status 7, a failed sink, a front of the output was written.
pub record WritesPart (before after : Stream) (output : List ℕ) : Type 0 where
  pub part : AppendsPrefix before.told output after.told
  pub rose : Rose before.faults after.faults

-- the output was written whole, or the sink failed and its front was
abbrev pub WritesSome : Stream → Stream → List ℕ → Type 0
WritesSome before after output = WritesWhole before after output ⊎ WritesPart before after output

-- what was written of the output for a text that was read
abbrev pub EndsText : Command → List ℕ → Stream → Stream → Status → Type 0
EndsText command bytes out out' status.Done = (output : List ℕ) × command.Gives bytes output × WritesWhole out out' output
EndsText command bytes out out' status.Sink = (output : List ℕ) × command.Gives bytes output × WritesPart out out' output
EndsText command bytes out out' (status.Script g line reason) = (g ≡ command.grammar) × command.FaultsAt bytes line × (out' ≡ out)
EndsText command bytes out out' status.Memory = out' ≡ out
EndsText command bytes out out' other = ⊥

-- What a command did between `input`, `out` and `input'`, `out'`, whose words were taken. Nothing was written where `out'` is `out`.
abbrev pub EndsInput : Command → Stream → Stream → Stream → Stream → Status → Type 0
EndsInput command input input' out out' status.Done =
    (output : List ℕ) × ReadsText command input input' output × WritesWhole out out' output
EndsInput command input input' out out' status.Input =
    Rose input.faults input'.faults × TakesWithin command.limit input.told input'.told × (out' ≡ out)
EndsInput command input input' out out' (status.TooLong limit) =
    (limit ≡ command.limit) × TakesOver command.limit input.told input'.told × (input'.faults ≡ input.faults) × (out' ≡ out)
EndsInput command input input' out out' (status.Script g line reason) =
    (g ≡ command.grammar) × ReadsFault command input input' line × (out' ≡ out)
EndsInput command input input' out out' status.Sink =
    (output : List ℕ) × ReadsText command input input' output × WritesPart out out' output
-- want of memory may come of any run, before anything is written
EndsInput command input input' out out' status.Memory =
    TakesWithin (command.limit + 65_536) input.told input'.told × (input'.faults ≡ input.faults) × (out' ≡ out)
EndsInput command input input' out out' other = ⊥

-- the words aren't those that the command takes, and no object was called
pub record EndsUntaken (Taken : Type 0) (input input' out out' : Stream) (end : Status) : Type 0 where
  pub other_words : Taken → ⊥
  pub words_at_fault : end ≡ status.Words
  pub unread : input' ≡ input
  pub unwritten : out' ≡ out

-- what a command that takes no word but its name did with these words
abbrev pub EndsBy : CommandName → Command → List (String Global) → Stream → Stream → Stream → Stream → Status → Type 0
EndsBy named command words input input' out out' end =
    (Names named words × EndsInput command input input' out out' end) ⊎ EndsUntaken (Names named words) input input' out out' end

abbrev pub EndsReplay : List (String Global) → Stream → Stream → Stream → Stream → Status → Type 0
EndsReplay = EndsBy name.Replay replay_command

abbrev pub EndsDecode : List (String Global) → Stream → Stream → Stream → Stream → Status → Type 0
EndsDecode = EndsBy name.Decode decode_command

abbrev pub EndsFilter : List (String Global) → Stream → Stream → Stream → Stream → Status → Type 0
EndsFilter = EndsBy name.Filter filter_command

-- ---- a command over a text that takes words besides

-- the words begin with the command's, there was no memory to read the others, and no object was called
pub record EndsUnread (Begun : Type 0) (input input' out out' : Stream) (end : Status) : Type 0 where
  pub begun : Begun
  pub no_memory : end ≡ status.Memory
  pub unread : input' ≡ input
  pub unwritten : out' ≡ out

-- what `midi` did with the blocks that the words ask for
abbrev pub EndsBlocks : List (String Global) → Stream → Stream → Stream → Stream → Status → Type 0
EndsBlocks words input input' out out' end =
    (length : ℕ) × (blocks : ℕ) × NamesMidi words length blocks × EndsInput (midi_command length blocks) input input' out out' end

abbrev pub EndsMidi : List (String Global) → Stream → Stream → Stream → Stream → Status → Type 0
EndsMidi words input input' out out' end =
    EndsBlocks words input input' out out' end
    ⊎ (EndsUntaken (IsMidi words) input input' out out' end ⊎ EndsUnread (BeginsMidi words) input input' out out' end)

-- ---- a command without input

-- What `load` did with these words between `out` and `out'`: it wrote the text of the events that the words ask for.
abbrev pub EndsLoad : List (String Global) → Stream → Stream → Status → Type 0
EndsLoad words out out' status.Done =
    (seed : ℕ) × (count : ℕ) × NamesLoad words seed count × ((output : List ℕ) × IsLoadText seed count output × WritesWhole out out' output)
EndsLoad words out out' status.Sink =
    (seed : ℕ) × (count : ℕ) × NamesLoad words seed count × ((output : List ℕ) × IsLoadText seed count output × WritesPart out out' output)
EndsLoad words out out' status.Words = (IsLoad words → ⊥) × (out' ≡ out)
-- want of memory may come of any run that begins with `load`, while its words are read too, and before anything is written
EndsLoad words out out' status.Memory = BeginsLoad words × (out' ≡ out)
EndsLoad words out out' other = ⊥
