-- Live scripts: a head that says how a link is set up, and then a line for each command of the application and of the audio thread.
use Rattle.std.specs.Prelude.{◌≡◌, ◌≤◌, ◌||◌, ℕ, ℤ, pos, ◌≤ℤ◌, Bool, nat_eq, List, [], ◌∷◌, ◌++◌, length, map, filter, codes, All}
use Rattle.std.specs.List.{flat_map, starts_with}
use Rattle.std.specs.Fmt.{decimal, signed_decimal}
use Rattle.lk_base.specs.Ranges.{IsMoment, IsQuantum, IsWithinLimit}
use Rattle.link_node.specs.Config.{GateValue}
use Rattle.link_lines.specs.Lines.{lines_of, counting_in}
use Rattle.link_script.specs.FirstFault as faults
use Rattle.link_script.specs.ReplayScript.{IsGate, gate_lines}
use Rattle.link_lines.specs.Words.{joined, truth_text_of}
use Rattle.link_script.specs.declared.live_script.Act.{Act}
use Rattle.link_script.specs.declared.live_script.Act.TheVariants.{Tempo, Force, Request, Quantum, Play, Stop, Look}
use Rattle.link_script.specs.declared.live_script.AppCommand.{AppCommand}
use Rattle.link_script.specs.declared.live_script.BlockCommand.{BlockCommand}

-- ---- the head

pub record IsTempo (mpb : ℤ) : Type 0 where
  pub fastest : pos 60_060 ≤ℤ mpb
  pub slowest : mpb ≤ℤ pos 3_000_000

-- what a head can say
pub record IsLiveHead (mpb : ℤ) (gates : List GateValue) : Type 0 where
  pub tempo : IsTempo mpb
  pub some_gate : 1 ≤ length gates
  pub few_gates : length gates ≤ 4
  pub each : All IsGate gates

abbrev pub live_version_line : List ℕ
live_version_line = joined (codes "link" ∷ codes "1" ∷ [])

abbrev pub setup_line : ℤ → Bool → List ℕ
setup_line mpb sync = joined (codes "setup" ∷ signed_decimal mpb ∷ truth_text_of sync ∷ [])

unfoldable pub live_head_lines : ℤ → Bool → List GateValue → List (List ℕ)
live_head_lines mpb sync gates = live_version_line ∷ setup_line mpb sync ∷ flat_map gate_lines gates

-- ---- a command

-- of the application at a moment, or of the audio thread in a block
pub data Command : Type 0 where
  app : (command : AppCommand) → Command
  block : (command : BlockCommand) → Command

abbrev pub apps_in : List Command → List AppCommand
apps_in [] = []
apps_in (app command ∷ commands) = command ∷ apps_in commands
apps_in (block command ∷ commands) = apps_in commands

abbrev pub blocks_in : List Command → List BlockCommand
blocks_in [] = []
blocks_in (app command ∷ commands) = blocks_in commands
blocks_in (block command ∷ commands) = command ∷ blocks_in commands

-- Rule: The acts of a command are `tempo`, `force`, `request`, `quantum`, `play`, `stop` and `look`.
abbrev pub act_words : Act → List (List ℕ)
act_words (Tempo mpb) = codes "tempo" ∷ signed_decimal mpb ∷ []
act_words (Force beat) = codes "force" ∷ signed_decimal beat ∷ []
act_words (Request beat) = codes "request" ∷ signed_decimal beat ∷ []
act_words (Quantum quantum) = codes "quantum" ∷ signed_decimal quantum ∷ []
act_words Play = codes "play" ∷ []
act_words Stop = codes "stop" ∷ []
act_words Look = codes "look" ∷ []

abbrev pub IsAct : Act → Type 0
IsAct (Tempo mpb) = IsTempo mpb
IsAct (Force beat) = IsWithinLimit beat
IsAct (Request beat) = IsWithinLimit beat
IsAct (Quantum quantum) = IsQuantum quantum
IsAct Play = Unit {0}
IsAct Stop = Unit {0}
IsAct Look = Unit {0}

-- Rule: The audio thread's command `block` takes `tempo`, `quantum`, `play` and `stop`, but not `force`, `request` and `look`.
abbrev pub IsBlockAct : Act → Type 0
IsBlockAct (Tempo mpb) = Unit {0}
IsBlockAct (Force beat) = ⊥
IsBlockAct (Request beat) = ⊥
IsBlockAct (Quantum quantum) = Unit {0}
IsBlockAct Play = Unit {0}
IsBlockAct Stop = Unit {0}
IsBlockAct Look = ⊥

abbrev pub command_words : Command → List (List ℕ)
command_words (app command) = codes "at" ∷ signed_decimal command.at ∷ act_words command.act
command_words (block command) = codes "block" ∷ decimal command.block ∷ act_words command.act

abbrev pub command_line : Command → List ℕ
command_line command = joined (command_words command)

abbrev pub IsCommand : Command → Type 0
IsCommand (app command) = IsMoment command.at × IsAct command.act
IsCommand (block command) = (1 ≤ command.block) × (command.block ≤ 524_288) × IsAct command.act × IsBlockAct command.act

-- ---- a script

-- Rule: A live script is `link 1`, `setup` with tempo and sync, the lines of one to four gates, and the commands `at` and `block`.
-- the lines that count are those of the head and then those of the commands
pub record IsLiveScript (lines : List (List ℕ)) (mpb : ℤ) (sync : Bool) (gates : List GateValue) (commands : List Command) : Type 0 where
  pub head : IsLiveHead mpb gates
  pub each : All IsCommand commands
  pub said : counting_in lines ≡ live_head_lines mpb sync gates ++ map command_line commands

-- the commands of the application and those of the audio thread, each in the order of their lines
pub record IsLiveText (text : List ℕ) (mpb : ℤ) (sync : Bool) (gates : List GateValue) (apps : List AppCommand) (blocks : List BlockCommand) : Type 0 where
  pub commands : List Command
  pub apps_are : apps_in commands ≡ apps
  pub blocks_are : blocks_in commands ≡ blocks
  pub script : IsLiveScript (lines_of text) mpb sync gates commands

-- some setup and commands are said by these lines
abbrev pub IsSomeLiveScript : List (List ℕ) → Type 0
IsSomeLiveScript lines =
    (mpb : ℤ) × (sync : Bool) × (gates : List GateValue) × (commands : List Command) × IsLiveScript lines mpb sync gates commands

-- a text says one setup at most, and one list of commands of each kind
abbrev pub SaysOneSetup : List ℕ → Type 0
SaysOneSetup text =
    (m n : ℤ) (s t : Bool) (gs hs : List GateValue) (apps others : List AppCommand) (blocks further : List BlockCommand)
    → IsLiveText text m s gs apps blocks → IsLiveText text n t hs others further
    → (m ≡ n) × (s ≡ t) × (gs ≡ hs) × (apps ≡ others) × (blocks ≡ further)

-- the first line at fault, counted from 1, those passed over among them
abbrev pub IsFirstLiveFault : List ℕ → ℕ → Type 0
IsFirstLiveFault text k = faults.IsFirstFault IsSomeLiveScript text k

abbrev pub IsLiveLineFault : List ℕ → ℕ → Type 0
IsLiveLineFault text k = faults.IsLineFault IsSomeLiveScript text k

-- ---- how many commands are told

-- whether a line begins as that of a command
abbrev pub begins_command : List ℕ → Bool
begins_command line = starts_with nat_eq line (codes "at ") || starts_with nat_eq line (codes "block ")

-- Rule: A live script has at most 4,096 lines that begin with `at` or `block`.
-- lines at fault are counted too
abbrev pub commands_told : List ℕ → ℕ
commands_told text = length (filter begins_command (lines_of text))
