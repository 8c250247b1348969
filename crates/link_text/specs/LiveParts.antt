-- Only for proofs: how far a live script is read.
use Rattle.std.specs.Prelude.{◌≡◌, ℕ, ℤ, Bool, List, [], ◌∷◌, ◌++◌, length, map, filter, All}
use Rattle.link_node.specs.Config.{GateValue}
use Rattle.link_lines.specs.Lines.{lines_of, counting_in}
use Rattle.link_text.specs.HeadParts.{AreFull, LacksGate}
use Rattle.link_text.specs.Places.{IsAhead, HasLine, counting_from}
use Rattle.link_text.specs.LiveHead.{IsHeadLineFault}
use Rattle.link_script.specs.LiveScript.{Command, IsCommand, IsLiveHead, IsLiveLineFault, apps_in, blocks_in, begins_command, command_line, live_head_lines}
use Rattle.link_script.specs.declared.live_script.AppCommand.{AppCommand}
use Rattle.link_script.specs.declared.live_script.BlockCommand.{BlockCommand}
use Rattle.link_text.specs.declared.place.Place.{Place}

-- the lines that count are those of a head with all its gates and destinations, and then those from a place on
pub record IsLiveStart (text : List ℕ) (mpb : ℤ) (sync : Bool) (gates : List GateValue) (place : Place) : Type 0 where
  pub head : IsLiveHead mpb gates
  pub ahead : IsAhead text place
  pub said : counting_in (lines_of text) ≡ live_head_lines mpb sync gates ++ counting_from text place.at
  pub full : AreFull gates (counting_from text place.at)
  pub lacks : LacksGate (length gates) (counting_from text place.at)

-- the first line at fault stands before the commands, so that it is at fault whether commands may follow or not
pub record IsStartFault (text : List ℕ) (k : ℕ) : Type 0 where
  pub live : IsLiveLineFault text k
  pub head : IsHeadLineFault text k

-- how many of some lines begin as those of commands
abbrev pub lines_told : List (List ℕ) → ℕ
lines_told lines = length (filter begins_command lines)

-- a line says a command, which is put behind those of its kind
pub record TakesCommand (line : List ℕ) (apps new_apps : List AppCommand) (blocks new_blocks : List BlockCommand) : Type 0 where
  pub command : Command
  pub range : IsCommand command
  pub said : line ≡ command_line command
  pub apps_are : new_apps ≡ apps ++ apps_in (command ∷ [])
  pub blocks_are : new_blocks ≡ blocks ++ blocks_in (command ∷ [])

-- the lines are those of commands, and then others
pub record HasCommands (lines : List (List ℕ)) (apps : List AppCommand) (blocks : List BlockCommand) (rest : List (List ℕ)) : Type 0 where
  pub commands : List Command
  pub each : All IsCommand commands
  pub said : lines ≡ map command_line commands ++ rest
  pub apps_are : apps ≡ apps_in commands
  pub blocks_are : blocks ≡ blocks_in commands

-- behind commands there is a line that says none
pub record HasBadCommand (text : List ℕ) (lines : List (List ℕ)) (place : Place) : Type 0 where
  pub ahead : IsAhead text place
  pub apps : List AppCommand
  pub blocks : List BlockCommand
  pub has : HasCommands lines apps blocks (counting_from text place.at)
  pub line : List ℕ
  pub next : Place
  pub there : HasLine text place line next
  pub fault : (command : Command) → IsCommand command → line ≡ command_line command → ⊥
