-- How a live script, or the head of one, is read to its end, or why it isn't. These are tried in this order: a failure of the source, a
-- text over the limit, too many commands, a text outside the grammar.
use Rattle.std.specs.Prelude.{◌≡◌, ◌≤◌, ◌<◌, ◌+◌, ℕ, List}
use Rattle.lk_outside.specs.Faults.{Rose}
use Rattle.lk_outside.specs.Stream.{Stream}
use Rattle.lk_outside.specs.Transfer.{TakesOver, TakesWithin}
use Rattle.link_text.specs.LiveHead.{IsHeadLineFault}
use Rattle.link_script.specs.LiveScript.{IsLiveLineFault, commands_told}
use Rattle.link_commands.specs.Statuses.{WasRead}
use Rattle.link_commands.specs.declared.status.Grammar.{Grammar}
use Rattle.link_commands.specs.declared.status.Grammar.TheVariants as grammar
use Rattle.link_commands.specs.declared.status.Status.{Status}
use Rattle.link_commands.specs.declared.status.Status.TheVariants as status

-- the first line at fault of a text whose commands are not too many
pub record ReadsScriptFault (FaultsAt : List ℕ → ℕ → Type 0) (input input' : Stream) (line : ℕ) : Type 0 where
  pub bytes : List ℕ
  pub read : WasRead 16_777_216 input input' bytes
  pub few : commands_told bytes ≤ 4_096
  pub fault : FaultsAt bytes line

-- Rule: With status 10 `live` or `control` read more bytes than its limit, or more than 4,096 lines that begin as commands.
-- a text with too many commands
pub record ReadsTooMany (input input' : Stream) : Type 0 where
  pub bytes : List ℕ
  pub read : WasRead 16_777_216 input input' bytes
  pub many : 4_096 < commands_told bytes

-- why no text of this grammar was read, whose lines at fault are these
abbrev pub EndsReadOf : Grammar → (List ℕ → ℕ → Type 0) → Stream → Stream → Status → Type 0
EndsReadOf wanted FaultsAt input input' status.Input = Rose input.faults input'.faults × TakesWithin 16_777_216 input.told input'.told
EndsReadOf wanted FaultsAt input input' (status.TooLong limit) =
    (limit ≡ 16_777_216) × TakesOver 16_777_216 input.told input'.told × (input'.faults ≡ input.faults)
EndsReadOf wanted FaultsAt input input' (status.TooMany limit) = (limit ≡ 4_096) × ReadsTooMany input input'
EndsReadOf wanted FaultsAt input input' (status.Script g line reason) = (g ≡ wanted) × ReadsScriptFault FaultsAt input input' line
-- want of memory may come of any text
EndsReadOf wanted FaultsAt input input' status.Memory =
    TakesWithin (16_777_216 + 65_536) input.told input'.told × (input'.faults ≡ input.faults)
EndsReadOf wanted FaultsAt input input' other = ⊥

-- why no live script was read
abbrev pub EndsRead : Stream → Stream → Status → Type 0
EndsRead = EndsReadOf grammar.LiveScript IsLiveLineFault

-- why no head of one was
abbrev pub EndsHeadRead : Stream → Stream → Status → Type 0
EndsHeadRead = EndsReadOf grammar.LiveHead IsHeadLineFault
