-- How a live script, or the head of one, is read, from how its text is.
use Rattle.std.proofs.Common.{◌≡◌, ◌≤◌, List, ℕ, subst}
use Rattle.lk_outside.specs.Stream.{Stream}
use Rattle.link_script.specs.LiveScript.{commands_told}
use Rattle.link_commands.specs.Statuses.{WasRead}
use Rattle.link_commands.specs.declared.status.Grammar.{Grammar}
use Rattle.link_commands.specs.declared.status.Grammar.TheVariants as grammar
use Rattle.link_commands.specs.declared.status.Status.{Status}
use Rattle.link_commands.specs.declared.status.Status.TheVariants as status
use Rattle.link_live_command.specs.ScriptRead.{EndsReadOf, ReadsScriptFault}

-- where no line is at fault, why no text was read can be said of a text of any grammar
pub unread_of_any : (wanted : Grammar) (FaultsAt : List ℕ → ℕ → Type 0) (input input' : Stream) (how : Status)
    → EndsReadOf grammar.LiveScript (λ text line. ⊥) input input' how → EndsReadOf wanted FaultsAt input input' how
unread_of_any wanted FaultsAt input input' status.Input unread = unread
unread_of_any wanted FaultsAt input input' (status.TooLong limit) unread = unread
unread_of_any wanted FaultsAt input input' (status.TooMany limit) unread = unread
unread_of_any wanted FaultsAt input input' (status.Script g line reason) unread = absurd unread.1.fault
unread_of_any wanted FaultsAt input input' status.Memory unread = unread
unread_of_any wanted FaultsAt input input' other never = absurd never

-- the first line at fault of the text that was read
pub fault_read : (FaultsAt : List ℕ → ℕ → Type 0) (input input' : Stream) (text looked : List ℕ) (line : ℕ) → looked ≡ text
    → WasRead 16_777_216 input input' text → (commands_told looked ≤ 4_096) × FaultsAt looked line → ReadsScriptFault FaultsAt input input' line
fault_read FaultsAt input input' text looked line same read told = record {
  bytes = text;
  read = read;
  few = subst (λ (bytes : List ℕ). commands_told bytes ≤ 4_096) same told.0;
  fault = subst (λ (bytes : List ℕ). FaultsAt bytes line) same told.1;
}
