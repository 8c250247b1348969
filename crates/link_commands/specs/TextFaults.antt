-- What a fault of a text says.
use Rattle.std.specs.Prelude.{ℕ, List}
use Rattle.link_commands.specs.declared.text_fault.TextFault.{TextFault}
use Rattle.link_commands.specs.declared.text_fault.TextFault.TheVariants.{Line, Memory}
use Rattle.link_commands.specs.Statuses.{Command}

-- the text is outside the command's grammar, and this line is the first at fault
abbrev pub IsTextFault : Command → List ℕ → TextFault → Type 0
IsTextFault command text (Line line reason) = command.FaultsAt text line
IsTextFault command text Memory = Unit {0}
