-- Heads of live scripts, which say how a link is set up, and no command.
use Rattle.std.specs.Prelude.{ℕ, ℤ, Bool, List, []}
use Rattle.link_node.specs.Config.{GateValue}
use Rattle.link_script.specs.FirstFault as faults
use Rattle.link_lines.specs.Lines.{lines_of}
use Rattle.link_script.specs.LiveScript.{IsLiveScript}

-- the lines that count are those of a live script without commands
abbrev pub IsHeadScript : List (List ℕ) → ℤ → Bool → List GateValue → Type 0
IsHeadScript lines mpb sync gates = IsLiveScript lines mpb sync gates []

-- Rule: The head of a live script, which `control` reads, is `link 1`, `setup` and the lines of its gates, without commands.
abbrev pub IsHeadText : List ℕ → ℤ → Bool → List GateValue → Type 0
IsHeadText text mpb sync gates = IsHeadScript (lines_of text) mpb sync gates

-- some setup is said by these lines
abbrev pub IsSomeHead : List (List ℕ) → Type 0
IsSomeHead lines = (mpb : ℤ) × (sync : Bool) × (gates : List GateValue) × IsHeadScript lines mpb sync gates

-- the first line at fault, counted from 1, those passed over among them
abbrev pub IsFirstHeadFault : List ℕ → ℕ → Type 0
IsFirstHeadFault text k = faults.IsFirstFault IsSomeHead text k

abbrev pub IsHeadLineFault : List ℕ → ℕ → Type 0
IsHeadLineFault text k = faults.IsLineFault IsSomeHead text k
