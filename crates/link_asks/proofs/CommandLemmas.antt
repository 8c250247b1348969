-- The words of commands.
use Rattle.std.proofs.Common.{◌≡◌, ◌≢◌, refl, sym, ◌∙◌, ap, ℕ, ◌+◌, ◌*◌, ◌==◌, if◌then◌else◌, List, get_or, codes, Option, Some, None, IfNone}
use Rattle.link_asks.specs.Commands.{command_text_of}
use Rattle.link_asks.specs.declared.command.Command.{Command}
use Rattle.link_asks.specs.declared.command.Command.TheVariants as command

abbrev pub IsNoLook : List ℕ → Type 0
IsNoLook word =
    (word ≢ codes "status") × (word ≢ codes "now") × (word ≢ codes "beat") × (word ≢ codes "phase") × (word ≢ codes "time")

abbrev pub IsNoEdit : List ℕ → Type 0
IsNoEdit word =
    (word ≢ codes "tempo") × (word ≢ codes "bpm") × (word ≢ codes "play") × (word ≢ codes "stop") × (word ≢ codes "force") × (word ≢ codes "request") × (word ≢ codes "quantum")

abbrev pub IsNoOther : List ℕ → Type 0
IsNoOther word =
    (word ≢ codes "watch") × (word ≢ codes "unwatch") × (word ≢ codes "clients") × (word ≢ codes "gates") × (word ≢ codes "end")

-- a word that is none of these is no command
pub no_command : (word : List ℕ)
    → IsNoLook word → IsNoEdit word → IsNoOther word
    → (c : Command) → word ≡ command_text_of c → ⊥
unfolding command_text_of
no_command word looks edits others command.Status = looks.0
no_command word looks edits others command.Now = looks.1
no_command word looks edits others command.Beat = looks.2
no_command word looks edits others command.Phase = looks.3
no_command word looks edits others command.Time = looks.4
no_command word looks edits others command.Tempo = edits.0
no_command word looks edits others command.Bpm = edits.1
no_command word looks edits others command.Play = edits.2
no_command word looks edits others command.Stop = edits.3
no_command word looks edits others command.Force = edits.4
no_command word looks edits others command.Request = edits.5
no_command word looks edits others command.Quantum = edits.6
no_command word looks edits others command.Watch = others.0
no_command word looks edits others command.Unwatch = others.1
no_command word looks edits others command.Clients = others.2
no_command word looks edits others command.Gates = others.3
no_command word looks edits others command.End = others.4

pub no_command_else : (word : List ℕ) (r : Option Command) → IsNoLook word → IsNoEdit word → IfNone r (IsNoOther word)
    → IfNone r ((c : Command) → word ≡ command_text_of c → ⊥)
no_command_else word (Some x) looks edits others = tt
no_command_else word None looks edits others = no_command word looks edits others

-- ---- the words tell the commands apart

-- the first three bytes of a word as a number
abbrev code : List ℕ → ℕ
code word = get_or word 0 0 * 65536 + get_or word 1 0 * 256 + get_or word 2 0

abbrev of_code : ℕ → Command
of_code n = if n == 7_566_433 then command.Status else (if n == 7_237_495 then command.Now else (if n == 6_448_481 then command.Beat else (if n == 7_366_753 then command.Phase else (if n == 7_629_165 then command.Time else (if n == 7_628_141 then command.Tempo else (if n == 6_451_309 then command.Bpm else (if n == 7_367_777 then command.Play else (if n == 7_566_447 then command.Stop else (if n == 6_713_202 then command.Force else (if n == 7_497_073 then command.Request else (if n == 7_435_617 then command.Quantum else (if n == 7_823_732 then command.Watch else (if n == 7_695_991 then command.Unwatch else (if n == 6_515_817 then command.Clients else (if n == 6_775_156 then command.Gates else (command.End))))))))))))))))

of_text : (c : Command) → of_code (code (command_text_of c)) ≡ c
unfolding command_text_of
of_text command.Status = refl
of_text command.Now = refl
of_text command.Beat = refl
of_text command.Phase = refl
of_text command.Time = refl
of_text command.Tempo = refl
of_text command.Bpm = refl
of_text command.Play = refl
of_text command.Stop = refl
of_text command.Force = refl
of_text command.Request = refl
of_text command.Quantum = refl
of_text command.Watch = refl
of_text command.Unwatch = refl
of_text command.Clients = refl
of_text command.Gates = refl
of_text command.End = refl

pub command_one : (c d : Command) → command_text_of c ≡ command_text_of d → c ≡ d
command_one c d same = sym (of_text c) ∙ ap (λ (word : List ℕ). of_code (code word)) same ∙ of_text d
