-- A valid input is answered by its output, unless there is no memory.
use Rattle.std.proofs.Common.{◌≡◌, ◌⊎◌, inl, inr, List, [], ◌∷◌, ◌++◌, ℕ, refl, subst, sym}
use Rattle.std.specs.List.{All}
use Rattle.std.proofs.lemmas.List.Elements.{All-head, All-same}
use Rattle.std.specs.declared.alloc.Global.{Global}
use Rattle.std.specs.declared.string.String.{String}
use Rattle.lk_outside.specs.Faults.{Rose}
use Rattle.lk_outside.specs.Stream.{Stream}
use Rattle.link_lines.specs.Lines.{lines_of}
use Rattle.link_control.specs.ControlRun.{EndsTell}
use Rattle.link_words.specs.LoadWords.{IsLoad}
use Rattle.link_words.specs.MidiWords.{IsMidi}
use Rattle.link_commands.specs.HexLines.{IsDecodable, IsHexLine}
use Rattle.link_commands.specs.PairLines.{IsPairText, IsSomePair}
use Rattle.link_commands.specs.declared.status.Status.{Status}
use Rattle.link_commands.specs.declared.status.Status.TheVariants as status
use Rattle.link_commands.specs.Statuses.{Command, EndsBy, EndsInput, EndsLoad, EndsMidi, ReadsFault, replay_command, decode_command, filter_command, midi_command}
use Rattle.link_commands.proofs.DecodeLemmas.{all_back}
use Rattle.link_commands.proofs.HexLineLemmas.{bad_line}
use Rattle.link_words.specs.CommandNames.{Names}
use Rattle.link_words.specs.declared.command_name.CommandName.{CommandName}
use Rattle.link_words.specs.declared.command_name.CommandName.TheVariants as name
use Rattle.daemon_laws.specs.ValidInput.{IsScriptText, IsValidFor, CompletesLoad, CompletesMidi, CompletesValid, CompleteValid}
use Rattle.daemon_laws.proofs.CauseLemmas.{told_is_read, within_and_over}
use Rattle.daemon_laws.proofs.CourseLemmas.{CourseLaws}
use Rattle.link_daemon.proofs.StatusLemmas.{as_named}
use Rattle.daemon_laws.proofs.ValidRunLemmas.{completes_control, completes_live}

-- ---- texts of a grammar

-- they have no line at fault
abbrev IsFaultless : Command → (List ℕ → Type 0) → Type 0
IsFaultless command IsText = (text : List ℕ) (line : ℕ) → IsText text → command.FaultsAt text line → ⊥

script_faultless : IsFaultless replay_command IsScriptText
script_faultless text line some fault = fault.1 some

one_of_them : (P : List ℕ → Type 0) (text line : List ℕ) (before after : List (List ℕ)) → lines_of text ≡ before ++ line ∷ after
    → All P (lines_of text) → P line
one_of_them P text line before after split all =
    All-head P line after (all_back P before (line ∷ after) (All-same P (before ++ line ∷ after) (lines_of text) (sym split) all))

decode_faultless : IsFaultless decode_command IsDecodable
decode_faultless text line all fault =
    let says = one_of_them IsHexLine text fault.line fault.before fault.after fault.split all in
    bad_line fault.line says.0 fault.bad says.1

filter_faultless : IsFaultless filter_command IsPairText
filter_faultless text line all fault = fault.bad (one_of_them IsSomePair text fault.line fault.before fault.after fault.split all)

-- ---- a command over a text

valid_and_fault : (command : Command) (IsText : List ℕ → Type 0) → IsFaultless command IsText → (input input' : Stream) (line : ℕ)
    → IsValidFor command.limit IsText input → ReadsFault command input input' line → ⊥
valid_and_fault command IsText faultless input input' line valid faulty =
    let same : valid.bytes ≡ faulty.bytes = told_is_read command.limit input input' valid.bytes faulty.bytes valid.told faulty.read in
    faultless faulty.bytes line (subst IsText same valid.text) faulty.fault

module _ (command : Command) (IsText : List ℕ → Type 0) (faultless : IsFaultless command IsText) (input input' out out' : Stream)
    (valid : IsValidFor command.limit IsText input) (reads : Rose input.faults input'.faults → ⊥)
    (writes : Rose out.faults out'.faults → ⊥) where
  completes_input : (end : Status) → EndsInput command input input' out out' end → (end ≡ status.Done) ⊎ (end ≡ status.Memory)
  completes_input status.Done ends = inl refl
  completes_input status.Memory ends = inr refl
  completes_input status.Input (rose, few, same_out) = absurd (reads rose)
  completes_input status.Sink (output, read, wrote) = absurd (writes wrote.rose)
  completes_input (status.Script g line reason) (same_grammar, faulty, same_out) =
      absurd (valid_and_fault command IsText faultless input input' line valid faulty)
  completes_input (status.TooLong limit) (same_limit, over, quiet, same_out) =
      absurd (within_and_over command.limit valid.bytes input input'.told valid.told valid.within over)
  completes_input other never = absurd never

  completes_by : (named : CommandName) (words : List (String Global)) (end : Status) → Names named words
      → EndsBy named command words input input' out out' end → (end ≡ status.Done) ⊎ (end ≡ status.Memory)
  completes_by named words end taken (inl (taken', ends)) = completes_input end ends
  completes_by named words end taken (inr untaken) = absurd (untaken.other_words taken)

completes_replay : CompletesValid name.Replay replay_command IsScriptText
completes_replay words seed before after end named valid reads writes ends =
    completes_by replay_command IsScriptText script_faultless before.input after.input before.out after.out valid reads writes name.Replay words end named
    (as_named words name.Replay seed before after end ([], named) ends).0

completes_decode : CompletesValid name.Decode decode_command IsDecodable
completes_decode words seed before after end named valid reads writes ends =
    completes_by decode_command IsDecodable decode_faultless before.input after.input before.out after.out valid reads writes name.Decode words end named
    (as_named words name.Decode seed before after end ([], named) ends).0

completes_filter : CompletesValid name.Filter filter_command IsPairText
completes_filter words seed before after end named valid reads writes ends =
    completes_by filter_command IsPairText filter_faultless before.input after.input before.out after.out valid reads writes name.Filter words end named
    (as_named words name.Filter seed before after end ([], named) ends).0

-- ---- a script that is played in blocks

midi_ends : (words : List (String Global)) (input input' out out' : Stream) (end : Status) → IsMidi words → IsValidFor replay_command.limit IsScriptText input
    → (Rose input.faults input'.faults → ⊥) → (Rose out.faults out'.faults → ⊥)
    → EndsMidi words input input' out out' end → (end ≡ status.Done) ⊎ (end ≡ status.Memory)
midi_ends words input input' out out' end midi valid reads writes (inl (span, blocks, named, ends)) =
    completes_input (midi_command span blocks) IsScriptText script_faultless input input' out out' valid reads writes end ends
midi_ends words input input' out out' end midi valid reads writes (inr (inl untaken)) = absurd (untaken.other_words midi)
midi_ends words input input' out out' end midi valid reads writes (inr (inr unread)) = inr unread.no_memory

completes_midi : CompletesMidi
completes_midi words seed before after end midi valid reads writes ends =
    midi_ends words before.input after.input before.out after.out end midi valid reads writes
    (as_named words name.Midi seed before after end midi.0 ends).0

-- ---- a load

load_ends : (words : List (String Global)) (out out' : Stream) (end : Status)
    → IsLoad words → (Rose out.faults out'.faults → ⊥) → EndsLoad words out out' end → (end ≡ status.Done) ⊎ (end ≡ status.Memory)
load_ends words out out' status.Done load writes ends = inl refl
load_ends words out out' status.Memory load writes ends = inr refl
load_ends words out out' status.Words load writes (unnamed, same_out) = absurd (unnamed load)
load_ends words out out' status.Sink load writes (seed, count, named, (output, text, wrote)) = absurd (writes wrote.rose)
load_ends words out out' other load writes never = absurd never

completes_load : CompletesLoad
completes_load words seed before after end load writes ends =
    load_ends words before.out after.out end load writes (as_named words name.Load seed before after end load.0 ends).0

pub complete_valid : CourseLaws → EndsTell → CompleteValid
complete_valid courses tell = (
  completes_replay,
  (completes_decode, (completes_filter, (completes_midi, (completes_load, (completes_live courses, completes_control tell))))),
)
