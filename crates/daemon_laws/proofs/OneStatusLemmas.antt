-- The causes of two statuses never hold together.
use Rattle.std.proofs.Common.{◌≡◌, ◌≢◌, inl, inr, ◌<◌, ◌-◌, ◌^◌, List, ℕ, Option, Some, None, IsSome, codes, refl, ap, sym, subst, ◌∙◌}
use Rattle.std.specs.Str.Parse.{digits_value, without_leading_plus}
use Rattle.std.specs.declared.alloc.Global.{Global}
use Rattle.std.specs.declared.string.String.{String}
use Rattle.clap.specs.Words.{App}
use Rattle.lk_outside.specs.Faults.{Rose}
use Rattle.lk_outside.specs.Stream.{Stream}
use Rattle.lk_outside.specs.Transfer.{TakesOver}
use Rattle.link_words.specs.CommandNames.{Names, named_by}
use Rattle.link_words.specs.CommandWords.{Says}
use Rattle.link_words.specs.declared.command_name.CommandName.{CommandName}
use Rattle.link_words.specs.declared.command_name.CommandName.TheVariants as name
use Rattle.link_control.specs.ControlRun.{EndsTell}
use Rattle.link_daemon.specs.Ends.{EndsNamed}
use Rattle.link_words.specs.LoadWords.{IsLoad}
use Rattle.link_words.specs.MidiWords.{IsMidi, NamesMidi, midi_app}
use Rattle.link_daemon.specs.AllSeen.{AllSeen}
use Rattle.link_commands.specs.declared.status.Grammar.{Grammar}
use Rattle.link_commands.specs.declared.status.Status.{Status}
use Rattle.link_commands.specs.declared.status.Status.TheVariants as status
use Rattle.link_commands.specs.Statuses.{Command, ReadsText, ReadsFault, EndsBy, EndsInput, EndsLoad, EndsMidi, replay_command, decode_command, filter_command, midi_command}
use Rattle.daemon_laws.specs.OneStatus.{CanFail, End, end_of, IsTold, TellsTalk, HasOneStatus, HasOneFaultLine, HasOneHeadFaultLine, HasOneLiveFaultLine}
use Rattle.daemon_laws.proofs.CourseLemmas.{CourseLaws}
use Rattle.daemon_laws.proofs.CauseLemmas.{First, here, later, IsOne, first_is_one, rose_and_quiet, one_read, more_and_whole}
use Rattle.link_commands.proofs.HexLineLemmas.{bad_and_decoded}
use Rattle.link_commands.proofs.FilterLemmas.{bad_and_filtered}
use Rattle.daemon_laws.proofs.FaultLineLemmas.{IsFaultOnce, one_script_fault, one_bad_line, one_no_pair}
use Rattle.daemon_laws.proofs.ControlStatusLemmas.{one_control}
use Rattle.daemon_laws.proofs.LiveStatusLemmas.{one_live}

-- a text for which a command gives an output has no fault
abbrev pub AreExclusive : Command → Type 0
AreExclusive command = (text output : List ℕ) (line : ℕ) → command.FaultsAt text line → command.Gives text output → ⊥

pub replay_exclusive : AreExclusive replay_command
replay_exclusive text output line fault (version, config, now, es, script, same) = fault.1 (version, config, now, es, script)

pub decode_exclusive : AreExclusive decode_command
decode_exclusive text output line fault whole = bad_and_decoded text output line fault whole

pub filter_exclusive : AreExclusive filter_command
filter_exclusive text output line fault whole = bad_and_filtered text output line fault whole

pub midi_exclusive : (length blocks : ℕ) → AreExclusive (midi_command length blocks)
midi_exclusive length blocks text output line fault (version, config, now, es, script, same) = fault.1 (version, config, now, es, script)

-- one text is not both in a grammar and outside it
fault_and_output : (command : Command) → AreExclusive command → (line : ℕ) (input input' : Stream) (output : List ℕ) → IsSome input.told
    → ReadsFault command input input' line → ReadsText command input input' output → ⊥
fault_and_output command exclusive line input input' output tells faulty whole =
    let same : whole.bytes ≡ faulty.bytes = one_read command.limit input input' whole.bytes faulty.bytes tells whole.read faulty.read in
    exclusive faulty.bytes output line faulty.fault
    (let P : List ℕ → Type 0 = λ bytes. command.Gives bytes output in subst P same whole.gives)

-- one text has one first line at fault
one_line : (command : Command) → HasOneFaultLine command → (line other : ℕ) (input input' : Stream) → IsSome input.told
    → ReadsFault command input input' line → ReadsFault command input input' other → line ≡ other
one_line command once line other input input' tells p q =
    let same : p.bytes ≡ q.bytes = one_read command.limit input input' p.bytes q.bytes tells p.read q.read in
    once q.bytes line other (let P : List ℕ → Type 0 = λ bytes. command.FaultsAt bytes line in subst P same p.fault) q.fault

-- ---- a command over a text

-- where it was written: the sink failed, or all is done
abbrev WriteCauses : Stream → Stream → End → Type 0
WriteCauses out out' =
    First (Rose out.faults out'.faults) (λ cause. end_of status.Sink)
    (λ end. end ≡ end_of status.Done)

one_write_end : (out out' : Stream) → IsOne (WriteCauses out out')
one_write_end out out' =
    first_is_one (Rose out.faults out'.faults) (λ cause. end_of status.Sink) (λ end. end ≡ end_of status.Done) (λ p q. refl)
    (λ one other is is'. is ∙ sym is')

-- of a text that was read
abbrev ReadCauses : Command → Stream → Stream → Stream → Stream → End → Type 0
ReadCauses command input input' out out' =
    First ((line : ℕ) × ReadsFault command input input' line)
    (λ fault. record { number = 8; fault = Some (command.grammar, fault.0); limit = None })
    (WriteCauses out out')

one_read_end : (command : Command) → HasOneFaultLine command → (input input' out out' : Stream) → IsSome input.told
    → IsOne (ReadCauses command input input' out out')
one_read_end command once input input' out out' tells =
    first_is_one ((line : ℕ) × ReadsFault command input input' line)
    (λ fault. record { number = 8; fault = Some (command.grammar, fault.0); limit = None }) (WriteCauses out out')
    (λ p q.
    ap (λ (line : ℕ). let end : End = record { number = 8; fault = Some (command.grammar, line); limit = None } in end)
    (one_line command once p.0 q.0 input input' tells p.1 q.1))
    (one_write_end out out')

-- the causes of a command in their order, behind its words
abbrev InputCauses : Command → Stream → Stream → Stream → Stream → End → Type 0
InputCauses command input input' out out' =
    First (Rose input.faults input'.faults) (λ cause. end_of status.Input)
    (First (TakesOver command.limit input.told input'.told) (λ cause. end_of (status.TooLong command.limit))
    (ReadCauses command input input' out out'))

one_input_end : (command : Command) → HasOneFaultLine command → (input input' out out' : Stream) → IsSome input.told
    → IsOne (InputCauses command input input' out out')
one_input_end command once input input' out out' tells =
    first_is_one (Rose input.faults input'.faults) (λ cause. end_of status.Input) _ (λ p q. refl)
    (first_is_one (TakesOver command.limit input.told input'.told) (λ cause. end_of (status.TooLong command.limit)) _ (λ p q. refl)
    (one_read_end command once input input' out out' tells))

abbrev CommandCauses : CommandName → Command → List (String Global) → Stream → Stream → Stream → Stream → End → Type 0
CommandCauses named command words input input' out out' =
    First (Names named words → ⊥) (λ cause. end_of status.Words) (InputCauses command input input' out out')

one_command_end : (named : CommandName) (command : Command) → HasOneFaultLine command → (words : List (String Global))
    (input input' out out' : Stream) → IsSome input.told → IsOne (CommandCauses named command words input input' out out')
one_command_end named command once words input input' out out' tells =
    first_is_one (Names named words → ⊥) (λ cause. end_of status.Words) (InputCauses command input input' out out') (λ p q. refl)
    (one_input_end command once input input' out out' tells)

module _ (command : Command) (exclusive : AreExclusive command) (input input' out out' : Stream)
    (tells : IsTold input) (counts : out.faults < 2 ^ 64 - 1) where
  -- what follows a text with an output
  read_so : (end : End) (output : List ℕ) → ReadsText command input input' output → WriteCauses out out' end
      → InputCauses command input input' out out' end
  read_so end output reads more =
      later (λ rose. rose_and_quiet _ _ tells.counts rose reads.read.quiet)
      (later (λ over. more_and_whole _ _ _ _ tells.told over reads.read)
      (later (λ fault. fault_and_output command exclusive _ _ _ _ tells.told fault.1 reads) more))

  input_cause : (end : Status) → end ≢ status.Memory → EndsInput command input input' out out' end
      → InputCauses command input input' out out' (end_of end)
  input_cause status.Input some_memory (rose, few, same_out) = here rose refl
  input_cause (status.TooLong limit) some_memory (same_limit, over, quiet, same_out) =
      later (λ rose. rose_and_quiet _ _ tells.counts rose quiet) (here over (ap (λ (most : ℕ). end_of (status.TooLong most)) same_limit))
  input_cause (status.Script g line reason) some_memory (same_grammar, reads, same_out) =
      later (λ rose. rose_and_quiet _ _ tells.counts rose reads.read.quiet)
      (later (λ over. more_and_whole _ _ _ _ tells.told over reads.read)
      (here (line, reads) (ap (λ (in_ : Grammar). end_of (status.Script in_ line reason)) same_grammar)))
  input_cause status.Sink some_memory (output, reads, wrote) = read_so (end_of status.Sink) output reads (here wrote.rose refl)
  input_cause status.Done some_memory (output, reads, wrote) =
      read_so (end_of status.Done) output reads (later (λ rose. rose_and_quiet _ _ counts rose wrote.quiet) refl)
  input_cause status.Memory some_memory ends = absurd (some_memory refl)
  input_cause other some_memory never = absurd never

  command_cause : (named : CommandName) (words : List (String Global)) (end : Status) → end ≢ status.Memory
      → EndsBy named command words input input' out out' end → CommandCauses named command words input input' out out' (end_of end)
  command_cause named words end some_memory (inl (taken, ends)) = later (λ untaken. untaken taken) (input_cause end some_memory ends)
  command_cause named words end some_memory (inr untaken) = here untaken.other_words (ap end_of untaken.words_at_fault)

-- one run of one command
one_of : (named : CommandName) (command : Command) → AreExclusive command → HasOneFaultLine command → (words : List (String Global))
    (input input' out out' : Stream) (one other : Status) → IsTold input → out.faults < 2 ^ 64 - 1 → one ≢ status.Memory → other ≢ status.Memory
    → EndsBy named command words input input' out out' one → EndsBy named command words input input' out out' other
    → end_of one ≡ end_of other
one_of named command exclusive once words input input' out out' one other tells counts not_one not_other ends ends' =
    one_command_end named command once words input input' out out' tells.told (end_of one) (end_of other)
    (command_cause command exclusive input input' out out' tells counts named words one not_one ends)
    (command_cause command exclusive input input' out out' tells counts named words other not_other ends')

-- ---- a command over a text that takes words besides

-- words say one number by a name
says_once : (app : App) (words : List (String Global)) (id : List ℕ) (number other : ℕ)
    → Says app words id number → Says app words id other → number ≡ other
says_once app words id number other (text, found, numeral, is) (text', found', numeral', is') =
    let all : Some text ≡ Some text' = sym found ∙ found' in
    let same : text ≡ text' = cc in
    sym is ∙ ap (λ (digits : List ℕ). digits_value 10 (without_leading_plus digits)) same ∙ is'

-- the causes of the command of the length and the number of blocks that the words say
abbrev BlocksCauses : List (String Global) → Stream → Stream → Stream → Stream → End → Type 0
BlocksCauses words input input' out out' end =
    (length : ℕ) × (blocks : ℕ) × NamesMidi words length blocks × InputCauses (midi_command length blocks) input input' out out' end

one_blocks_end : HasOneFaultLine replay_command → (words : List (String Global)) (input input' out out' : Stream) → IsSome input.told
    → IsOne (BlocksCauses words input input' out out')
one_blocks_end once words input input' out out' tells one other (length, blocks, named, causes) (length', blocks', named', causes') =
    let same_length : length' ≡ length = says_once midi_app words (codes "LENGTH") length' length named'.length_is named.length_is in
    let same_blocks : blocks' ≡ blocks = says_once midi_app words (codes "BLOCKS") blocks' blocks named'.blocks_is named.blocks_is in
    one_input_end (midi_command length blocks) once input input' out out' tells one other causes
    (subst (λ (n : ℕ). InputCauses (midi_command length n) input input' out out' other) same_blocks
    (subst (λ (n : ℕ). InputCauses (midi_command n blocks') input input' out out' other) same_length causes'))

abbrev MidiCauses : List (String Global) → Stream → Stream → Stream → Stream → End → Type 0
MidiCauses words input input' out out' =
    First (IsMidi words → ⊥) (λ cause. end_of status.Words) (BlocksCauses words input input' out out')

midi_cause : (words : List (String Global)) (input input' out out' : Stream) (end : Status) → IsTold input → out.faults < 2 ^ 64 - 1
    → end ≢ status.Memory → EndsMidi words input input' out out' end → MidiCauses words input input' out out' (end_of end)
midi_cause words input input' out out' end tells counts some_memory (inl (length, blocks, named, ends)) =
    later (λ untaken. untaken named.midi)
    (length, blocks, named, input_cause (midi_command length blocks) (midi_exclusive length blocks) input input' out out' tells counts end some_memory ends)
midi_cause words input input' out out' end tells counts some_memory (inr (inl untaken)) =
    here untaken.other_words (ap end_of untaken.words_at_fault)
midi_cause words input input' out out' end tells counts some_memory (inr (inr unread)) = absurd (some_memory unread.no_memory)

-- one run of `midi`
one_midi : HasOneFaultLine replay_command → (words : List (String Global)) (input input' out out' : Stream) (one other : Status)
    → IsTold input → out.faults < 2 ^ 64 - 1 → one ≢ status.Memory → other ≢ status.Memory
    → EndsMidi words input input' out out' one → EndsMidi words input input' out out' other
    → end_of one ≡ end_of other
one_midi once words input input' out out' one other tells counts not_one not_other ends ends' =
    first_is_one (IsMidi words → ⊥) (λ cause. end_of status.Words) (BlocksCauses words input input' out out') (λ p q. refl)
    (one_blocks_end once words input input' out out' tells.told) (end_of one) (end_of other)
    (midi_cause words input input' out out' one tells counts not_one ends)
    (midi_cause words input input' out out' other tells counts not_other ends')

-- ---- a load

abbrev LoadCauses : List (String Global) → Stream → Stream → End → Type 0
LoadCauses words out out' = First (IsLoad words → ⊥) (λ cause. end_of status.Words) (WriteCauses out out')

load_cause : (words : List (String Global)) (out out' : Stream) (end : Status) → out.faults < 2 ^ 64 - 1 → end ≢ status.Memory
    → EndsLoad words out out' end → LoadCauses words out out' (end_of end)
load_cause words out out' status.Words counts some_memory (unnamed, same_out) = here unnamed refl
load_cause words out out' status.Sink counts some_memory (seed, count, named, (output, text, wrote)) =
    later (λ unnamed. unnamed named.load) (here wrote.rose refl)
load_cause words out out' status.Done counts some_memory (seed, count, named, (output, text, wrote)) =
    later (λ unnamed. unnamed named.load) (later (λ rose. rose_and_quiet _ _ counts rose wrote.quiet) refl)
load_cause words out out' status.Memory counts some_memory ends = absurd (some_memory refl)
load_cause words out out' other counts some_memory never = absurd never

-- one run of a load
one_load : (words : List (String Global)) (out out' : Stream) (one other : Status)
    → out.faults < 2 ^ 64 - 1 → one ≢ status.Memory → other ≢ status.Memory
    → EndsLoad words out out' one → EndsLoad words out out' other
    → end_of one ≡ end_of other
one_load words out out' one other counts not_one not_other ends ends' =
    first_is_one (IsLoad words → ⊥) (λ cause. end_of status.Words) (WriteCauses out out') (λ p q. refl) (one_write_end out out')
    (end_of one) (end_of other)
    (load_cause words out out' one counts not_one ends) (load_cause words out out' other counts not_other ends')

-- ---- the program

module _ (courses : CourseLaws) (tell : EndsTell) (law : IsFaultOnce) (live_law : HasOneLiveFaultLine) (head_law : HasOneHeadFaultLine)
    (words : List (String Global)) (seed : ℕ) (before after : AllSeen) (one other : Status) (tells : IsTold before.input)
    (can : CanFail before) (talks : TellsTalk words before) (not_one : one ≢ status.Memory) (not_other : other ≢ status.Memory) where
  one_end : (found : Option CommandName) → EndsNamed found words seed before after one
      → EndsNamed found words seed before after other → end_of one ≡ end_of other
  one_end (Some name.Replay) (ends, aside) (ends', aside') =
      one_of name.Replay replay_command replay_exclusive (one_script_fault law) words before.input after.input before.out after.out one other
      tells can.out_counts not_one not_other ends ends'
  one_end (Some name.Decode) (ends, aside) (ends', aside') =
      one_of name.Decode decode_command decode_exclusive one_bad_line words before.input after.input before.out after.out one other
      tells can.out_counts not_one not_other ends ends'
  one_end (Some name.Filter) (ends, aside) (ends', aside') =
      one_of name.Filter filter_command filter_exclusive one_no_pair words before.input after.input before.out after.out one other
      tells can.out_counts not_one not_other ends ends'
  one_end (Some name.Midi) (ends, aside) (ends', aside') =
      one_midi (one_script_fault law) words before.input after.input before.out after.out one other tells can.out_counts not_one not_other
      ends ends'
  one_end (Some name.Load) (ends, unread, aside) (ends', unread', aside') =
      one_load words before.out after.out one other can.out_counts not_one not_other ends ends'
  one_end (Some name.Live) (ends, untalked) (ends', untalked') =
      one_live courses live_law words seed before.input after.input before after one other tells can not_one not_other ends ends'
  one_end (Some name.Control) (ends, soundless) (ends', soundless') =
      one_control tell head_law words seed before.input after.input before after one other tells can talks not_one not_other ends ends'
  one_end None ends ends' = ap end_of (ends.words_at_fault ∙ sym ends'.words_at_fault)

pub one_status : CourseLaws → EndsTell → IsFaultOnce → HasOneLiveFaultLine → HasOneHeadFaultLine → HasOneStatus
one_status courses tell law live_law head_law words seed before after one other tells can talks not_one not_other =
    one_end courses tell law live_law head_law words seed before after one other tells can talks not_one not_other
    (named_by words)
