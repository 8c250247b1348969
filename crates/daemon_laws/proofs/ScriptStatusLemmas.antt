-- The causes of the statuses of a command that reads a script of some grammar, before a run: they never hold together.
use Rattle.std.proofs.Common.{◌≡◌, ◌≢◌, ◌≤◌, List, ℕ, Some, None, IsSome, refl, ap, subst, arith}
use Rattle.lk_outside.specs.Faults.{Rose}
use Rattle.lk_outside.specs.Stream.{Stream}
use Rattle.lk_outside.specs.Transfer.{TakesOver}
use Rattle.link_script.specs.LiveScript.{commands_told}
use Rattle.link_commands.specs.declared.status.Grammar.{Grammar}
use Rattle.link_commands.specs.declared.status.Status.{Status}
use Rattle.link_commands.specs.declared.status.Status.TheVariants as status
use Rattle.link_commands.specs.Statuses.{WasRead}
use Rattle.daemon_laws.specs.OneStatus.{End, end_of, IsTold}
use Rattle.link_live_command.specs.ScriptRead.{EndsReadOf, ReadsScriptFault, ReadsTooMany}
use Rattle.daemon_laws.proofs.CauseLemmas.{First, here, later, IsOne, first_is_one, rose_and_quiet, one_read, more_and_whole}

-- one line of a text outside a grammar is the first at fault, where these are
abbrev pub HasOneFault : (List ℕ → ℕ → Type 0) → Type 0
HasOneFault FaultsAt = (text : List ℕ) (line other : ℕ) → FaultsAt text line → FaultsAt text other → line ≡ other

-- ---- what excludes what

-- the line at fault is one of the text that was read
same_fault : (FaultsAt : List ℕ → ℕ → Type 0) (input input' : Stream) (bytes : List ℕ) (line : ℕ) → IsSome input.told
    → WasRead 16_777_216 input input' bytes → ReadsScriptFault FaultsAt input input' line → FaultsAt bytes line
same_fault FaultsAt input input' bytes line tells read faulty =
    let same : faulty.bytes ≡ bytes = one_read 16_777_216 input input' faulty.bytes bytes tells faulty.read read in
    subst (λ (text : List ℕ). FaultsAt text line) same faulty.fault

one_line : (FaultsAt : List ℕ → ℕ → Type 0) → HasOneFault FaultsAt → (line other : ℕ) (input input' : Stream) → IsSome input.told
    → ReadsScriptFault FaultsAt input input' line → ReadsScriptFault FaultsAt input input' other → line ≡ other
one_line FaultsAt once line other input input' tells p q =
    once q.bytes line other (same_fault FaultsAt input input' q.bytes line tells q.read p) q.fault

-- no more commands are told than may be
many_and_few : (input input' : Stream) (bytes : List ℕ) → IsSome input.told → ReadsTooMany input input'
    → WasRead 16_777_216 input input' bytes → commands_told bytes ≤ 4_096 → ⊥
many_and_few input input' bytes tells many read few =
    let same : many.bytes ≡ bytes = one_read 16_777_216 input input' many.bytes bytes tells many.read read in
    let told : commands_told many.bytes ≡ commands_told bytes = ap commands_told same in
    omega (arith, told, few, many.many)

-- ---- the causes in their order

-- of a text that was read
abbrev pub TextCauses : Grammar → (List ℕ → ℕ → Type 0) → Stream → Stream → (End → Type 0) → End → Type 0
TextCauses wanted FaultsAt input input' RunCauses =
    First (ReadsTooMany input input') (λ cause. end_of (status.TooMany 4_096))
    (First ((line : ℕ) × ReadsScriptFault FaultsAt input input' line)
    (λ fault. record { number = 8; fault = Some (wanted, fault.0); limit = None })
    RunCauses)

one_text_end : (wanted : Grammar) (FaultsAt : List ℕ → ℕ → Type 0) (RunCauses : End → Type 0) → HasOneFault FaultsAt → IsOne RunCauses
    → (input input' : Stream) → IsSome input.told → IsOne (TextCauses wanted FaultsAt input input' RunCauses)
one_text_end wanted FaultsAt RunCauses once one_run input input' tells =
    first_is_one (ReadsTooMany input input') (λ cause. end_of (status.TooMany 4_096)) _ (λ p q. refl)
    (first_is_one ((line : ℕ) × ReadsScriptFault FaultsAt input input' line)
    (λ fault. record { number = 8; fault = Some (wanted, fault.0); limit = None }) RunCauses
    (λ p q.
    ap (λ (line : ℕ). let end : End = record { number = 8; fault = Some (wanted, line); limit = None } in end)
    (one_line FaultsAt once p.0 q.0 input input' tells p.1 q.1))
    one_run)

-- of the command, whose words are taken or not
abbrev pub ScriptCauses : Type 0 → Grammar → (List ℕ → ℕ → Type 0) → Stream → Stream → (End → Type 0) → End → Type 0
ScriptCauses Taken wanted FaultsAt input input' RunCauses =
    First (Taken → ⊥) (λ cause. end_of status.Words)
    (First (Rose input.faults input'.faults) (λ cause. end_of status.Input)
    (First (TakesOver 16_777_216 input.told input'.told) (λ cause. end_of (status.TooLong 16_777_216))
    (TextCauses wanted FaultsAt input input' RunCauses)))

pub one_script_end : (Taken : Type 0) (wanted : Grammar) (FaultsAt : List ℕ → ℕ → Type 0) (RunCauses : End → Type 0)
    → HasOneFault FaultsAt → IsOne RunCauses → (input input' : Stream) → IsSome input.told
    → IsOne (ScriptCauses Taken wanted FaultsAt input input' RunCauses)
one_script_end Taken wanted FaultsAt RunCauses once one_run input input' tells =
    first_is_one (Taken → ⊥) (λ cause. end_of status.Words) _ (λ p q. refl)
    (first_is_one (Rose input.faults input'.faults) (λ cause. end_of status.Input) _ (λ p q. refl)
    (first_is_one (TakesOver 16_777_216 input.told input'.told) (λ cause. end_of (status.TooLong 16_777_216)) _ (λ p q. refl)
    (one_text_end wanted FaultsAt RunCauses once one_run input input' tells)))

-- ---- each status has its cause

module _ (Taken : Type 0) (wanted : Grammar) (FaultsAt : List ℕ → ℕ → Type 0) (RunCauses : End → Type 0) (input input' : Stream)
    (tells : IsTold input) where
  -- what follows a text that was read to its end
  read_so : (bytes : List ℕ) (end : End) → Taken → WasRead 16_777_216 input input' bytes
      → TextCauses wanted FaultsAt input input' RunCauses end → ScriptCauses Taken wanted FaultsAt input input' RunCauses end
  read_so bytes end taken read more =
      later (λ other. other taken)
      (later (λ rose. rose_and_quiet _ _ tells.counts rose read.quiet)
      (later (λ over. more_and_whole _ _ _ _ tells.told over read) more))

  -- what follows one that has no line at fault
  pub script_so : (bytes : List ℕ) (end : End) → Taken → WasRead 16_777_216 input input' bytes → commands_told bytes ≤ 4_096
      → ((line : ℕ) → FaultsAt bytes line → ⊥) → RunCauses end → ScriptCauses Taken wanted FaultsAt input input' RunCauses end
  script_so bytes end taken read few none more =
      read_so bytes end taken read
      (later (λ many. many_and_few input input' bytes tells.told many read few)
      (later (λ fault. none fault.0 (same_fault FaultsAt input input' bytes fault.0 tells.told read fault.1)) more))

  -- why no script was read
  pub unread_cause : (end : Status) → end ≢ status.Memory → Taken → EndsReadOf wanted FaultsAt input input' end
      → ScriptCauses Taken wanted FaultsAt input input' RunCauses (end_of end)
  unread_cause status.Input some_memory taken (rose, few) = later (λ other. other taken) (here rose refl)
  unread_cause (status.TooLong limit) some_memory taken (same_limit, over, quiet) =
      later (λ other. other taken)
      (later (λ rose. rose_and_quiet _ _ tells.counts rose quiet) (here over (ap (λ (most : ℕ). end_of (status.TooLong most)) same_limit)))
  unread_cause (status.TooMany limit) some_memory taken (same_limit, many) =
      read_so many.bytes (end_of (status.TooMany limit)) taken many.read
      (here many (ap (λ (most : ℕ). end_of (status.TooMany most)) same_limit))
  unread_cause (status.Script g line reason) some_memory taken (same_grammar, faulty) =
      read_so faulty.bytes (end_of (status.Script g line reason)) taken faulty.read
      (later (λ many. many_and_few input input' faulty.bytes tells.told many faulty.read faulty.few)
      (here (line, faulty) (ap (λ (in_ : Grammar). end_of (status.Script in_ line reason)) same_grammar)))
  unread_cause status.Memory some_memory taken ends = absurd (some_memory refl)
  unread_cause other some_memory taken never = absurd never
