-- The causes of two statuses of a live run never hold together.
use Rattle.std.proofs.Common.{◌≡◌, ◌≢◌, Bool, false, List, ℕ, refl, sym, ◌∙◌}
use Rattle.std.specs.declared.alloc.Global.{Global}
use Rattle.std.specs.declared.string.String.{String}
use Rattle.lk_outside.specs.Faults.{Rose}
use Rattle.lk_outside.specs.Stream.{Stream}
use Rattle.link_script.specs.LiveScript.{IsLiveLineFault}
use Rattle.link_live.specs.Headline.{LiveSetup}
use Rattle.link_live.specs.Journal.{has_ended}
use Rattle.link_live_command.specs.LiveEnds.{EndsLive, EndsRun, Runs}
use Rattle.link_words.specs.LiveWords.{IsLive}
use Rattle.link_daemon.specs.AllSeen.{AllSeen}
use Rattle.link_daemon.specs.Ends.{live_seen}
use Rattle.link_live_command.specs.Outside.{Outside}
use Rattle.link_live_command.specs.ScriptRead.{EndsRead}
use Rattle.link_commands.specs.declared.status.Grammar.TheVariants as grammar
use Rattle.link_commands.specs.declared.status.Status.{Status}
use Rattle.link_commands.specs.declared.status.Status.TheVariants as status
use Rattle.daemon_laws.specs.OneStatus.{CanFail, End, end_of, IsTold, HasOneLiveFaultLine}
use Rattle.daemon_laws.proofs.CourseLemmas.{CourseLaws, audio_met, events_met, port_met, well_met}
use Rattle.daemon_laws.proofs.CauseLemmas.{First, here, later, IsOne, first_is_one, rose_and_quiet, ended_and_not}
use Rattle.daemon_laws.proofs.ScriptStatusLemmas.{ScriptCauses, one_script_end, script_so, unread_cause}

-- ---- the causes in their order

-- of a run that was begun
abbrev RunCauses : Outside → Outside → End → Type 0
RunCauses before after =
    First (Rose before.port.faults after.port.faults) (λ cause. end_of status.Port)
    (First (Rose before.audio.faults after.audio.faults) (λ cause. end_of status.Audio)
    (First (has_ended after.report.events ≡ false) (λ cause. end_of status.Events)
    (First (Rose before.out.faults after.out.faults) (λ cause. end_of status.Sink)
    (λ end. end ≡ end_of status.Done))))

one_run_end : (before after : Outside) → IsOne (RunCauses before after)
one_run_end before after =
    first_is_one (Rose before.port.faults after.port.faults) (λ cause. end_of status.Port) _ (λ p q. refl)
    (first_is_one (Rose before.audio.faults after.audio.faults) (λ cause. end_of status.Audio) _ (λ p q. refl)
    (first_is_one (has_ended after.report.events ≡ false) (λ cause. end_of status.Events) _ (λ p q. refl)
    (first_is_one (Rose before.out.faults after.out.faults) (λ cause. end_of status.Sink) (λ end. end ≡ end_of status.Done) (λ p q. refl)
    (λ one other is is'. is ∙ sym is'))))

-- of the command
abbrev LiveCauses : List (String Global) → Stream → Stream → Outside → Outside → End → Type 0
LiveCauses words input input' before after =
    ScriptCauses (IsLive words) grammar.LiveScript IsLiveLineFault input input' (RunCauses before after)

-- ---- each status has its cause

run_cause : CourseLaws → (setup : LiveSetup) (recorded : Bool) (before after : AllSeen) (end : Status) → CanFail before → end ≢ status.Memory
    → EndsRun setup recorded (live_seen before) (live_seen after) end → RunCauses (live_seen before) (live_seen after) (end_of end)
run_cause laws setup recorded before after status.Port can some_memory ended = here (port_met laws ended.run) refl
run_cause laws setup recorded before after status.Audio can some_memory ended =
    let met = audio_met laws ended.run in
    later (λ rose. rose_and_quiet _ _ can.port_counts rose met.0) (here met.1 refl)
run_cause laws setup recorded before after status.Events can some_memory ended =
    let met = events_met laws ended.run in
    later (λ rose. rose_and_quiet _ _ can.port_counts rose met.0)
    (later (λ rose. rose_and_quiet _ _ can.audio_counts rose met.1) (here met.2 refl))
run_cause laws setup recorded before after status.Sink can some_memory ended =
    let met = well_met laws ended.run in
    later (λ rose. rose_and_quiet _ _ can.port_counts rose met.0)
    (later (λ rose. rose_and_quiet _ _ can.audio_counts rose met.1)
    (later (λ goes_on. ended_and_not (has_ended after.report.events) met.2 goes_on) (here ended.written.rose refl)))
run_cause laws setup recorded before after status.Done can some_memory ended =
    let met = well_met laws ended.run in
    later (λ rose. rose_and_quiet _ _ can.port_counts rose met.0)
    (later (λ rose. rose_and_quiet _ _ can.audio_counts rose met.1)
    (later (λ goes_on. ended_and_not (has_ended after.report.events) met.2 goes_on)
    (later (λ rose. rose_and_quiet _ _ can.out_counts rose ended.written.quiet) refl)))
run_cause laws setup recorded before after status.Memory can some_memory ended = absurd (some_memory refl)
run_cause laws setup recorded before after other can some_memory never = absurd never

module _ (laws : CourseLaws) (words : List (String Global)) (seed : ℕ) (input input' : Stream) (before after : AllSeen) (tells : IsTold input)
    (can : CanFail before) where
  runs_so : (end : Status) → end ≢ status.Memory → Runs words seed input input' (live_seen before) (live_seen after) end
      → LiveCauses words input input' (live_seen before) (live_seen after) (end_of end)
  runs_so end some_memory runs =
      let up = runs.set_up in
      script_so (IsLive words) grammar.LiveScript IsLiveLineFault (RunCauses (live_seen before) (live_seen after)) input input' tells
      up.bytes (end_of end) up.named.is_live up.read up.few
      (λ line fault.
      fault.none (runs.setup.config.mpb, runs.setup.config.sync, runs.setup.config.gates, up.script.commands, up.script.script))
      (run_cause laws runs.setup runs.options.«record» before after end can some_memory runs.ends)

  unread_so : (end : Status) → end ≢ status.Memory → IsLive words → EndsRead input input' end
      → LiveCauses words input input' (live_seen before) (live_seen after) (end_of end)
  unread_so =
      unread_cause (IsLive words) grammar.LiveScript IsLiveLineFault (RunCauses (live_seen before) (live_seen after)) input input' tells

  live_cause : (end : Status) → end ≢ status.Memory → EndsLive words seed input input' (live_seen before) (live_seen after) end
      → LiveCauses words input input' (live_seen before) (live_seen after) (end_of end)
  live_cause status.Words some_memory (other, unread, not_begun) = here other refl
  live_cause status.Input some_memory (live, ends, not_begun) = unread_so status.Input some_memory live ends
  live_cause (status.TooLong limit) some_memory (live, ends, not_begun) = unread_so (status.TooLong limit) some_memory live ends
  live_cause (status.TooMany limit) some_memory (live, ends, not_begun) = unread_so (status.TooMany limit) some_memory live ends
  live_cause (status.Script g line reason) some_memory (live, ends, not_begun) =
      unread_so (status.Script g line reason) some_memory live ends
  live_cause status.Memory some_memory ended = absurd (some_memory refl)
  live_cause end some_memory runs = runs_so end some_memory runs

-- one live run
pub one_live : CourseLaws → HasOneLiveFaultLine → (words : List (String Global)) (seed : ℕ) (input input' : Stream) (before after : AllSeen)
    (one other : Status) → IsTold input → CanFail before → one ≢ status.Memory → other ≢ status.Memory
    → EndsLive words seed input input' (live_seen before) (live_seen after) one → EndsLive words seed input input' (live_seen before) (live_seen after) other
    → end_of one ≡ end_of other
one_live laws once words seed input input' before after one other tells can not_one not_other ends ends' =
    one_script_end (IsLive words) grammar.LiveScript IsLiveLineFault (RunCauses (live_seen before) (live_seen after)) once
    (one_run_end (live_seen before) (live_seen after)) input input' tells.told (end_of one) (end_of other)
    (live_cause laws words seed input input' before after tells can one not_one ends)
    (live_cause laws words seed input input' before after tells can other not_other ends')
