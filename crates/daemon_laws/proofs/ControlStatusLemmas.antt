-- The causes of two statuses of a run under control never hold together, where its talk tells.
use Rattle.std.proofs.Common.{◌≡◌, ◌≢◌, false, List, ℕ, IsSome, refl, sym, ◌∙◌}
use Rattle.std.specs.declared.alloc.Global.{Global}
use Rattle.std.specs.declared.string.String.{String}
use Rattle.lk_outside.specs.Faults.{Rose}
use Rattle.lk_outside.specs.Stream.{Stream}
use Rattle.link_text.specs.LiveHead.{IsHeadLineFault}
use Rattle.link_live.specs.Journal.{has_ended}
use Rattle.link_control.specs.ControlRun.{ControlSetup, EndsTell}
use Rattle.link_words.specs.ControlWords.{IsControl}
use Rattle.link_commands.specs.declared.status.Grammar.TheVariants as grammar
use Rattle.link_commands.specs.declared.status.Status.{Status}
use Rattle.link_commands.specs.declared.status.Status.TheVariants as status
use Rattle.link_daemon.specs.ControlEnds.{EndsControl, EndsControlled, RunsControl}
use Rattle.link_daemon.specs.Ends.{control_seen}
use Rattle.daemon_laws.specs.OneStatus.{CanFail, End, end_of, IsTold, HasOneHeadFaultLine, TellsTalk}
use Rattle.link_daemon.specs.AllSeen.{AllSeen}
use Rattle.link_live_command.specs.ScriptRead.{EndsHeadRead}
use Rattle.daemon_laws.proofs.CauseLemmas.{First, here, later, IsOne, first_is_one, rose_and_quiet, ended_and_not}
use Rattle.daemon_laws.proofs.ControlCourseLemmas.{SendsMany, sent_many_and_few, events_met, many_met, port_met, talk_met, well_met}
use Rattle.daemon_laws.proofs.ScriptStatusLemmas.{ScriptCauses, one_script_end, script_so, unread_cause}

-- ---- the causes in their order

-- of a run that was begun
abbrev RunCauses : AllSeen → AllSeen → End → Type 0
RunCauses before after =
    First (Rose before.port.faults after.port.faults) (λ cause. end_of status.Port)
    (First (Rose before.talk.faults after.talk.faults) (λ cause. end_of status.Talk)
    (First (has_ended after.report.events ≡ false) (λ cause. end_of status.Events)
    (First (SendsMany before.talk.left after.talk.left) (λ cause. end_of status.Lines)
    (First (Rose before.out.faults after.out.faults) (λ cause. end_of status.Sink)
    (λ end. end ≡ end_of status.Done)))))

one_run_end : (before after : AllSeen) → IsOne (RunCauses before after)
one_run_end before after =
    first_is_one (Rose before.port.faults after.port.faults) (λ cause. end_of status.Port) _ (λ p q. refl)
    (first_is_one (Rose before.talk.faults after.talk.faults) (λ cause. end_of status.Talk) _ (λ p q. refl)
    (first_is_one (has_ended after.report.events ≡ false) (λ cause. end_of status.Events) _ (λ p q. refl)
    (first_is_one (SendsMany before.talk.left after.talk.left) (λ cause. end_of status.Lines) _ (λ p q. refl)
    (first_is_one (Rose before.out.faults after.out.faults) (λ cause. end_of status.Sink) (λ end. end ≡ end_of status.Done) (λ p q. refl)
    (λ one other is is'. is ∙ sym is')))))

-- of the command
abbrev ControlCauses : List (String Global) → Stream → Stream → AllSeen → AllSeen → End → Type 0
ControlCauses words input input' before after =
    ScriptCauses (IsControl words) grammar.LiveHead IsHeadLineFault input input' (RunCauses before after)

-- ---- each status has its cause

run_cause : EndsTell → (setup : ControlSetup) (before after : AllSeen) (end : Status) → CanFail before → IsSome before.talk.left
    → end ≢ status.Memory → EndsControlled setup (control_seen before) (control_seen after) end → RunCauses before after (end_of end)
run_cause laws setup before after status.Port can tells some_memory ended = here (port_met laws ended.run) refl
run_cause laws setup before after status.Talk can tells some_memory ended =
    let met = talk_met laws ended.run in
    later (λ rose. rose_and_quiet _ _ can.port_counts rose met.0) (here met.1 refl)
run_cause laws setup before after status.Events can tells some_memory ended =
    let met = events_met laws ended.run in
    later (λ rose. rose_and_quiet _ _ can.port_counts rose met.0)
    (later (λ rose. rose_and_quiet _ _ can.talk_counts rose met.1) (here met.2 refl))
run_cause laws setup before after status.Lines can tells some_memory ended =
    let met = many_met laws ended.run in
    later (λ rose. rose_and_quiet _ _ can.port_counts rose met.0)
    (later (λ rose. rose_and_quiet _ _ can.talk_counts rose met.1)
    (later (λ goes_on. ended_and_not (has_ended after.report.events) met.2 goes_on) (here met.3 refl)))
run_cause laws setup before after status.Sink can tells some_memory ended =
    let met = well_met laws ended.run in
    later (λ rose. rose_and_quiet _ _ can.port_counts rose met.0)
    (later (λ rose. rose_and_quiet _ _ can.talk_counts rose met.1)
    (later (λ goes_on. ended_and_not (has_ended after.report.events) met.2 goes_on)
    (later (λ many. sent_many_and_few before.talk.left after.talk.left tells many met.3) (here ended.written.rose refl))))
run_cause laws setup before after status.Done can tells some_memory ended =
    let met = well_met laws ended.run in
    later (λ rose. rose_and_quiet _ _ can.port_counts rose met.0)
    (later (λ rose. rose_and_quiet _ _ can.talk_counts rose met.1)
    (later (λ goes_on. ended_and_not (has_ended after.report.events) met.2 goes_on)
    (later (λ many. sent_many_and_few before.talk.left after.talk.left tells many met.3)
    (later (λ rose. rose_and_quiet _ _ can.out_counts rose ended.written.quiet) refl))))
run_cause laws setup before after status.Memory can tells some_memory ended = absurd (some_memory refl)
run_cause laws setup before after other can tells some_memory never = absurd never

module _ (laws : EndsTell) (words : List (String Global)) (seed : ℕ) (input input' : Stream) (before after : AllSeen) (tells : IsTold input)
    (can : CanFail before) (talks : TellsTalk words before) where
  runs_so : (end : Status) → end ≢ status.Memory → RunsControl words seed input input' (control_seen before) (control_seen after) end
      → ControlCauses words input input' before after (end_of end)
  runs_so end some_memory runs =
      let up = runs.set_up in
      script_so (IsControl words) grammar.LiveHead IsHeadLineFault (RunCauses before after) input input' tells
      up.bytes (end_of end) up.named.is_control up.read up.few
      (λ line fault. fault.none (runs.setup.config.mpb, runs.setup.config.sync, runs.setup.config.gates, up.head))
      (run_cause laws runs.setup before after end can (talks up.named.is_control.begins) some_memory runs.ends)

  unread_so : (end : Status) → end ≢ status.Memory → IsControl words → EndsHeadRead input input' end
      → ControlCauses words input input' before after (end_of end)
  unread_so = unread_cause (IsControl words) grammar.LiveHead IsHeadLineFault (RunCauses before after) input input' tells

  control_cause : (end : Status) → end ≢ status.Memory
      → EndsControl words seed input input' (control_seen before) (control_seen after) end
      → ControlCauses words input input' before after (end_of end)
  control_cause status.Words some_memory (other, unread, not_begun) = here other refl
  control_cause status.Input some_memory (taken, ends, not_begun) = unread_so status.Input some_memory taken ends
  control_cause (status.TooLong limit) some_memory (taken, ends, not_begun) = unread_so (status.TooLong limit) some_memory taken ends
  control_cause (status.TooMany limit) some_memory (taken, ends, not_begun) = unread_so (status.TooMany limit) some_memory taken ends
  control_cause (status.Script g line reason) some_memory (taken, ends, not_begun) =
      unread_so (status.Script g line reason) some_memory taken ends
  control_cause status.Memory some_memory ended = absurd (some_memory refl)
  control_cause end some_memory runs = runs_so end some_memory runs

-- one run under control
pub one_control : EndsTell → HasOneHeadFaultLine → (words : List (String Global)) (seed : ℕ) (input input' : Stream) (before after : AllSeen)
    (one other : Status) → IsTold input → CanFail before → TellsTalk words before → one ≢ status.Memory → other ≢ status.Memory
    → EndsControl words seed input input' (control_seen before) (control_seen after) one
    → EndsControl words seed input input' (control_seen before) (control_seen after) other
    → end_of one ≡ end_of other
one_control laws once words seed input input' before after one other tells can talks not_one not_other ends ends' =
    one_script_end (IsControl words) grammar.LiveHead IsHeadLineFault (RunCauses before after) once (one_run_end before after)
    input input' tells.told (end_of one) (end_of other)
    (control_cause laws words seed input input' before after tells can talks one not_one ends)
    (control_cause laws words seed input input' before after tells can talks other not_other ends')
