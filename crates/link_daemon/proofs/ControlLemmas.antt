-- How a call of `control` ends, from how its parts end.
use Rattle.std.proofs.Common.{◌≡◌, inl, inr, ℕ, ℤ, Bool, true, false, List, [], Option, refl, sym, ap, subst, ◌∙◌, arith}
use Rattle.std.specs.declared.alloc.Global.{Global}
use Rattle.std.specs.declared.string.String.{String}
use Rattle.lk_base.specs.declared.endpoint.Endpoint.{Endpoint}
use Rattle.lk_outside.specs.Port.{PortSeen}
use Rattle.lk_outside.specs.Stream.{Stream}
use Rattle.lk_outside.specs.Talk.{TalkSeen}
use Rattle.link_node.specs.Config.{ConfigValue}
use Rattle.link_text.specs.declared.live_head.LiveHead.{LiveHead}
use Rattle.link_live.specs.Report.{IsCleared, ReportValue}
use Rattle.link_control.specs.ControlRun.{ControlSetup, EndsControlRun, told_of}
use Rattle.link_control.specs.declared.log.LineLog.{LineLog}
use Rattle.link_control.specs.declared.run.ControlEnd.{ControlEnd}
use Rattle.link_control.specs.declared.run.ControlEnd.TheVariants as end
use Rattle.link_control.specs.declared.run.ControlRun.{ControlRun}
use Rattle.link_words.specs.ControlWords.{NamesControl}
use Rattle.link_words.specs.declared.control_words.ControlOptions.{ControlOptions}
use Rattle.link_commands.specs.Statuses.{WritesPart, WritesSome, WritesWhole}
use Rattle.link_commands.specs.declared.status.Status.{Status}
use Rattle.link_commands.specs.declared.status.Status.TheVariants as status
use Rattle.link_daemon.specs.ControlEnds.{ControlSeen, EndsControl, EndsControlled, HasEndedControl, IsControlSetUp, RunsControl}
use Rattle.link_live_command.specs.HeadRead.{IsHeadRead}
use Rattle.link_daemon.specs.ControlSetup.{control_setup_from, control_status_from, controlled_config_from}
use Rattle.link_live_command.specs.ReportText.{live_text_of}
use Rattle.link_live_command.proofs.RunLemmas.{wrote_some}

-- how a run ends whose summary was written, or in part
pub run_ended : (setup : ControlSetup) (before after : ControlSeen) (ended : ControlEnd) (wrote : Bool)
    → EndsControlRun setup before.late before.port after.port before.talk after.talk after.report after.log ended
    → (wrote ≡ true → WritesWhole before.out after.out (live_text_of after.report false))
    → (wrote ≡ false → WritesPart before.out after.out (live_text_of after.report false))
    → EndsControlled setup before after (control_status_from ended wrote)
run_ended setup before after end.Well true run whole part = record { run = run; written = whole refl }
run_ended setup before after end.Well false run whole part = record { run = run; written = part refl }
run_ended setup before after end.Port wrote run whole part =
    record { run = run; written = wrote_some before.out after.out (live_text_of after.report false) wrote whole part }
run_ended setup before after end.Talk wrote run whole part =
    record { run = run; written = wrote_some before.out after.out (live_text_of after.report false) wrote whole part }
run_ended setup before after end.Events wrote run whole part =
    record { run = run; written = wrote_some before.out after.out (live_text_of after.report false) wrote whole part }
run_ended setup before after end.Lines wrote run whole part =
    record { run = run; written = wrote_some before.out after.out (live_text_of after.report false) wrote whole part }
run_ended setup before after end.Memory wrote run whole part =
    inr (record { run = run; written = wrote_some before.out after.out (live_text_of after.report false) wrote whole part })

-- what a link's parts set up
abbrev pub setup_of : ConfigValue → ℕ → Endpoint → ControlSetup
setup_of config most at = record { config = config; events = most; at = at }

-- a run by a head that was read, from what its parts say
module _ (seed : ℕ) (options : ControlOptions) (head : LiveHead) (config opened : ConfigValue) (now at : ℤ) (most : ℕ)
    (late late' late'' : Option ℤ) (port port' : PortSeen) (talk talk' : TalkSeen) (out out' : Stream) (before report : ReportValue)
    (log log' : List LineLog) (run : ControlRun) (wrote : Bool) (how : Status) where
  same_setup : config ≡ controlled_config_from seed options head → (opened ≡ config) × (at ≡ now) × (most ≡ options.events)
      → setup_of opened most options.at ≡ control_setup_from seed options head
  same_setup config_is (opened_is, at_is, most_is) =
      ap (λ (c : ConfigValue). setup_of c most options.at) (opened_is ∙ config_is)
      ∙ ap (λ (n : ℕ). setup_of (controlled_config_from seed options head) n options.at) most_is

  pub run_of_head : config ≡ controlled_config_from seed options head → (opened ≡ config) × (at ≡ now) × (most ≡ options.events) → late' ≡ late
      → EndsControlRun (setup_of opened most options.at) late' port port' talk talk' (told_of opened at run) log' run.end
      → report ≡ told_of config now run
      → (wrote ≡ true → WritesWhole out out' (live_text_of report false))
      → (wrote ≡ false → WritesPart out out' (live_text_of report false))
      → how ≡ control_status_from run.end wrote
      → EndsControlled (control_setup_from seed options head)
      (record { port = port; talk = talk; late = late; out = out; report = before; log = log })
      (record { port = port'; talk = talk'; late = late''; out = out'; report = report; log = log' }) how
  run_of_head config_is given late_is ends report_is whole part how_is =
      subst (λ (s : Status). EndsControlled (control_setup_from seed options head)
      (record { port = port; talk = talk; late = late; out = out; report = before; log = log })
      (record { port = port'; talk = talk'; late = late''; out = out'; report = report; log = log' }) s) (sym how_is)
      (run_ended (control_setup_from seed options head)
      (record { port = port; talk = talk; late = late; out = out; report = before; log = log })
      (record { port = port'; talk = talk'; late = late''; out = out'; report = report; log = log' }) run.end wrote
      (subst (λ (s : ControlSetup). EndsControlRun s late port port' talk talk' report log' run.end)
      (same_setup config_is given)
      (subst (λ (l : Option ℤ). EndsControlRun (setup_of opened most options.at) l port port' talk talk' report log' run.end)
      late_is
      (subst (λ (r : ReportValue). EndsControlRun (setup_of opened most options.at) late' port port' talk talk' r log' run.end)
      (ap (λ (c : ConfigValue). told_of c at run) given.0 ∙ ap (λ (n : ℤ). told_of config n run) given.1 ∙ sym report_is)
      ends)))
      whole part)

-- what the run by a head that was read is set up by
set_up : (words : List (String Global)) (seed : ℕ) (input input' : Stream) (options : ControlOptions) (head : LiveHead)
    → NamesControl words options → IsHeadRead input input' head
    → IsControlSetUp words seed input input' options (control_setup_from seed options head)
set_up words seed input input' options head named is = record {
  named = named;
  bytes = is.bytes;
  read = is.read;
  few = is.few;
  head = is.text;
  id = refl;
  seed_is = refl;
  events = refl;
  at = refl;
  quantum = refl;
  group = refl;
}

abbrev over : ControlSeen → ReportValue → List LineLog → ControlSeen
over before report log = record before { report = report; log = log }

-- a head was read, and its run ended so, before which what was told is cleared
module _ (words : List (String Global)) (seed : ℕ) (input input' : Stream) (before after : ControlSeen) (cleared : ReportValue) (emptied : List LineLog)
    (options : ControlOptions) (head : LiveHead) (named : NamesControl words options) (is : IsHeadRead input input' head)
    (report_empty : IsCleared before.report cleared) (log_empty : emptied ≡ []) where
  -- what was told before is no part of it
  whatever_told : (ended : ControlEnd) (Writes : Stream → Stream → List ℕ → Type 0)
      → HasEndedControl (control_setup_from seed options head) (over before cleared emptied) after ended Writes
      → HasEndedControl (control_setup_from seed options head) before after ended Writes
  whatever_told ended Writes ends = record { run = ends.run; written = ends.written }

  runs : (how : Status) → EndsControlled (control_setup_from seed options head) before after how → RunsControl words seed input input' before after how
  runs how ends = record {
    options = options;
    setup = control_setup_from seed options head;
    set_up = set_up words seed input input' options head named is;
    ends = ends;
  }

  pub was_run : (how : Status) → EndsControlled (control_setup_from seed options head) (over before cleared emptied) after how
      → EndsControl words seed input input' before after how
  was_run status.Done ends = runs status.Done (whatever_told end.Well WritesWhole ends)
  was_run status.Sink ends = runs status.Sink (whatever_told end.Well WritesPart ends)
  was_run status.Port ends = runs status.Port (whatever_told end.Port WritesSome ends)
  was_run status.Talk ends = runs status.Talk (whatever_told end.Talk WritesSome ends)
  was_run status.Events ends = runs status.Events (whatever_told end.Events WritesSome ends)
  was_run status.Lines ends = runs status.Lines (whatever_told end.Lines WritesSome ends)
  was_run status.Memory (inl stays) = (
    named.is_control.begins,
    (is.bytes, omega (arith, is.read.within), is.read.whole.taken),
    is.read.quiet,
    inl (record {
      port_stays = stays.port_stays;
      talk_stays = stays.talk_stays;
      out_stays = stays.out_stays;
      cleared = stays.report_stays ∙ report_empty;
      log_cleared = stays.log_stays ∙ log_empty;
    }),
  )
  was_run status.Memory (inr ends) = (
    named.is_control.begins,
    (is.bytes, omega (arith, is.read.within), is.read.whole.taken),
    is.read.quiet,
    inr (
      options,
      control_setup_from seed options head,
      set_up words seed input input' options head named is,
      whatever_told end.Memory WritesSome ends,
    ),
  )
  was_run other never = absurd never
