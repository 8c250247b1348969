-- How a call of `live` ends, from how its parts end.
use Rattle.std.proofs.Common.{◌≡◌, ◌<◌, ◌^◌, inl, inr, ℕ, ℤ, Bool, true, false, List, length, map, Option, refl, sym, ap, subst, ◌∙◌, arith}
use Rattle.std.specs.declared.alloc.Global.{Global}
use Rattle.std.specs.declared.string.String.{String}
use Rattle.lk_base.specs.Ranges.{IsMoment, IsQuantum}
use Rattle.lk_outside.specs.Audio.{AudioSeen}
use Rattle.lk_outside.specs.Port.{PortSeen}
use Rattle.lk_outside.specs.Stream.{Stream}
use Rattle.link_node.specs.Config.{ConfigValue, gate_value}
use Rattle.link_node.specs.Event.{EventValue, event_value}
use Rattle.link_node.specs.Runs.{AreFitting}
use Rattle.link_script.specs.LiveScript.{IsLiveText}
use Rattle.link_script.specs.ReplayScript.{AreSayable, IsHead, IsScriptOf, IsVisibleId, written_script_of}
use Rattle.link_script.specs.declared.live_script.LiveScript.{LiveScript}
use Rattle.link_live.specs.Headline.{LiveSetup}
use Rattle.link_live_command.specs.LiveEnds.{EndsLive, EndsRun, IsReplayable, IsSetUp}
use Rattle.link_live.specs.LiveRun.{EndsLiveRun, setup_of, told_of}
use Rattle.link_live_command.specs.LiveSetup.{IsRead, config_from, setup_from, status_from}
use Rattle.link_words.specs.LiveWords.{NamesLive}
use Rattle.link_live_command.specs.Outside.{Outside}
use Rattle.link_live.specs.Report.{IsCleared, ReportValue}
use Rattle.link_live_command.specs.ReportText.{live_text_of}
use Rattle.link_commands.specs.Statuses.{WritesPart, WritesWhole}
use Rattle.link_live.specs.declared.run.LiveEnd.{LiveEnd}
use Rattle.link_live.specs.declared.run.LiveEnd.TheVariants as end
use Rattle.link_live.specs.declared.run.LiveRun.{LiveRun}
use Rattle.link_words.specs.declared.live_words.LiveOptions.{LiveOptions}
use Rattle.link_commands.specs.declared.status.Status.{Status}
use Rattle.link_commands.specs.declared.status.Status.TheVariants as status
use Rattle.link_live_command.proofs.RecordLemmas.{is_config, is_head, whole_record}
use Rattle.link_live_command.proofs.RunLemmas.{wrote_some}

-- how a run ends whose report was written, or in part
pub run_ended : (setup : LiveSetup) (recorded : Bool) (before after : Outside) (ended : LiveEnd) (wrote : Bool)
    → EndsLiveRun setup before.late before.port after.port before.audio after.audio after.report ended
    → (wrote ≡ true → WritesWhole before.out after.out (live_text_of after.report recorded))
    → (wrote ≡ false → WritesPart before.out after.out (live_text_of after.report recorded))
    → IsReplayable after.report
    → EndsRun setup recorded before after (status_from ended wrote)
run_ended setup recorded before after end.Well true run whole part replays = record { run = run; written = whole refl; replayable = replays }
run_ended setup recorded before after end.Well false run whole part replays = record { run = run; written = part refl; replayable = replays }
run_ended setup recorded before after end.Port wrote run whole part replays =
    record { run = run; written = wrote_some before.out after.out (live_text_of after.report recorded) wrote whole part; replayable = replays }
run_ended setup recorded before after end.Audio wrote run whole part replays =
    record { run = run; written = wrote_some before.out after.out (live_text_of after.report recorded) wrote whole part; replayable = replays }
run_ended setup recorded before after end.Events wrote run whole part replays =
    record { run = run; written = wrote_some before.out after.out (live_text_of after.report recorded) wrote whole part; replayable = replays }
run_ended setup recorded before after end.Memory wrote run whole part replays =
    inr (record { run = run; written = wrote_some before.out after.out (live_text_of after.report recorded) wrote whole part; replayable = replays })

-- a run of a script that was read, from what its parts say
module _ (seed : ℕ) (options : LiveOptions) (script later : LiveScript) (config opened : ConfigValue) (now at : ℤ) (most : ℕ)
    (late late' late'' : Option ℤ) (port port' : PortSeen) (audio audio' : AudioSeen) (out out' : Stream) (before report : ReportValue)
    (run : LiveRun) (wrote : Bool) (how : Status) where
  same_setup : config ≡ config_from seed options script → later.apps ≡ script.apps → later.blocks ≡ script.blocks
      → (opened ≡ config) × (at ≡ now) × (most ≡ options.events)
      → setup_of opened most later options.blocks ≡ setup_from seed options script
  same_setup config_is apps_are blocks_are (opened_is, at_is, most_is) =
      ap (λ (c : ConfigValue). setup_of c most later options.blocks) (opened_is ∙ config_is)
      ∙ ap (λ (n : ℕ). setup_of (config_from seed options script) n later options.blocks) most_is
      ∙ ap (λ apps. record (setup_of (config_from seed options script) options.events later options.blocks) { apps = apps.items }) apps_are
      ∙ ap (λ blocks. record (setup_of (config_from seed options script) options.events later options.blocks) { apps = script.apps.items; block_commands = blocks.items }) blocks_are

  pub run_of_script : config ≡ config_from seed options script → later.apps ≡ script.apps → later.blocks ≡ script.blocks
      → (opened ≡ config) × (at ≡ now) × (most ≡ options.events) → late' ≡ late
      → EndsLiveRun (setup_of opened most later options.blocks) late' port port' audio audio' (told_of opened at run) run.end
      → report ≡ told_of config now run
      → (wrote ≡ true → WritesWhole out out' (live_text_of report options.«record»))
      → (wrote ≡ false → WritesPart out out' (live_text_of report options.«record»))
      → IsReplayable report
      → how ≡ status_from run.end wrote
      → EndsRun (setup_from seed options script) options.«record»
      (record { port = port; audio = audio; late = late; out = out; report = before })
      (record { port = port'; audio = audio'; late = late''; out = out'; report = report }) how
  run_of_script config_is apps_are blocks_are given late_is ends report_is whole part replays how_is =
      subst (λ (s : Status). EndsRun (setup_from seed options script) options.«record»
      (record { port = port; audio = audio; late = late; out = out; report = before })
      (record { port = port'; audio = audio'; late = late''; out = out'; report = report }) s) (sym how_is)
      (run_ended (setup_from seed options script) options.«record»
      (record { port = port; audio = audio; late = late; out = out; report = before })
      (record { port = port'; audio = audio'; late = late''; out = out'; report = report }) run.end wrote
      (subst (λ (s : LiveSetup). EndsLiveRun s late port port' audio audio' report run.end)
      (same_setup config_is apps_are blocks_are given)
      (subst (λ (l : Option ℤ). EndsLiveRun (setup_of opened most later options.blocks) l port port' audio audio' report run.end)
      late_is
      (subst (λ (r : ReportValue). EndsLiveRun (setup_of opened most later options.blocks) late' port port' audio audio' r run.end)
      (ap (λ (c : ConfigValue). told_of c at run) given.0 ∙ ap (λ (n : ℤ). told_of config n run) given.1 ∙ sym report_is)
      ends)))
      whole part replays)

-- its record is a replay script
pub replays : ((c : ConfigValue) (n : ℤ) (es : List EventValue) → IsHead c n → AreSayable (length c.gates) 0 es → IsScriptOf (written_script_of c n es) 2 c n es)
    → (text : List ℕ) (seed : ℕ) (options : LiveOptions) (script : LiveScript) (config opened : ConfigValue) (now : ℤ) (run : LiveRun) (report : ReportValue)
    → IsLiveText text script.mpb script.sync (map gate_value script.gates.items) script.apps.items script.blocks.items
    → config ≡ config_from seed options script → seed < 2 ^ 64 → IsVisibleId config.id → config.group < 2 ^ 16 → IsQuantum options.quantum
    → IsMoment now → opened ≡ config
    → AreFitting (length opened.gates) 0 0 (map event_value run.events.items)
    → ((gates app audio : ℕ) → AreFitting gates app audio (map event_value run.events.items) → AreSayable gates audio (map event_value run.events.items))
    → report ≡ told_of config now run → IsReplayable report
replays law text seed options script config opened now run report is config_is small visible group quantum moment opened_is fit say report_is =
    subst (λ (r : ReportValue). IsReplayable r) (sym report_is)
    (whole_record (told_of config now run)
    (law config now (map event_value run.events.items) head
    (say (length config.gates) 0 0 (subst (λ (c : ConfigValue). AreFitting (length c.gates) 0 0 (map event_value run.events.items)) opened_is fit))))
  where
    seen : IsVisibleId (config_from seed options script).id
    seen = subst (λ (c : ConfigValue). IsVisibleId c.id) config_is visible

    in_group : options.group < 2 ^ 16
    in_group = subst (λ (c : ConfigValue). c.group < 2 ^ 16) config_is group

    head : IsHead config now
    head = subst (λ (c : ConfigValue). IsHead c now) (sym config_is)
        (is_head (config_from seed options script) now seen.eight seen.visible small in_group
        (is_config (config_from seed options script) is.script.head quantum) is.script.head.each moment)

-- what the run of a script that was read is set up by
set_up : (words : List (String Global)) (seed : ℕ) (input input' : Stream) (options : LiveOptions) (script : LiveScript)
    → NamesLive words options → IsRead input input' script → IsSetUp words seed input input' options (setup_from seed options script)
set_up words seed input input' options script named is = record {
  named = named;
  bytes = is.bytes;
  read = is.read;
  few = is.few;
  script = is.text;
  id = refl;
  seed_is = refl;
  events = refl;
  blocks = refl;
  quantum = refl;
  group = refl;
}

abbrev over : Outside → ReportValue → Outside
over before report = record before { report = report }

-- a script was read, and its run ended so
pub was_run : (words : List (String Global)) (seed : ℕ) (input input' : Stream) (before after : Outside) (cleared : ReportValue) (options : LiveOptions) (script : LiveScript) (how : Status)
    → NamesLive words options → IsRead input input' script → IsCleared before.report cleared
    → EndsRun (setup_from seed options script) options.«record» (over before cleared) after how
    → EndsLive words seed input input' before after how
was_run words seed input input' before after cleared options script status.Done named is empty ends =
    record { options = options; setup = setup_from seed options script; set_up = set_up words seed input input' options script named is; ends = record { run = ends.run; written = ends.written; replayable = ends.replayable } }
was_run words seed input input' before after cleared options script status.Sink named is empty ends =
    record { options = options; setup = setup_from seed options script; set_up = set_up words seed input input' options script named is; ends = record { run = ends.run; written = ends.written; replayable = ends.replayable } }
was_run words seed input input' before after cleared options script status.Port named is empty ends =
    record { options = options; setup = setup_from seed options script; set_up = set_up words seed input input' options script named is; ends = record { run = ends.run; written = ends.written; replayable = ends.replayable } }
was_run words seed input input' before after cleared options script status.Audio named is empty ends =
    record { options = options; setup = setup_from seed options script; set_up = set_up words seed input input' options script named is; ends = record { run = ends.run; written = ends.written; replayable = ends.replayable } }
was_run words seed input input' before after cleared options script status.Events named is empty ends =
    record { options = options; setup = setup_from seed options script; set_up = set_up words seed input input' options script named is; ends = record { run = ends.run; written = ends.written; replayable = ends.replayable } }
was_run words seed input input' before after cleared options script status.Memory named is empty (inl stays) = (
  named.is_live.0,
  (is.bytes, omega (arith, is.read.within), is.read.whole.taken),
  is.read.quiet,
  inl (record {
    port_stays = stays.port_stays;
    audio_stays = stays.audio_stays;
    out_stays = stays.out_stays;
    cleared = stays.report_stays ∙ empty;
  }),
)
was_run words seed input input' before after cleared options script status.Memory named is empty (inr ends) = (
  named.is_live.0,
  (is.bytes, omega (arith, is.read.within), is.read.whole.taken),
  is.read.quiet,
  inr (options, setup_from seed options script, set_up words seed input input' options script named is, record { run = ends.run; written = ends.written; replayable = ends.replayable }),
)
was_run words seed input input' before after cleared options script other named is empty never = absurd never
