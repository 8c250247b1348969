use Rattle.std.proofs.Common.{◌≡◌, ℤ, List, length, ap, arith, refl, subst, sym, to_z, of_z, w64, ◌∙◌}
use Rattle.std.proofs.lemmas.Int.{to_z-of_z}
use Rattle.std.specs.Prelude.{All}
use Rattle.std.proofs.lemmas.List.{length-map}
use Rattle.link_node.specs.Config.{config_value}
use Rattle.link_script.specs.LiveScript.{IsCommand, app, block}
use Rattle.link_script.specs.declared.live_script.AppCommand.{AppCommand}
use Rattle.link_script.specs.declared.live_script.BlockCommand.{BlockCommand}
use Rattle.link_live.specs.LiveRun.{told_of}
use Rattle.link_live.specs.Report.{ReportValue, report_value}
use Rattle.link_live_command.proofs.LiveLemmas.{replays, run_of_script}
use Rattle.link_live_command.proofs.RunLemmas.{has_published, moment_fits, wrote_part, wrote_whole}
use Rattle.link_live_command.proofs.live.run_script.Goals as goal

pub new-requires-2-clause-apps : goal.new-requires-2-clause-apps
new-requires-2-clause-apps g c =
    subst (λ (apps : List AppCommand). All (λ (command : AppCommand). IsCommand (app command)) apps)
    (sym (ap (λ list. list.items) c.config_of-config.ensures.apps)) ((c.scripts_have_commands.ensures _ _ _ _ _ _ c.requires.script.2).0)

pub new-requires-2-clause-commands : goal.new-requires-2-clause-commands
new-requires-2-clause-commands g c =
    subst (λ (blocks : List BlockCommand). All (λ (command : BlockCommand). IsCommand (block command)) blocks)
    (sym (ap (λ list. list.items) c.config_of-config.ensures.blocks)) ((c.scripts_have_commands.ensures _ _ _ _ _ _ c.requires.script.2).1)

pub write_report-written-requires-clause-few : goal.write_report-written-requires-clause-few
write_report-written-requires-clause-few g c = omega (
  arith,
  c.in-Ok-live_run.ensures.few,
  c.requires.options.2,
  length-map c.keep.new.self.plays.items (λ clicks. clicks.items),
  length-map c.in-Ok-live_run.run'.audio.plays.items (λ clicks. clicks.items),
  ap (λ (report : ReportValue). length report.plays) c.keep.ensures,
)

pub returns : goal.returns
returns g c =
    let config = config_value c.config_of-config.result in
    let run = c.in-Ok-live_run.run' in
    let ran = c.in-Ok-live_run.ensures in
    let stored : to_z w64 (of_z w64 c.until-now.result) ≡ c.until-now.result = to_z-of_z w64 _ (moment_fits _ c.until-now.ensures.answer.range) in
    let kept = c.keep.ensures ∙ ap (λ (n : ℤ). told_of config n run) stored in
    record {
      ends = run_of_script c.args.seed c.args.options.now c.args.script c.config_of-config.new.script config config
          c.until-now.result _ _ _ _ _ _ _ _ _ _ _ _ _ run c.is_ok.result _
          c.config_of-config.ensures.config c.config_of-config.ensures.apps c.config_of-config.ensures.blocks (refl, stored, refl)
          c.until-now.ensures.late ran.ends kept
          (wrote_whole c.write_report-written.result c.is_ok.result _ _ _ c.is_ok.ensures.value c.write_report-written.ensures.whole c.write_report-written.ensures.quiet)
          (wrote_part c.write_report-written.result c.is_ok.result _ _ _ c.is_ok.ensures.value c.write_report-written.ensures.part c.write_report-written.ensures.cause)
          (let say = c.are_sayable.ensures in
          replays c.written_scripts_are_read.ensures c.requires.script.0 c.args.seed c.args.options.now c.args.script config config
          c.until-now.result run (report_value c.keep.new.self)
          c.requires.script.2 c.config_of-config.ensures.config c.ranges.seed.fits c.config_of-config.ensures.visible
          c.config_of-config.ensures.group c.requires.options.3 c.until-now.ensures.answer.range refl
          ran.fitting (rw c.deref.ensures.value at say) kept)
          c.status_of.ensures;
      unbegun = λ memory none.
          absurd (has_published ran.ends.run.recorded
          (sym (ap (λ (report : ReportValue). report.published) c.keep.ensures) ∙ none));
    }
