use Rattle.std.proofs.Common.{◌≡◌, ℤ, length, ap, arith, refl, sym, to_z, of_z, w64, ◌∙◌}
use Rattle.std.proofs.lemmas.Int.{to_z-of_z}
use Rattle.std.proofs.lemmas.List.{length-map}
use Rattle.link_node.specs.Config.{config_value}
use Rattle.link_live.specs.Report.{ReportValue}
use Rattle.link_control.specs.ControlRun.{told_of}
use Rattle.link_daemon.proofs.ControlLemmas.{run_of_head}
use Rattle.link_live_command.proofs.RunLemmas.{has_published, moment_fits, wrote_part, wrote_whole}
use Rattle.link_daemon.proofs.control.run_head.Goals as goal

-- there was no audio thread
pub write_report-written-requires-clause-few : goal.write_report-written-requires-clause-few
write_report-written-requires-clause-few g c = omega (
  arith,
  length-map c.keep_run.new.report.plays.items (λ clicks. clicks.items),
  ap (λ (report : ReportValue). length report.plays) c.keep_run.ensures,
)

pub returns : goal.returns
returns g c =
    let config = config_value c.config_of-config.result in
    let run = c.in-Ok-control_run.run' in
    let stored : to_z w64 (of_z w64 c.until-now.result) ≡ c.until-now.result = to_z-of_z w64 _ (moment_fits _ c.until-now.ensures.answer.range) in
    let kept = c.keep_run.ensures ∙ ap (λ (n : ℤ). told_of config n run) stored in
    record {
      ends = run_of_head c.args.seed c.args.options.now c.args.head config config
          c.until-now.result _ _ _ _ _ _ _ _ _ _ _ _ _ _ _ run c.is_ok.result _
          c.config_of-config.ensures (refl, stored, refl) c.until-now.ensures.late c.in-Ok-control_run.ensures.ends kept
          (wrote_whole c.write_report-written.result c.is_ok.result _ _ _ c.is_ok.ensures.value c.write_report-written.ensures.whole c.write_report-written.ensures.quiet)
          (wrote_part c.write_report-written.result c.is_ok.result _ _ _ c.is_ok.ensures.value c.write_report-written.ensures.part c.write_report-written.ensures.cause)
          c.status_of.ensures;
      unbegun = λ memory none.
          absurd (has_published c.in-Ok-control_run.ensures.ends.run.recorded
          (sym (ap (λ (report : ReportValue). report.published) c.keep_run.ensures) ∙ none));
    }
