use Rattle.std.proofs.Common.{◌<◌, ◌∙◌, length, subst, ℤ, arith, w64, to_z, of_z}
use Rattle.std.specs.List.{flat_map}
use Rattle.std.proofs.lemmas.Int.{to_z-of_z}
use Rattle.link_node.specs.Config.{config_value}
use Rattle.link_script.specs.ReplayScript.{ended, head_lines}
use Rattle.link_commands.specs.Outlet.{HandsPart}
use Rattle.link_commands.proofs.OutletLemmas.{on_failure}
use Rattle.link_live_command.proofs.ReportLemmas.{head_next, head_part}
use Rattle.link_live_command.proofs.report_text.hand_head.Goals as goal

pub loop-k-preserved : goal.loop-k-preserved
loop-k-preserved g c =
    let lines = head_lines 2 (config_value c.args.config.now) (to_z w64 (of_z w64 c.args.now)) in
    let within : c.loop-k.k < length lines = omega (arith, c.loop-k-test.true, c.head_length-k-end.ensures (to_z w64 (of_z w64 c.args.now))) in (
      head_next lines c.loop-k.k _ _ _ _ _ _ _ _ _ within c.write_head-there.ensures.there c.as_slice.ensures.value c.loop-k.invariant.0 c.in_ok-put_line.ensures.kept,
      c.in_ok-put_line.ensures.quiet ∙ c.loop-k.invariant.1,
    )

pub returns-in_err-put_line-clause-part : goal.returns-in_err-put_line-clause-part
returns-in_err-put_line-clause-part g c =
    let lines = head_lines 2 (config_value c.args.config.now) (to_z w64 (of_z w64 c.args.now)) in
    let within : c.loop-k.k < length lines = omega (arith, c.loop-k-test.true, c.head_length-k-end.ensures (to_z w64 (of_z w64 c.args.now))) in
    on_failure c.from_residual.result
    (subst (λ (at : ℤ). HandsPart (flat_map ended (head_lines 2 (config_value c.args.config.now) at)) (g.K.Sink.seen c.args.out.now).told c.args.outlet.now.kept.items (g.K.Sink.seen c.put_line.new.out).told)
    (to_z-of_z w64 c.args.now c.ranges.now)
    (head_part lines c.loop-k.k _ _ _ _ _ _ _ _ within c.write_head-there.ensures.there c.as_slice.ensures.value c.loop-k.invariant.0 c.in_err-put_line.ensures.part))
