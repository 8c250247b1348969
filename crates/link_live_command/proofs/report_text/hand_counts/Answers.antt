use Rattle.std.proofs.Common.{◌∙◌, subst, List, ℕ}
use Rattle.std.specs.Result.{OnErr}
use Rattle.link_commands.specs.Outlet.{HandsPart}
use Rattle.link_live_command.proofs.report_text.hand_counts.Goals as goal

pub returns-clause-part : goal.returns-clause-part
returns-clause-part g c =
    subst (λ (text : List ℕ). OnErr c.put_line.result (HandsPart text (g.K.Sink.seen c.args.out.now).told c.args.outlet.now.kept.items (g.K.Sink.seen c.put_line.new.out).told))
    (c.as_slice.ensures.value ∙ c.write_counts.ensures) c.put_line.ensures.part
