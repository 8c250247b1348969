use Rattle.std.proofs.Common.{◌∙◌, refl, sym, codes, ap, List, ℕ, ◌++◌}
use Rattle.std.proofs.lemmas.List.{length-map}
use Rattle.link_node.specs.Event.{event_value}
use Rattle.link_live.specs.Report.{report_value}
use Rattle.link_live_command.proofs.ReportLemmas.{live_line_is}
use Rattle.link_live_command.proofs.report_text.write_counts.Goals as goal

pub returns : goal.returns
returns c =
    live_line_is (report_value c.args.report.now) c.put.new.line.items c.put-2.new.line.items _ _ _ _ _ _ _ _
    (rw (c.put-2.ensures.items, c.put_amount-8.ensures.items, c.put_amount-7.ensures.items, c.put_amount-6.ensures.items, c.put_amount-5.ensures.items, c.put_amount-4.ensures.items, c.put_amount-3.ensures.items, c.put_amount-2.ensures.items, c.put_amount.ensures.items) refl)
    (c.put.ensures.items ∙ ap (λ (xs : List ℕ). xs ++ codes "# live") c.clear.ensures)
    (c.len.ensures ∙ c.args.report.now.events.ok.0 ∙ sym (length-map c.args.report.now.events.items event_value))
    (c.len-2.ensures ∙ c.args.report.now.published.ok.0)
    (c.len-3.ensures ∙ c.args.report.now.reads.ok.0)
    (c.len-4.ensures ∙ c.args.report.now.captures.ok.0)
    (c.len-5.ensures ∙ c.args.report.now.app_commits.ok.0)
    (c.len-6.ensures ∙ c.args.report.now.audio_commits.ok.0)
    (c.len-7.ensures ∙ c.args.report.now.plays.ok.0 ∙ sym (length-map c.args.report.now.plays.items (λ clicks. clicks.items)))
    (rw c.deref.ensures.value at c.clicks_in.ensures)
