-- The clicks of the blocks so far are counted, at most 18 for each.
use Rattle.std.proofs.Common.{◌≡◌, ◌≤◌, ◌*◌}
use Rattle.link_live_command.proofs.ReportLemmas.{count_of}
use Rattle.link_live_command.proofs.report_text.clicks_in.Given as goal

abbrev pub invariant-loop-play : goal.invariant-loop-play
invariant-loop-play l =
    (l.clicks ≡ count_of (λ clicks. clicks) (λ clicks. clicks.items) l.plays l.play-index) × (l.clicks ≤ 18 * l.play-index)
