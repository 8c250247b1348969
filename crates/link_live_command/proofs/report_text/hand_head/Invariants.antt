-- The lines so far are handed over.
use Rattle.std.proofs.Common.{◌≡◌}
use Rattle.link_node.specs.Config.{config_value}
use Rattle.link_script.specs.ReplayScript.{ended, head_lines}
use Rattle.link_commands.proofs.ReplayLemmas.{HasHandedEach}
use Rattle.link_live_command.proofs.report_text.hand_head.Given as goal

abbrev pub invariant-loop-k : goal.invariant-loop-k
invariant-loop-k g l =
    HasHandedEach ended (head_lines 2 (config_value l.config) l.now) l.k (g.K.Sink.seen l.fn.out).told l.fn.outlet.kept.items (g.K.Sink.seen l.out).told l.outlet.kept.items
    × ((g.K.Sink.seen l.out).faults ≡ (g.K.Sink.seen l.fn.out).faults)
