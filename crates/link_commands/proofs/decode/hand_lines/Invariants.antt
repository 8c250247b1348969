-- The lines before `at` are decoded, and their text is handed over.
use Rattle.std.proofs.Common.{◌≡◌, ◌-◌, length}
use Rattle.link_commands.proofs.DecodeLemmas.{HasDecoded}
use Rattle.link_commands.proofs.decode.hand_lines.Given as goal

abbrev pub invariant-loop-at : goal.invariant-loop-at
invariant-loop-at g l = record {
  decoded : HasDecoded l.text l.at (g.K.Sink.seen l.fn.out).told l.fn.outlet.kept.items (g.K.Sink.seen l.out).told l.outlet.kept.items;
  quiet : (g.K.Sink.seen l.out).faults ≡ (g.K.Sink.seen l.fn.out).faults;
  room : length l.bytes ≡ length l.fn.bytes;
}

abbrev pub decreases-loop-at : goal.decreases-loop-at
decreases-loop-at g l = length l.text - l.at
