-- What is written and the lines of the clicks from `at` on are the lines of all, and each line has at most 35 bytes.
use Rattle.std.proofs.Common.{◌≡◌, ◌≤◌, ◌-◌, ◌*◌, ◌++◌, length, drop}
use Rattle.link_adapters.specs.Adapters.{click_lines_of}
use Rattle.link_adapters.proofs.click_audio.put_clicks.Given as goal

abbrev pub invariant-loop-at : goal.invariant-loop-at
invariant-loop-at l = record {
  lines : l.lines.items ++ click_lines_of (drop l.at l.clicks.items) ≡ click_lines_of l.clicks.items;
  room : length l.lines.items ≤ 35 * l.at;
  within : l.at ≤ length l.clicks.items;
}

abbrev pub decreases-loop-at : goal.decreases-loop-at
decreases-loop-at l = length l.clicks.items - l.at
