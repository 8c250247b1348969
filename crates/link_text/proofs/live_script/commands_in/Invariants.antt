use Rattle.std.proofs.Common.{◌≡◌, ◌+◌, ◌-◌, ◌≤◌, length, drop}
use Rattle.link_lines.specs.Lines.{lines_of}
use Rattle.link_script.specs.LiveScript.{commands_told}
use Rattle.link_text.specs.LiveParts.{lines_told}
use Rattle.link_text.proofs.live_script.commands_in.Given as goal

abbrev pub invariant-loop-at : goal.invariant-loop-at
invariant-loop-at l = record {
  told : commands_told l.text ≡ l.count + lines_told (lines_of (drop l.at l.text));
  few : l.count ≤ l.at;
  within : l.at ≤ length l.text;
}

abbrev pub decreases-loop-at : goal.decreases-loop-at
decreases-loop-at l = length l.text - l.at
