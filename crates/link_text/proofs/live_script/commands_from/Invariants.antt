use Rattle.std.proofs.Common.{◌+◌, ◌-◌, ◌≤◌, length, vec_len, vec_capacity}
use Rattle.link_text.specs.Places.{IsAhead, counting_from}
use Rattle.link_text.specs.LiveParts.{HasCommands, lines_told}
use Rattle.link_text.proofs.live_script.commands_from.Given as goal

abbrev pub invariant-loop-place : goal.invariant-loop-place
invariant-loop-place l = record {
  ahead : IsAhead l.text l.place;
  commands : HasCommands (counting_from l.text l.fn.start.at) l.apps.items l.blocks.items (counting_from l.text l.place.at);
  room_for_apps : vec_len l.apps + lines_told (counting_from l.text l.place.at) ≤ vec_capacity l.apps;
  room_for_blocks : vec_len l.blocks + lines_told (counting_from l.text l.place.at) ≤ vec_capacity l.blocks;
}

abbrev pub decreases-loop-place : goal.decreases-loop-place
decreases-loop-place l = length l.text - l.place.at
