use Rattle.std.proofs.Common.{◌≡◌, ◌≤◌, ◌+◌, ◌-◌, vec_len}
use Rattle.lk_outside.specs.Source.{Takes}
use Rattle.lk_outside.proofs.transfer.read_all.Given as goal

abbrev pub invariant-loop-source : goal.invariant-loop-source
invariant-loop-source g l = record {
  room : vec_len l.piece ≡ 65_536;
  few : vec_len l.bytes ≤ l.limit + 65_536;
  taken : Takes (g.S.Source.seen l.initial.source).told l.bytes.items (g.S.Source.seen l.source).told;
  faults : (g.S.Source.seen l.source).faults ≡ (g.S.Source.seen l.initial.source).faults;
}

abbrev pub decreases-loop-source : goal.decreases-loop-source
decreases-loop-source g l = l.limit + 1 - vec_len l.bytes
