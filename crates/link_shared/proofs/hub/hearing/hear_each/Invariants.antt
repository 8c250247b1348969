use Rattle.std.proofs.Common.{◌≡◌, true, All, length}
use Rattle.crossbeam_queue.specs.Passes.{view, IsSamePass}
use Rattle.link_shared.specs.Handed.{IsOf, WasTold}
use Rattle.link_shared.proofs.hub.hearing.hear_each.Given as goal

-- where all passes that are left are heard, all are
abbrev pub invariant-loop-pass : goal.invariant-loop-pass
invariant-loop-pass g l = record {
  own : IsSamePass l.initial.own l.own;
  pushed : ((view l.own).pushes ≡ true) × ((view l.own).pushed ≡ (view l.initial.own).pushed);
  reader : ((g.C.StateCell.reading l.reader).cell ≡ g.N.LinkName.app_states) × ((g.C.StateCell.reading l.reader).seen ≡ (g.C.StateCell.reading l.initial.reader).seen);
  handed : All (IsOf g.N.LinkName.app_states g.N.LinkName.queue) l.handed.items;
  told : All (WasTold (g.C.StateCell.reading l.initial.reader).seen (view l.initial.own).pushed) l.handed.items
      → All (WasTold (g.C.StateCell.reading l.initial.reader).seen (view l.initial.own).pushed) l.initial.handed.items;
}

abbrev pub decreases-loop-pass : goal.decreases-loop-pass
decreases-loop-pass g l = length l.handed.items
