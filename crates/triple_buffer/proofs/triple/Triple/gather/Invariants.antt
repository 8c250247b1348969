use Rattle.std.proofs.Common.{◌≡◌, take, length}
use Rattle.triple_buffer.specs.declared.views.View.TheVariants.{Reads}
use Rattle.triple_buffer.specs.Views.{reader_in, after_loads}
use Rattle.triple_buffer.proofs.triple.Triple.gather.Given as goal

abbrev pub invariant-loop-i : goal.invariant-loop-i
invariant-loop-i g l = record {
  table : l.seat.table_id ≡ l.initial.seat.table_id;
  bare : l.seat.me.1 ≡ l.initial.seat.me.1;
  long : length l.row ≡ g.row.W;
  view : l.seat.me.0 ≡ Reads (after_loads (reader_in l.initial.seat.me.0) (take l.i l.row) l.i);
}
