use Rattle.std.proofs.Common.{◌≡◌, take}
use Rattle.triple_buffer.specs.declared.views.View.TheVariants.{Writes}
use Rattle.triple_buffer.specs.Views.{writer_in, after_stores}
use Rattle.triple_buffer.proofs.triple.Triple.store.Given as goal

abbrev pub invariant-loop-i : goal.invariant-loop-i
invariant-loop-i g l = record {
  table : l.seat.table_id ≡ l.initial.seat.table_id;
  bare : l.seat.me.1 ≡ l.initial.seat.me.1;
  view : l.seat.me.0 ≡ Writes (after_stores (writer_in l.initial.seat.me.0) (take l.i l.row) l.i);
}
