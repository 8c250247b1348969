use Rattle.std.proofs.Common.{◌≡◌}
use Rattle.link_payload.specs.Items.{items_at, items_left_of}
use Rattle.link_payload.specs.Last.{HaveSizes, last_bytes_of}
use Rattle.link_payload.proofs.LastLemmas.{walked, no_bytes}
use Rattle.link_payload.proofs.last.last_values.Given as goal

abbrev pub invariant-loop-item : goal.invariant-loop-item
invariant-loop-item l = record {
  sizes : HaveSizes l.keys (last_bytes_of l.last);
  answer : walked l.keys (last_bytes_of l.last) (items_left_of l.item-iterator) ≡ walked l.keys no_bytes (items_at 0 l.payload);
}
