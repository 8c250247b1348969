use Rattle.std.proofs.Common.{All, List, arith, subst, sym}
use Rattle.std.proofs.lemmas.List.Elements.{All-nil, All-push}
use Rattle.link_clients.specs.Unused.{IsUnused}
use Rattle.link_clients.specs.declared.seat.Seat.{Seat}
use Rattle.link_clients.proofs.hall.free_seats.Goals as goal

pub loop-init : goal.loop-init
loop-init c = record {
  count = c.in_ok-seats.ensures.len;
  room = c.in_ok-seats.ensures.capacity;
  free = subst (λ (l : List Seat). All IsUnused l) (sym c.in_ok-seats.ensures.items) (All-nil IsUnused);
}

pub push_reserved-requires : goal.push_reserved-requires
push_reserved-requires c = omega (arith, c.loop.invariant.count, c.loop.invariant.room, c.loop-test.true)

pub loop-preserved : goal.loop-preserved
loop-preserved c = record {
  count = omega (arith, c.push_reserved.ensures.len, c.loop.invariant.count);
  room = omega (arith, c.push_reserved.ensures.capacity, c.loop.invariant.room);
  free = subst (λ (l : List Seat). All IsUnused l) (sym c.push_reserved.ensures.items)
      (All-push IsUnused c.loop.seats.items c.free.result c.loop.invariant.free (c.free.ensures.flags, c.free.ensures.line, c.free.ensures.told));
}

pub returns-clause-count : goal.returns-clause-count
returns-clause-count c = omega (arith, c.loop.invariant.count, c.loop-test.false, c.loop.auto.counter-end)

pub returns-clause-free : goal.returns-clause-free
returns-clause-free c = c.loop.invariant.free
