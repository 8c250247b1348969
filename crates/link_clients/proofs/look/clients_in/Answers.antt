use Rattle.std.proofs.Common.{arith}
use Rattle.link_clients.proofs.HeresLemmas.{heres_all, heres_more, heres_none, one_at_most, one_is}
use Rattle.link_clients.proofs.look.clients_in.Goals as goal

pub loop-seat-init : goal.loop-seat-init
loop-seat-init c = record { counted = heres_none c.args.seats.now; few = omega arith }

pub loop-seat-preserved : goal.loop-seat-preserved
loop-seat-preserved c = record {
  counted = heres_more c.args.seats.now c.loop-seat.seat-index c.seat-item.result _ _ c.loop-seat-test.true c.loop-seat.invariant.counted (one_is c.args.seats.now c.loop-seat.seat-index _ _ _ c.seat-item.is c.with_one-count.ensures);
  few = one_at_most _ _ _ _ c.loop-seat.invariant.few c.with_one-count.ensures;
}

pub returns : goal.returns
returns c = heres_all c.args.seats.now c.loop-seat.seat-index _ c.loop-seat-test.false c.loop-seat.invariant.counted
