use Rattle.std.proofs.Common.{None, arith}
use Rattle.peer_gateway.proofs.CountLemmas.{counted_few}
use Rattle.peer_gateway.proofs.peers.counts.kept_count.Goals as goal

pub overflow_add-result : goal.overflow_add-result
overflow_add-result c =
    let few = counted_few c.args.session.now None c.args.rows.now.items in
    let one = rw c.in-Some-Some.is-0 at c.requires.one in
    let known = rw (c.in-Some-Some.is-0, c.in-Some-Some.is-1) at c.requires.known in
    omega arith
