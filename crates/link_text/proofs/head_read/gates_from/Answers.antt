use Rattle.std.proofs.Common.{arith, inr, length, map, ◌<◌}
use Rattle.std.proofs.lemmas.List.{map-append, length-map}
use Rattle.link_node.specs.Config.{gate_value}
use Rattle.std.proofs.lemmas.Bool.Decides.{nat_tests}
use Rattle.link_text.proofs.PlaceLemmas.{counting_end}
use Rattle.link_text.proofs.HeadLemmas.{lacks_gate_end, gates_more}
use Rattle.link_text.proofs.head_read.gates_from.Goals as goal
use Rattle.link_text.proofs.head_read.gates_from.Goals.{then-loop-place-test+else-not-is_full, else-loop-place-test}

pub returns-clause-all : goal.returns-clause-all
returns-clause-all c =
    elim c.loop-place-test.branch [
      | then-loop-place-test+else-not-is_full w ↦ inr (grind (arith, nat_tests))
      | else-loop-place-test w ↦ lacks_gate_end (length c.loop-place.gates.items) _ (counting_end c.args.text.now c.loop-place.place.at (omega (arith, w.loop-place-test)))
    ]

pub loop-place-preserved : goal.loop-place-preserved
loop-place-preserved c =
    let room : length c.loop-place.gates.items < 4 = grind (arith, nat_tests) in
    let mapped : length (map gate_value c.loop-place.gates.items) < 4 = omega (arith, length-map c.loop-place.gates.items gate_value) in
    record {
      ahead = c.destinations_from-peers.ensures.ahead;
      gates =
          rw (c.push.ensures.items, map-append gate_value c.loop-place.gates.items)
          (gates_more _ _ _ _ _ _ _ c.loop-place.invariant.gates c.line_from.ensures.line.counting c.in-Some.ensures.some.0 c.in-Some.ensures.some.1
          mapped c.destinations_from-peers.ensures.destinations c.destinations_from-peers.ensures.all);
    }

pub loop-place-smaller : goal.loop-place-smaller
loop-place-smaller c = omega (arith, c.line_from.ensures.line.further, c.destinations_from-peers.ensures.further, c.destinations_from-peers.ensures.ahead.within)
