use Rattle.std.proofs.Common.{◌≡◌, false, [], ◌∷◌, ◌++◌, ◌+◌, length, map, codes, sym, ap, ◌∙◌, arith}
use Rattle.std.specs.String.{string_bytes}
use Rattle.std.proofs.lemmas.Grind.{common_steps}
use Rattle.std.proofs.lemmas.List.{length-map, map_push}
use Rattle.std.proofs.lemmas.Option.{slice_get_within}
use Rattle.std.specs.Str.{bytes_eq}
use Rattle.link_node.specs.Config.{GateValue, gate_value}
use Rattle.session_server.specs.Words.{SaysGates, gate_parts_of, part}
use Rattle.session_server.proofs.GateLemmas.{fit_behind, none_said, one_more_gate, some_said, stray, too_many_gates}
use Rattle.session_server.proofs.WordLemmas.{named_fit}
use Rattle.session_server.proofs.gates.gates_of.Goals as goal
use Rattle.session_server.proofs.gates.gates_of.Goals.{then-is_empty, else-is_empty}

pub loop-given-preserved : goal.loop-given-preserved
loop-given-preserved c =
    let parts = gate_parts_of (map string_bytes c.args.words.now) in
    let peers = c.in_ok-peers.ensures in
    let gate = gate_value (record { local = c.in-Some-endpoint_of.local; peers = c.in_ok-peers.peers }) in
    let behind : c.loop-given.number + (1 + c.len.result) ≡ c.loop-given.number + 1 + length c.in_ok-peers.peers.items =
    grind (arith, common_steps, c.len.ensures.value) in
    rw (c.push.ensures.items, map_push gate_value c.loop-given.gates.items, behind)
    (one_more_gate parts c.in-Some.given.name.now c.in-Some.given.text.now (map gate_value c.loop-given.gates.items) gate c.loop-given.number
    c.loop-given.invariant c.in-Some.ensures.some (grind (arith, common_steps, c.ne.ensures, c.if-ne.false))
    (sym c.as_bytes.ensures.value ∙ c.in-Some-endpoint_of.ensures.some.1)
    (record { local = c.in-Some-endpoint_of.ensures.some.0; few = peers.each.1; destinations = peers.each.0 })
    peers.says peers.stops)

pub returns-then-ne-clause-fault : goal.returns-then-ne-clause-fault
returns-then-ne-clause-fault c =
    let other : bytes_eq c.in-Some.given.name.now (codes "--gate") ≡ false = grind (arith, common_steps, c.ne.ensures, c.if-ne.true) in (
      part c.in-Some.given.name.now c.in-Some.given.text.now,
      stray (gate_parts_of (map string_bytes c.args.words.now)) _ _ _ c.loop-given.invariant c.in-Some.ensures.some other,
      other,
    )

pub returns-then-is_full-clause-fault : goal.returns-then-is_full-clause-fault
returns-then-is_full-clause-fault c =
    let full : length c.loop-given.gates.items ≡ 4 = grind (arith, common_steps) in
    too_many_gates (gate_parts_of (map string_bytes c.args.words.now)) _ _ _ c.loop-given.invariant c.in-Some.ensures.some
    (grind (arith, common_steps, c.ne.ensures, c.if-ne.false)) (length-map c.loop-given.gates.items gate_value ∙ full)

pub overflow_add-number : goal.overflow_add-number
overflow_add-number c =
    omega (
      arith,
      slice_get_within (gate_parts_of (map string_bytes c.args.words.now)) _ _ c.in-Some.ensures.some,
      named_fit (codes "--gate") (codes "--to") (map string_bytes c.args.words.now),
      length-map c.args.words.now string_bytes,
    )

pub destinations_from-requires : goal.destinations_from-requires
destinations_from-requires c =
    omega (arith, slice_get_within (gate_parts_of (map string_bytes c.args.words.now)) _ _ c.in-Some.ensures.some)

pub returns-clause-says : goal.returns-clause-says
returns-clause-says c =
    let words = map string_bytes c.args.words.now in
    let past = c.in_default.ensures.none in
    elim c.if-is_empty.branch as (λ _. SaysGates words (map gate_value c.if-is_empty.gates.items)) [
      | then-is_empty w ↦
          none_said words (map gate_value c.loop-given.gates.items) _ _ c.loop-given.invariant past
          (grind (arith, common_steps, length-map c.loop-given.gates.items gate_value, w.if-is_empty.true, c.is_empty.ensures))
          (rw (w.gates-is, w.push-then-is_empty.ensures.items, map_push gate_value c.loop-given.gates.items) (ap (λ (g : GateValue). map gate_value c.loop-given.gates.items ++ g ∷ []) w.own_gate.ensures))
      | else-is_empty w ↦
          rw w.gates-is
          (some_said words (map gate_value c.loop-given.gates.items) _ c.loop-given.invariant past
          (grind (arith, common_steps, length-map c.loop-given.gates.items gate_value, w.if-is_empty.false, c.is_empty.ensures)))
    ]

pub overflow_add-number-in-Some-2 : goal.overflow_add-number-in-Some-2
overflow_add-number-in-Some-2 c =
    grind (
      arith,
      fit_behind (gate_parts_of (map string_bytes c.args.words.now)) c.in_ok-peers.peers.items (c.loop-given.number + 1)
          (omega (arith, slice_get_within (gate_parts_of (map string_bytes c.args.words.now)) _ _ c.in-Some.ensures.some)) c.in_ok-peers.ensures.says,
      named_fit (codes "--gate") (codes "--to") (map string_bytes c.args.words.now),
      length-map c.args.words.now string_bytes,
      c.len.ensures.value,
    )

pub loop-given-smaller : goal.loop-given-smaller
loop-given-smaller c =
    grind (
      arith,
      fit_behind (gate_parts_of (map string_bytes c.args.words.now)) c.in_ok-peers.peers.items (c.loop-given.number + 1)
          (omega (arith, slice_get_within (gate_parts_of (map string_bytes c.args.words.now)) _ _ c.in-Some.ensures.some)) c.in_ok-peers.ensures.says,
      c.len.ensures.value,
    )
