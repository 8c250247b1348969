use Rattle.std.proofs.Common.{◌≡◌, ◌+◌, ◌<◌, length, map, codes, sym, ap, ◌∙◌, arith, Some}
use Rattle.std.specs.List.{slice_get}
use Rattle.std.specs.String.{string_bytes}
use Rattle.std.proofs.lemmas.Grind.{common_steps}
use Rattle.std.proofs.lemmas.List.{length-map, length_push}
use Rattle.std.proofs.lemmas.List.Elements.{All-push, All-same}
use Rattle.std.proofs.lemmas.Option.{none-some, slice_get_past, slice_get_within}
use Rattle.lk_base.specs.Endpoint.{IsEndpoint}
use Rattle.session_server.specs.Words.{gate_parts_of, part}
use Rattle.session_server.proofs.GateLemmas.{one_more_to, too_many_tos}
use Rattle.session_server.proofs.WordLemmas.{named_fit}
use Rattle.session_server.proofs.gates.destinations_from.Goals as goal
use Rattle.session_server.proofs.gates.destinations_from.Goals.{In-Some}

-- the part that is next, counted from the start
here : (c : In-Some) → slice_get (gate_parts_of (map string_bytes c.args.words.now)) (c.args.start + length c.loop-given.peers.items)
    ≡ Some (part c.in-Some.given.name.now c.in-Some.given.text.now)
here c = ap (slice_get (gate_parts_of (map string_bytes c.args.words.now))) (sym c.loop-given.invariant.3) ∙ c.in-Some.ensures.some

pub loop-given-preserved : goal.loop-given-preserved
loop-given-preserved c =
    let parts = gate_parts_of (map string_bytes c.args.words.now) in
    let pushed : length c.push.new.self.items ≡ length c.loop-given.peers.items + 1 =
    ap length c.push.ensures.items ∙ length_push c.loop-given.peers.items c.in-Some-endpoint_of.to in
    let inside : c.loop-given.number < length parts = slice_get_within parts _ _ c.in-Some.ensures.some in (
      rw pushed
          (one_more_to parts c.in-Some.given.name.now c.in-Some.given.text.now _ _ c.in-Some-endpoint_of.to c.args.start _
          (here (goal.at.loop-given-preserved c).In-Some)
          c.in-Some.ensures.named (sym c.eq.ensures ∙ c.if-eq.false) (sym c.as_bytes.ensures.value ∙ c.in-Some-endpoint_of.ensures.some.1)
          c.push.ensures.items c.loop-given.invariant.0),
      All-same IsEndpoint _ _ c.push.ensures.items (All-push IsEndpoint _ _ c.loop-given.invariant.1 c.in-Some-endpoint_of.ensures.some.0),
      grind (arith, common_steps, pushed),
      omega (arith, pushed, c.loop-given.invariant.3),
      omega (arith, inside),
    )

pub returns-then-is_full-clause-fault : goal.returns-then-is_full-clause-fault
returns-then-is_full-clause-fault c =
    let parts = gate_parts_of (map string_bytes c.args.words.now) in
    let full : length c.loop-given.peers.items ≡ 32 = grind (arith, common_steps) in
    let many = too_many_tos parts _ c.loop-given.peers.items c.args.start (here (goal.at.returns-then-is_full-clause-fault c).In-Some) full
    (sym c.eq.ensures ∙ c.if-eq.false) c.loop-given.invariant.0 in
    (c.args.start, many.0, many.1)

pub overflow_add-number : goal.overflow_add-number
overflow_add-number c =
    omega (
      arith,
      slice_get_within (gate_parts_of (map string_bytes c.args.words.now)) _ _ c.in-Some.ensures.some,
      named_fit (codes "--gate") (codes "--to") (map string_bytes c.args.words.now),
      length-map c.args.words.now string_bytes,
    )

pub returns-clause-stops : goal.returns-clause-stops
returns-clause-stops c = λ given there.
    absurd (none-some given
    (sym (slice_get_past (gate_parts_of (map string_bytes c.args.words.now)) c.loop-given.number c.in_default.ensures.none)
    ∙ ap (slice_get (gate_parts_of (map string_bytes c.args.words.now))) c.loop-given.invariant.3 ∙ there))
