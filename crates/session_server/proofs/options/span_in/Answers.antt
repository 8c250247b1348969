use Rattle.std.proofs.Common.{◌≡◌, [], ◌∷◌, map, codes, inl, inr, rules}
use Rattle.session_server.specs.Words.{part, parts_with}
use Rattle.std.specs.String.{string_bytes}
use Rattle.session_server.proofs.HourLemmas.{no_hours, wrong_hours}
use Rattle.session_server.proofs.options.span_in.Goals as goal
use Rattle.session_server.proofs.options.span_in.Goals.{then-millionths-eq0-via-then-millionths-eq0, then-millionths-eq0-via-else-millionths-eq0+then-millionths}

pub returns-in_default-millionths_of-clause-fault : goal.returns-in_default-millionths_of-clause-fault
returns-in_default-millionths_of-clause-fault c =
    let one : parts_with (codes "--hours") (map string_bytes c.args.words.now) ≡ part c.in-Some.given.name.now c.in-Some.given.text.now ∷ [] = search rules in
    no_hours (map string_bytes c.args.words.now) _ one (rw c.as_bytes.ensures.value at c.in_default-millionths_of.ensures.none)

pub returns-then-millionths-eq0-clause-fault : goal.returns-then-millionths-eq0-clause-fault
returns-then-millionths-eq0-clause-fault c =
    let one : parts_with (codes "--hours") (map string_bytes c.args.words.now) ≡ part c.in-Some.given.name.now c.in-Some.given.text.now ∷ [] = search rules in
    wrong_hours (map string_bytes c.args.words.now) _ c.in-Some-millionths_of.millionths one
    (rw c.as_bytes.ensures.value at c.in-Some-millionths_of.ensures.sole)
    (elim c.then-millionths-eq0.branch [
      | then-millionths-eq0-via-then-millionths-eq0 w ↦ inl w.if-millionths-eq0.true
      | then-millionths-eq0-via-else-millionths-eq0+then-millionths w ↦ inr w.if-millionths.true
    ])
