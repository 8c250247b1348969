use Rattle.std.proofs.Common.{arith, length, get_or}
use Rattle.link_lines.proofs.NumberLemmas.{is_decimal, decimal_parts, not_padded}
use Rattle.link_lines.proofs.number.number_of.Goals as goal

pub returns-in_default-clause-none : goal.returns-in_default-clause-none
returns-in_default-clause-none c = λ n low e.
    let d = decimal_parts c.args.word.now n (omega arith) e in
    omega (arith, c.in_default.ensures.none d.some d.digits, d.value)

pub returns-then-has_leading_zero-clause-none : goal.returns-then-has_leading_zero-clause-none
returns-then-has_leading_zero-clause-none c = λ n low e.
    let d = decimal_parts c.args.word.now n (omega arith) e in
    let zero_first = c.has_leading_zero.ensures.0 c.if-has_leading_zero.true in
    omega (arith, d.plain zero_first.0, zero_first.1)

pub returns-then-value-limit-clause-none : goal.returns-then-value-limit-clause-none
returns-then-value-limit-clause-none c = λ n low e.
    let d = decimal_parts c.args.word.now n (omega arith) e in
    omega (arith, d.value, c.in-Some.ensures.some)

pub returns-clause-some : goal.returns-clause-some
returns-clause-some c =
    let ds = c.args.word.now in
    let found = c.in-Some.ensures.some in
    let plain = not_padded (get_or ds 0 0) (length ds) c.has_leading_zero.result c.if-has_leading_zero.false c.has_leading_zero.ensures.1 found.0 in
    (c.if-value-limit.false, is_decimal ds c.in-Some.value (omega arith) found.0 found.1 found.2 plain)
