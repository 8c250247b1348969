use Rattle.std.proofs.Common.{arith}
use Rattle.std.proofs.lemmas.Int.Digits.{digits_more, digits_value_more}
use Rattle.link_lines.proofs.NumberLemmas.{digit_below, too_many}
use Rattle.link_lines.proofs.number.value_of.Goals as goal

pub returns-in_default-clause-none : goal.returns-in_default-clause-none
returns-in_default-clause-none c = λ some digits.
    let i = c.loop-digit.digit-index in
    let ds = c.args.word.now in
    too_many ds i c.loop-digit.value (omega arith) c.loop-digit.invariant.value
    (c.in_default.ensures.none (digit_below ds i digits (omega arith)))

pub loop-digit-preserved : goal.loop-digit-preserved
loop-digit-preserved c =
    let i = c.loop-digit.digit-index in
    let ds = c.args.word.now in record {
      digits = digits_more 10 ds i (omega arith) c.loop-digit.invariant.digits c.in-Some.ensures.some.0;
      value = omega (arith, digits_value_more 10 ds i (omega arith), c.in-Some.ensures.some);
    }
