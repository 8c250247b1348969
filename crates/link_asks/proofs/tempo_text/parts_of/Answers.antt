use Rattle.std.proofs.Common.{◌≡◌, ◌<◌, ◌+◌, ◌*◌, ◌∙◌, sym, ap, subst, arith, take, length}
use Rattle.std.specs.Str.Parse.{AllDigits, digits_value}
use Rattle.std.proofs.lemmas.Bool.Decides.{nat_tests}
use Rattle.std.proofs.lemmas.Int.Digits.{digits_more, digits_value_more}
use Rattle.std.proofs.lemmas.List.{length-take, take_all}
use Rattle.link_lines.proofs.NumberLemmas.{digit_below}
use Rattle.link_asks.proofs.TempoLemmas.{parts_some, value_small}
use Rattle.link_asks.proofs.tempo_text.parts_of.Goals as goal

pub returns-in_default-clause-none : goal.returns-in_default-clause-none
returns-in_default-clause-none c = λ numeral few.
    omega (arith, c.in_default.ensures.none, digit_below c.args.places.now c.loop-byte.byte-index numeral.1 (omega arith))

pub loop-byte-preserved : goal.loop-byte-preserved
loop-byte-preserved c =
    let i = c.loop-byte.byte-index in
    let ds = c.args.places.now in
    let digits : AllDigits 10 (take (i + 1) ds) =
    digits_more 10 ds i (omega arith) c.loop-byte.invariant.digits (omega (arith, c.in-Some.ensures.some)) in
    let value : digits_value 10 (take (i + 1) ds) ≡ c.loop-byte.value * 10 + c.in-Some.digit =
    omega (arith, digits_value_more 10 ds i (omega arith), c.in-Some.ensures.some) in record {
      digits = digits;
      value = value;
      small = omega (arith, value_small (take (i + 1) ds) digits (omega (arith, length-take (i + 1) ds)));
    }

pub returns-clause-some : goal.returns-clause-some
returns-clause-some c =
    let ds = c.args.places.now in
    let some : 0 < length ds = grind (arith, nat_tests) in
    let all : take c.loop-byte.byte-index ds ≡ ds = take_all _ _ (omega arith) in
    parts_some ds c.loop-byte.value c.weight_of.result some c.if-places-gt6.false
    (subst (AllDigits 10) all c.loop-byte.invariant.digits) (ap (digits_value 10) (sym all) ∙ c.loop-byte.invariant.value) c.weight_of.ensures
