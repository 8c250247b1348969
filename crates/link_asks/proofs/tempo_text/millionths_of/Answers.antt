use Rattle.std.proofs.Common.{◌∷◌, ◌++◌, ◌+◌, ◌*◌, ◌<◌, ℕ, List, ap, ◌∙◌, inr, arith}
use Rattle.link_asks.specs.TempoText.{SaysMillionths}
use Rattle.link_asks.proofs.TempoLemmas.{millionths_one, no_number, no_places, sole_said, whole_only}
use Rattle.link_asks.proofs.tempo_text.millionths_of.Goals as goal

pub returns-in_default-clause-none : goal.returns-in_default-clause-none
returns-in_default-clause-none c = whole_only c.args.most c.args.word.now c.whole_of.result c.in_default.ensures.none c.whole_of.ensures.none

pub returns-in_default-number_of-clause-none : goal.returns-in_default-number_of-clause-none
returns-in_default-number_of-clause-none c =
    let cut = c.in-Some.ensures.some in
    no_number c.args.most c.args.word.now c.in-Some.whole.now c.in-Some.places.now c.requires.few cut.0 cut.1 c.in_default-number_of.ensures.none

pub returns-in_default-parts_of-clause-none : goal.returns-in_default-parts_of-clause-none
returns-in_default-parts_of-clause-none c =
    let cut = c.in-Some.ensures.some in
    no_places c.args.most c.args.word.now c.in-Some.whole.now c.in-Some.places.now c.requires.few cut.0 cut.1 c.in_default-parts_of.ensures.none

pub returns-in_default-clause-sole : goal.returns-in_default-clause-sole
returns-in_default-clause-sole c = sole_said c.args.most c.args.word.now c.whole_of.result c.requires.few c.whole_of.ensures.some

pub returns-clause-sole : goal.returns-clause-sole
returns-clause-sole c = λ m small says.
    let cut = c.in-Some.ensures.some in
    let number = c.in-Some-number_of.ensures.some in
    let parts = c.in-Some-parts_of.ensures.some in
    let whole = c.in-Some-number_of.whole in
    let n = whole * 1_000_000 + c.in-Some-parts_of.parts in
    let fits : n < (c.args.most + 1) * 1_000_000 = omega (arith, number.0, parts.3) in
    let said : SaysMillionths c.args.word.now n =
    inr (
      whole,
      c.in-Some.places.now,
      cut.0 ∙ ap (λ (l : List ℕ). l ++ 46 ∷ c.in-Some.places.now) number.1,
      parts.0,
      parts.1,
      ap (λ (p : ℕ). whole * 1_000_000 + p) parts.2,
    ) in
    millionths_one c.args.most c.args.word.now m n c.requires.few small fits says said
