use Rattle.std.proofs.Common.{◌<◌, ◌^◌, ◌∙◌, w64, arith}
use Rattle.std.proofs.lemmas.Int.{to_z-of_z}
use Rattle.link_words.proofs.CommandWordLemmas.{all_of_range, narrowed}
use Rattle.link_words.proofs.command_words.within.Goals as goal

pub returns : goal.returns
returns c = λ a b least most.
    let start = to_z-of_z w64 c.args.least c.ranges.least ∙ least in
    let end = to_z-of_z w64 c.args.most c.ranges.most ∙ most in
    let low : a < 2 ^ 63 = rw least at c.ranges.least.sfits in
    let high : b < 2 ^ 63 = rw most at c.ranges.most.sfits in
    narrowed _ _ _ _ a b c.value_parser.ensures c.range.ensures (c.new.ensures.start ∙ start) (c.new.ensures.end ∙ end)
    ∙ all_of_range a b (omega (arith, low)) (omega (arith, high))
