use Rattle.std.proofs.Common.{rules}
use Rattle.link_text.specs.PairLine.{IsPairLine}
use Rattle.link_commands.proofs.FilterLemmas.{accepts}
use Rattle.link_commands.proofs.filter.put_answer.Goals as goal

pub returns-in-Ok-clause-accepted : goal.returns-in-Ok-clause-accepted
returns-in-Ok-clause-accepted c =
    let says : IsPairLine c.args.words.now c.unwrap-sample.result.0 c.unwrap-sample.result.1 = rw c.unwrap-sample.ensures at c.pair_of.ensures.some in
    accepts c.the_last_of_the_last.ensures c.args.words.now c.put_host.new.line.items c.unwrap-sample.result.0 c.unwrap-sample.result.1 c.in-Ok.filtered
    _ _ _ c.args.filter.now c.add.new.self says c.in-Ok.ensures.answer c.in-Ok.ensures.kept c.in-Ok.ensures.filtered c.put_host.ensures (search rules) (search rules) (search rules)
