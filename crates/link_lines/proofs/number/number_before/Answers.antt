use Rattle.std.proofs.Common.{arith}
use Rattle.std.specs.Fmt.{decimal}
use Rattle.link_lines.proofs.WordLemmas.{not_cut, cut_as}
use Rattle.link_lines.proofs.NumberLemmas.{decimal_lacks}
use Rattle.link_lines.proofs.number.number_before.Goals as goal

pub returns-in_default-clause-none : goal.returns-in_default-clause-none
returns-in_default-clause-none c = λ n rest low e.
    not_cut c.args.bytes.now (decimal n) rest c.args.end c.in_default.ensures.none e

pub returns-in_default-number_of-clause-none : goal.returns-in_default-number_of-clause-none
returns-in_default-number_of-clause-none c = λ n rest low e.
    let cut = c.in-Some.ensures.some in
    let same = cut_as c.args.bytes.now c.in-Some.word.now (decimal n) c.in-Some.rest.now rest c.args.end cut.0 cut.1 (decimal_lacks n c.args.end (omega arith) c.requires) e in
    c.in_default-number_of.ensures.none n low same.0
