use Rattle.std.proofs.Common.{length, ap, arith}
use Rattle.std.proofs.lemmas.List.{take_rest}
use Rattle.drum_machine.proofs.WordLemmas.{four_parts, none_by_parts}
use Rattle.drum_machine.proofs.words.read_words.Goals as goal

pub returns-in_err-setup-clause-none : goal.returns-in_err-setup-clause-none
returns-in_err-setup-clause-none c =
    let words = c.args.words.now in
    let parts = four_parts words c.index-words-0.result c.index-words-1.result c.index-words-2.result (omega (arith, c.if-words-lt3.false))
    c.index-words-0.is c.index-words-1.is c.index-words-2.is in
    rw c.from_residual.ensures (
      λ none. absurd (omega (arith, c.if-words-lt3.false, ap length none)),
      none_by_parts words _ _ _ _ c.index-words-0.result c.index-words-1.result c.index-words-2.result parts c.as_str.ensures.value c.as_str-2.ensures.value c.as_str-3.ensures.value (take_rest words 3) c.in_err-setup.ensures.none,
    )
