use Rattle.std.proofs.Common.{◌^◌, refl}
use Rattle.link_words.proofs.option_words.quantum.Goals as goal

pub returns-clause-rule : goal.returns-clause-rule
returns-clause-rule c = c.option.ensures.rule 0 (2 ^ 40) (c.within.ensures 0 (2 ^ 40) refl refl)

pub returns-clause-kept : goal.returns-clause-kept
returns-clause-kept c = c.option.ensures.kept 0 (2 ^ 40) (c.within.ensures 0 (2 ^ 40) refl refl)
