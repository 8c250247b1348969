use Rattle.std.proofs.Common.{refl}
use Rattle.link_words.proofs.option_words.events.Goals as goal

pub returns-clause-rule : goal.returns-clause-rule
returns-clause-rule c = c.option.ensures.rule 1 524_288 (c.within.ensures 1 524_288 refl refl)

pub returns-clause-kept : goal.returns-clause-kept
returns-clause-kept c = c.option.ensures.kept 1 524_288 (c.within.ensures 1 524_288 refl refl)
