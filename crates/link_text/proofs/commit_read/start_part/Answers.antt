use Rattle.link_text.proofs.CommitLemmas.{behind_start, no_start}
use Rattle.link_text.proofs.commit_read.start_part.Goals as goal

pub returns-in_default-start_in-clause-none : goal.returns-in_default-start_in-clause-none
returns-in_default-start_in-clause-none c =
    no_start _ _ _ c.in-Some.ensures.some (c.is_word.ensures.0 c.if-not-is_word.false) c.in_default-start_in.ensures.none

pub returns-clause-follows : goal.returns-clause-follows
returns-clause-follows c = λ start quantum same.
    behind_start _ _ c.in-Some-start_in.start start quantum (cc (c.in-Some.ensures.some, c.is_word.ensures.0 c.if-not-is_word.false, c.in-Some-start_in.ensures.some.1)) same
