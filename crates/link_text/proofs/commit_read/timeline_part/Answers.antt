use Rattle.std.proofs.Common.{refl}
use Rattle.link_text.proofs.CommitLemmas.{behind_timeline, no_timeline}
use Rattle.link_text.proofs.commit_read.timeline_part.Goals as goal

pub returns-in_default-timeline_in-clause-none : goal.returns-in_default-timeline_in-clause-none
returns-in_default-timeline_in-clause-none c =
    no_timeline _ _ _ c.in-Some.ensures.some (c.is_word.ensures.0 c.if-not-is_word.false) c.in_default-timeline_in.ensures.none

pub returns-clause-follows : goal.returns-clause-follows
returns-clause-follows c = λ tl start quantum same.
    behind_timeline _ _ _ c.in-Some-timeline_in.timeline tl start quantum (cc (c.in-Some.ensures.some, c.is_word.ensures.0 c.if-not-is_word.false, c.in-Some-timeline_in.ensures.some.1)) same refl
