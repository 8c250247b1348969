use Rattle.std.proofs.Common.{◌∙◌, arith}
use Rattle.link_shared.proofs.HearingLemmas.{told_more, handed_before, last_handed, fewer_left}
use Rattle.link_shared.proofs.hub.hearing.hear_each.Goals as goal

pub hear-requires-clause-queue : goal.hear-requires-clause-queue
hear-requires-clause-queue g c =
    let same = c.loop-pass.invariant.own in
    λ κs lives. (c.requires.queue.0, (same.0 ∙ c.requires.queue.1.0, same.2 ∙ c.requires.queue.1.1))

pub hear-requires-clause-pass : goal.hear-requires-clause-pass
hear-requires-clause-pass g c = λ κs lives. last_handed _ _ _ _ _ c.in-Some.ensures.items c.loop-pass.invariant.handed

pub loop-pass-smaller : goal.loop-pass-smaller
loop-pass-smaller g c = fewer_left _ _ _ c.in-Some.ensures.items

pub loop-pass-preserved : goal.loop-pass-preserved
loop-pass-preserved g c =
    let i = c.loop-pass.invariant in
    let e = c.hear.ensures in record {
      own = (e.own.0 ∙ i.own.0, e.own.1 ∙ i.own.1, e.own.2 ∙ i.own.2);
      pushed = (e.pushed.0, e.pushed.1 ∙ i.pushed.1);
      reader = (e.reader.0, e.reader.1 ∙ i.reader.1);
      handed = handed_before _ _ _ _ _ c.in-Some.ensures.items i.handed;
      told = λ left. i.told (told_more _ _ _ _ _ _ _ i.reader.1 i.pushed.1 c.in-Some.ensures.items e.told left);
    }

pub returns-clause-told : goal.returns-clause-told
returns-clause-told g c = c.loop-pass.invariant.told (λ k d lt. absurd (omega (arith, lt, c.in_default.ensures.cases.0)))
