use Rattle.std.proofs.Common.{arith, refl, ◌∙◌, ◌<◌, ◌≤◌, length}
use Rattle.std.proofs.lemmas.Bool.{OnFalse_at, OnTrue_at}
use Rattle.link_control.proofs.ServingLemmas.{done_from, line_answered, line_cut_short, line_too_many, line_without_memory, stored_moment}
use Rattle.link_control.proofs.server.answer_line.Goals as goal

pub returns-then-len-ge-MOST_LINES-clause-taken : goal.returns-then-len-ge-MOST_LINES-clause-taken
returns-then-len-ge-MOST_LINES-clause-taken g c = λ start before earlier run.
    let full : 4_096 ≤ length c.args.log.now.lines.items = omega (arith, c.len.ensures, c.if-len-ge-MOST_LINES.true) in
    line_too_many _ start _ before _ _ _ earlier _ full run

pub returns-in-Err-clause-taken : goal.returns-in-Err-clause-taken
returns-in-Err-clause-taken g c = λ start before earlier run.
    let room : length c.args.log.now.lines.items < 4_096 = omega (arith, c.len.ensures, c.if-len-ge-MOST_LINES.false) in
    line_without_memory _ start _ before _ _ _ _ _ earlier _ _ room c.in-Err.ensures.refused_pass c.in-Err.ensures.refused_log run

pub returns-then-not-say-clause-taken : goal.returns-then-not-say-clause-taken
returns-then-not-say-clause-taken g c = λ start before earlier run.
    let room : length c.args.log.now.lines.items < 4_096 = omega (arith, c.len.ensures, c.if-len-ge-MOST_LINES.false) in
    line_cut_short _ start _ _ before _ _ _ _ _ c.in-Ok.entry.moment earlier _ _ _ _ _ _ room (λ whole is. c.asked_in-asked.ensures.asked whole (c.deref.ensures.0 ∙ is))
    (done_from _ _ _ _ _ _ _ (stored_moment c.args.kept.now.last c.requires.moment) c.in-Ok.ensures.done) c.in-Ok.ensures.log refl c.clear.ensures c.number_in-number.ensures (c.deref-2.ensures.0 ∙ c.put_answer.ensures)
    (OnFalse_at c.if-not-say.true c.say.ensures.part) (OnFalse_at c.if-not-say.true c.say.ensures.cause) c.say.ensures.opened run

pub returns-clause-taken : goal.returns-clause-taken
returns-clause-taken g c = λ start before earlier run.
    let room : length c.args.log.now.lines.items < 4_096 = omega (arith, c.len.ensures, c.if-len-ge-MOST_LINES.false) in
    line_answered _ start _ _ before _ _ _ _ _ _ earlier _ _ _ _ _ _ room (λ whole is. c.asked_in-asked.ensures.asked whole (c.deref.ensures.0 ∙ is))
    (done_from _ _ _ _ _ _ _ (stored_moment c.args.kept.now.last c.requires.moment) c.in-Ok.ensures.done) c.in-Ok.ensures.log (stored_moment c.in-Ok.entry.moment c.in-Ok.ensures.moment) c.clear.ensures c.number_in-number.ensures (c.deref-2.ensures.0 ∙ c.put_answer.ensures)
    (OnTrue_at c.if-not-say.false c.say.ensures.whole) (OnTrue_at c.if-not-say.false c.say.ensures.quiet) c.say.ensures.opened run
