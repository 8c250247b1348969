use Rattle.std.proofs.Common.{◌≡◌, Some, None, Err, ap, ◌∙◌, rules}
use Rattle.link_payload.proofs.AnswerLemmas.{then_by, pong_by_bytes, pong_by_walk}
use Rattle.link_payload.proofs.read.read_pong.Goals as goal

pub returns-in_err-last-clause-spelled : goal.returns-in_err-last-clause-spelled
returns-in_err-last-clause-spelled c = λ es s.
    let passed : c.from_residual.result ≡ Err c.in_err-last.field-0.0 = search rules in
    passed ∙ ap (then_by pong_by_bytes) ((c.in_err-last.ensures {u = tt}).answer es None s) ∙ pong_by_walk es None

pub returns-in_err-last-clause-cut : goal.returns-in_err-last-clause-cut
returns-in_err-last-clause-cut c = λ n es s.
    let passed : c.from_residual.result ≡ Err c.in_err-last.field-0.0 = search rules in
    passed ∙ ap (then_by pong_by_bytes) ((c.in_err-last.ensures {u = tt}).answer es (Some n) s) ∙ pong_by_walk es (Some n)

pub returns-clause-spelled : goal.returns-clause-spelled
returns-clause-spelled c = λ es s.
    c.pong_of.ensures ∙ ap (then_by pong_by_bytes) ((c.in_ok-last.ensures {u = tt}).answer es None s) ∙ pong_by_walk es None

pub returns-clause-cut : goal.returns-clause-cut
returns-clause-cut c = λ n es s.
    c.pong_of.ensures ∙ ap (then_by pong_by_bytes) ((c.in_ok-last.ensures {u = tt}).answer es (Some n) s) ∙ pong_by_walk es (Some n)
