use Rattle.std.proofs.Common.{◌==◌, ℕ, take, sym, ap, ◌∙◌, arith}
use Rattle.std.proofs.lemmas.Bool.Decides.{nat_tests}
use Rattle.std.proofs.lemmas.List.{take_all}
use Rattle.std.proofs.lemmas.List.Sums.{position_or_len_is}
use Rattle.session_server.proofs.secret.line_of.Goals as goal

pub loop-end-preserved : goal.loop-end-preserved
loop-end-preserved c = ((λ k below. grind (arith, nat_tests, c.loop-end.invariant.0 k)), omega arith)

pub returns-then-text-end-eq10 : goal.returns-then-text-end-eq10
returns-then-text-end-eq10 c =
    ap (λ (n : ℕ). take n c.args.text.now)
    (sym (position_or_len_is (λ (byte : ℕ). byte == 10) c.args.text.now c.loop-end.end 0 c.loop-end.invariant.1 c.loop-end.invariant.0
    (λ within. grind (arith, nat_tests))))

pub returns : goal.returns
returns c =
    sym (take_all c.loop-end.end c.args.text.now c.loop-end-test.false)
    ∙ ap (λ (n : ℕ). take n c.args.text.now)
    (sym (position_or_len_is (λ (byte : ℕ). byte == 10) c.args.text.now c.loop-end.end 0 c.loop-end.invariant.1 c.loop-end.invariant.0
    (λ within. absurd (omega (arith, within, c.loop-end-test.false)))))
