use Rattle.std.proofs.Common.{arith, inl, inr, refl, sym, ◌∙◌}
use Rattle.link_text.proofs.HeadLemmas.{version_said, version_no}
use Rattle.link_text.proofs.head_read.version_of.Goals as goal

pub returns-then-is_word-clause-some : goal.returns-then-is_word-clause-some
returns-then-is_word-clause-some c = (inl refl, c.is_word.ensures.0 c.if-is_word.true ∙ sym (version_said 1 (omega arith)))

pub returns-then-is_word-2-clause-some : goal.returns-then-is_word-2-clause-some
returns-then-is_word-2-clause-some c = (inr refl, c.is_word-2.ensures.0 c.if-is_word-2.true ∙ sym (version_said 2 (omega arith)))

pub returns-clause-none : goal.returns-clause-none
returns-clause-none c =
    version_no c.args.line.now (λ h. cc (c.is_word.ensures.1 h)) (λ h. cc (c.is_word-2.ensures.1 h))
