use Rattle.std.proofs.Common.{◌≡◌, true, false, sym, ◌∙◌}
use Rattle.std.proofs.lemmas.Int.{to_z-of_z}
use mir.Syntax.{w64}
use Rattle.ping_measure.specs.Life.{is_early}
use Rattle.ping_measure.proofs.OutcomeLemmas.{is_early-from, tick-early, tick-late}
use Rattle.ping_measure.proofs.measure.Measure.tick.Goals as goal

pub returns-then-is_early-clause-answer : goal.returns-then-is_early-clause-answer
returns-then-is_early-clause-answer c = λ life stands.
    let test = simp (to_z-of_z w64 _ c.ranges.now) at c.is_early.ensures in
    let early : is_early life c.args.now ≡ true =
    sym (is_early-from c.args.self.now life c.args.now stands) ∙ sym test ∙ c.if-is_early.true in
    sym ((tick-early life c.args.now early).0)

pub returns-then-is_early-clause-stands : goal.returns-then-is_early-clause-stands
returns-then-is_early-clause-stands c = λ life stands.
    let test = simp (to_z-of_z w64 _ c.ranges.now) at c.is_early.ensures in
    let early : is_early life c.args.now ≡ true =
    sym (is_early-from c.args.self.now life c.args.now stands) ∙ sym test ∙ c.if-is_early.true in
    rw ((tick-early life c.args.now early).1) stands

pub returns-clause-answer : goal.returns-clause-answer
returns-clause-answer c = λ life stands.
    let test = simp (to_z-of_z w64 _ c.ranges.now) at c.is_early.ensures in
    let late : is_early life c.args.now ≡ false =
    sym (is_early-from c.args.self.now life c.args.now stands) ∙ sym test ∙ c.if-is_early.false in
    let answer = simp (to_z-of_z w64 _ c.ranges.now) at (c.silent.ensures.answer life stands) in
    answer ∙ sym ((tick-late life c.args.now late).0)

pub returns-clause-stands : goal.returns-clause-stands
returns-clause-stands c = λ life stands.
    let test = simp (to_z-of_z w64 _ c.ranges.now) at c.is_early.ensures in
    let late : is_early life c.args.now ≡ false =
    sym (is_early-from c.args.self.now life c.args.now stands) ∙ sym test ∙ c.if-is_early.false in
    let after = simp (to_z-of_z w64 _ c.ranges.now) at (c.silent.ensures.stands life stands) in
    rw ((tick-late life c.args.now late).1) after
