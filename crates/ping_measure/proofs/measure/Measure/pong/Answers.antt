use Rattle.std.proofs.Common.{◌≡◌, true, false, ◌||◌, sym, ◌∙◌}
use Rattle.std.proofs.lemmas.Int.{to_z-of_z}
use mir.Syntax.{w64}
use Rattle.ping_measure.specs.Points.{counted, is_zero}
use Rattle.ping_measure.specs.Life.{with}
use Rattle.ping_measure.proofs.AccuracyLemmas.{done_near}
use Rattle.ping_measure.proofs.OutcomeLemmas.{heard-from, same-from, other-from, pong-ignored, pong-strayed, pong-empty, pong-counted, passes, fails}
use Rattle.ping_measure.proofs.measure.Measure.pong.Goals as goal

pub returns-then-passes_over-clause-answer : goal.returns-then-passes_over-clause-answer
returns-then-passes_over-clause-answer c = λ life stands.
    let measure = c.args.self.now in
    let pong = c.args.pong.now in
    let heard = heard-from measure life c.args.gate c.args.from _ true stands c.passes_over.ensures c.if-passes_over.true in
    let case = pong-ignored life c.args.gate c.args.from pong c.args.now heard in
    sym (case.0)

pub returns-then-passes_over-clause-stands : goal.returns-then-passes_over-clause-stands
returns-then-passes_over-clause-stands c = λ life stands.
    let measure = c.args.self.now in
    let pong = c.args.pong.now in
    let heard = heard-from measure life c.args.gate c.args.from _ true stands c.passes_over.ensures c.if-passes_over.true in
    let case = pong-ignored life c.args.gate c.args.from pong c.args.now heard in
    rw (case.1) stands

pub returns-then-ne-clause-answer : goal.returns-then-ne-clause-answer
returns-then-ne-clause-answer c = λ life stands.
    let measure = c.args.self.now in
    let pong = c.args.pong.now in
    let heard = heard-from measure life c.args.gate c.args.from _ false stands c.passes_over.ensures c.if-passes_over.false in
    let other = other-from measure life pong.session _ stands c.ne.ensures c.if-ne.true in
    let case = pong-strayed life c.args.gate c.args.from pong c.args.now heard other in
    c.strayed.ensures.answer ∙ sym (case.0)

pub returns-then-ne-clause-stands : goal.returns-then-ne-clause-stands
returns-then-ne-clause-stands c = λ life stands.
    let measure = c.args.self.now in
    let pong = c.args.pong.now in
    let heard = heard-from measure life c.args.gate c.args.from _ false stands c.passes_over.ensures c.if-passes_over.false in
    let other = other-from measure life pong.session _ stands c.ne.ensures c.if-ne.true in
    let case = pong-strayed life c.args.gate c.args.from pong c.args.now heard other in
    rw (case.1) (c.strayed.ensures.stands life stands)

pub returns-then-not-gives_points-clause-answer : goal.returns-then-not-gives_points-clause-answer
returns-then-not-gives_points-clause-answer c = λ life stands.
    let measure = c.args.self.now in
    let pong = c.args.pong.now in
    let heard = heard-from measure life c.args.gate c.args.from _ false stands c.passes_over.ensures c.if-passes_over.false in
    let same = same-from measure life pong.session _ stands c.ne.ensures c.if-ne.false in
    let none : (is_zero pong.ghost_time || is_zero pong.host) ≡ true =
    passes (is_zero pong.ghost_time || is_zero pong.host) (sym c.gives_points.ensures ∙ c.if-not-gives_points.true) in
    let case = pong-empty life c.args.gate c.args.from pong c.args.now heard same none in
    sym (case.0)

pub returns-then-not-gives_points-clause-stands : goal.returns-then-not-gives_points-clause-stands
returns-then-not-gives_points-clause-stands c = λ life stands.
    let measure = c.args.self.now in
    let pong = c.args.pong.now in
    let heard = heard-from measure life c.args.gate c.args.from _ false stands c.passes_over.ensures c.if-passes_over.false in
    let same = same-from measure life pong.session _ stands c.ne.ensures c.if-ne.false in
    let none : (is_zero pong.ghost_time || is_zero pong.host) ≡ true =
    passes (is_zero pong.ghost_time || is_zero pong.host) (sym c.gives_points.ensures ∙ c.if-not-gives_points.true) in
    let case = pong-empty life c.args.gate c.args.from pong c.args.now heard same none in
    rw (case.1) stands

pub returns-clause-answer : goal.returns-clause-answer
returns-clause-answer c = λ life stands.
    let measure = c.args.self.now in
    let pong = c.args.pong.now in
    let heard = heard-from measure life c.args.gate c.args.from _ false stands c.passes_over.ensures c.if-passes_over.false in
    let same = same-from measure life pong.session _ stands c.ne.ensures c.if-ne.false in
    let none : (is_zero pong.ghost_time || is_zero pong.host) ≡ false =
    fails (is_zero pong.ghost_time || is_zero pong.host) (sym c.gives_points.ensures ∙ c.if-not-gives_points.false) in
    let case = pong-counted life c.args.gate c.args.from pong c.args.now heard same none in
    let answer = simp (to_z-of_z w64 _ c.ranges.now) at (c.counted.ensures.answer life stands) in
    answer ∙ sym (case.0)

pub returns-clause-stands : goal.returns-clause-stands
returns-clause-stands c = λ life stands.
    let measure = c.args.self.now in
    let pong = c.args.pong.now in
    let heard = heard-from measure life c.args.gate c.args.from _ false stands c.passes_over.ensures c.if-passes_over.false in
    let same = same-from measure life pong.session _ stands c.ne.ensures c.if-ne.false in
    let none : (is_zero pong.ghost_time || is_zero pong.host) ≡ false =
    fails (is_zero pong.ghost_time || is_zero pong.host) (sym c.gives_points.ensures ∙ c.if-not-gives_points.false) in
    let case = pong-counted life c.args.gate c.args.from pong c.args.now heard same none in
    let after = simp (to_z-of_z w64 _ c.ranges.now) at (c.counted.ensures.stands life stands) in
    rw (case.1) after

pub returns-clause-accuracy : goal.returns-clause-accuracy
returns-clause-accuracy c = λ life stands offset r within fair.
    let measure = c.args.self.now in
    let pong = c.args.pong.now in
    let heard = heard-from measure life c.args.gate c.args.from _ false stands c.passes_over.ensures c.if-passes_over.false in
    let same = same-from measure life pong.session _ stands c.ne.ensures c.if-ne.false in
    let none : (is_zero pong.ghost_time || is_zero pong.host) ≡ false =
    fails (is_zero pong.ghost_time || is_zero pong.host) (sym c.gives_points.ensures ∙ c.if-not-gives_points.false) in
    let case = pong-counted life c.args.gate c.args.from pong c.args.now heard same none in
    let answer = simp (to_z-of_z w64 _ c.ranges.now) at (c.counted.ensures.answer life stands) in
    let honest = rw (case.1) at fair in
    rw answer
    (done_near life pong c.args.now offset r
    (λ many. c.honest_pongs_bound_the_error.ensures.bound (with life (counted pong c.args.now)) offset r many within honest))
