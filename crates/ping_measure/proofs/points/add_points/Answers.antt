use Rattle.std.proofs.Common.{◌≡◌, true, false, ◌∷◌, [], ◌++◌, FitsSigned, rules, sym, ap, ◌∙◌, append_assoc}
use Rattle.std.proofs.lemmas.Int.{to_z-of_z}
use mir.Syntax.{w64}
use Rattle.ping_measure.specs.Points.{is_zero, point_of}
use Rattle.ping_measure.proofs.OutcomeLemmas.{points-one, points-two, passes, fails}
use Rattle.ping_measure.proofs.points.add_points.Goals as goal

pub returns-then-has_previous-clause-items : goal.returns-then-has_previous-clause-items
returns-then-has_previous-clause-items c =
    let pong = c.args.pong.now in
    let old = c.args.points.now.items in
    let first : FitsSigned w64 c.point.result = search rules in
    let second : FitsSigned w64 c.point_before.result = search rules in
    let point = simp (to_z-of_z w64 _ c.ranges.now) at c.point.ensures in
    let before = c.point_before.ensures in
    let one = simp (to_z-of_z w64 _ first) at c.push.ensures.items in
    let two = simp (to_z-of_z w64 _ second) at c.push-then-has_previous.ensures.items in
    let more : is_zero pong.previous ≡ false = fails (is_zero pong.previous) (sym c.has_previous.ensures ∙ c.if-has_previous.true) in
    two
    ∙ ap (λ l. l ++ c.point_before.result ∷ []) one
    ∙ append_assoc old (c.point.result ∷ []) (c.point_before.result ∷ [])
    ∙ ap (λ x. old ++ x ∷ c.point_before.result ∷ []) point
    ∙ ap (λ y. old ++ point_of pong c.args.now ∷ y ∷ []) before
    ∙ ap (λ l. old ++ l) (sym (points-two pong c.args.now c.requires.some more))

pub returns-else-has_previous-clause-items : goal.returns-else-has_previous-clause-items
returns-else-has_previous-clause-items c =
    let pong = c.args.pong.now in
    let old = c.args.points.now.items in
    let first : FitsSigned w64 c.point.result = search rules in
    let point = simp (to_z-of_z w64 _ c.ranges.now) at c.point.ensures in
    let one = simp (to_z-of_z w64 _ first) at c.push.ensures.items in
    let none : is_zero pong.previous ≡ true = passes (is_zero pong.previous) (sym c.has_previous.ensures ∙ c.if-has_previous.false) in
    one
    ∙ ap (λ x. old ++ x ∷ []) point
    ∙ ap (λ l. old ++ l) (sym (points-one pong c.args.now c.requires.some none))
