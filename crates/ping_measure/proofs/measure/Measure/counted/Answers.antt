use Rattle.std.proofs.Common.{◌≡◌, ◌++◌, ◌<◌, ◌≤◌, false, true, pos, ◌+ℤ◌, length, FitsSigned, sym, ap, ◌∙◌, arith}
use Rattle.std.proofs.lemmas.Int.{ints, to_z-of_z}
use Rattle.std.proofs.lemmas.Bool.{lt-ltb, le-ltb}
use mir.Syntax.{w64}
use native.Mathlib.Nat.{add-zero}
use Rattle.ping_measure.specs.Points.{counted, points_in, points_of}
use Rattle.ping_measure.specs.Life.{is_over, with}
use Rattle.ping_measure.proofs.LifeLemmas.{points_of-with, silences-with, over-counted, deadline-ended, deadline-counted}
use Rattle.ping_measure.proofs.measure.Measure.counted.Goals as goal

pub returns-then-len-gt-POINTS-clause-stands : goal.returns-then-len-gt-POINTS-clause-stands
returns-then-len-gt-POINTS-clause-stands c = λ life stands.
    let pong = c.args.pong.now in
    let happening = counted pong c.args.now in
    let going : is_over life ≡ false = sym stands.over ∙ c.requires.going in
    let added = simp (to_z-of_z w64 _ c.ranges.now) at c.add_points.ensures.items in
    let points : c.add_points.new.points.items ≡ points_of life.happened ++ points_in pong c.args.now =
    added ∙ ap (λ l. l ++ points_in pong c.args.now) stands.points in
    let many : 100 < length (points_of life.happened ++ points_in pong c.args.now) = omega (arith, ap length points) in
    let over : is_over (with life happening) ≡ true = over-counted life pong c.args.now going ∙ lt-ltb 100 _ many in
    record {
      target = stands.target;
      session = stands.session;
      points = points ∙ sym (points_of-with life.happened happening);
      silences = stands.silences ∙ sym (silences-with life.happened happening ∙ add-zero _);
      deadline = stands.deadline ∙ sym (deadline-ended life happening going over);
      over = sym over;
    }

pub returns-clause-stands : goal.returns-clause-stands
returns-clause-stands c = λ life stands.
    let pong = c.args.pong.now in
    let happening = counted pong c.args.now in
    let going : is_over life ≡ false = sym stands.over ∙ c.requires.going in
    let added = simp (to_z-of_z w64 _ c.ranges.now) at c.add_points.ensures.items in
    let points : c.add_points.new.points.items ≡ points_of life.happened ++ points_in pong c.args.now =
    added ∙ ap (λ l. l ++ points_in pong c.args.now) stands.points in
    let few : length (points_of life.happened ++ points_in pong c.args.now) ≤ 100 = omega (arith, ap length points) in
    let still : is_over (with life happening) ≡ false = over-counted life pong c.args.now going ∙ le-ltb 100 _ few in
    let later : FitsSigned w64 (c.args.now +ℤ pos 50_000) = omega (arith, ints) in
    record {
      target = stands.target;
      session = stands.session;
      points = points ∙ sym (points_of-with life.happened happening);
      silences = stands.silences ∙ sym (silences-with life.happened happening ∙ add-zero _);
      deadline = simp (to_z-of_z w64 _ c.ranges.now, to_z-of_z w64 _ later)
          (sym (deadline-counted life pong c.args.now still));
      over = c.requires.going ∙ sym still;
    }
