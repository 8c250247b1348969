use Rattle.std.proofs.Common.{pos, ◌+ℤ◌, FitsSigned, refl, sym, arith}
use Rattle.std.proofs.lemmas.Int.{ints, to_z-of_z}
use mir.Syntax.{w64}
use Rattle.ping_measure.specs.Points.{points_of}
use Rattle.ping_measure.specs.Life.{opening}
use Rattle.ping_measure.proofs.LifeLemmas.{over-opening, deadline-going}
use Rattle.ping_measure.proofs.measure.Measure.start.Goals as goal

pub returns-clause-stands : goal.returns-clause-stands
unfolding points_of
returns-clause-stands c =
    let life = opening c.args.target c.args.session c.args.now in
    let later : FitsSigned w64 (c.args.now +ℤ pos 50_000) = omega (arith, ints) in
    let going = over-opening life refl in
    record {
      target = refl;
      session = refl;
      points = c.new.ensures;
      silences = refl;
      deadline = simp (to_z-of_z w64 _ c.ranges.now, to_z-of_z w64 _ later) (sym (deadline-going life going));
      over = sym going;
    }
