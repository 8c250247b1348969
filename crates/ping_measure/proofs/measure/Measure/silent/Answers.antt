use Rattle.std.proofs.Common.{◌≡◌, ◌+◌, false, true, pos, ◌+ℤ◌, nat_le, FitsSigned, refl, sym, ap, ◌∙◌, arith}
use Rattle.std.proofs.lemmas.Int.{ints, to_z-of_z}
use Rattle.std.proofs.lemmas.Bool.{le-leb, lt-leb}
use mir.Syntax.{w64}
use Rattle.ping_measure.specs.Points.{silent}
use Rattle.ping_measure.specs.Life.{is_over, with, silences_of}
use Rattle.ping_measure.proofs.LifeLemmas.{points_of-kept, silences-with, over-silent, deadline-ended, deadline-silent}
use Rattle.ping_measure.proofs.measure.Measure.silent.Goals as goal

pub returns-then-self-ge-SILENCES-clause-stands : goal.returns-then-self-ge-SILENCES-clause-stands
returns-then-self-ge-SILENCES-clause-stands c = λ life stands.
    let happening = silent c.args.now in
    let going : is_over life ≡ false = sym stands.over ∙ c.requires.going in
    let silences = stands.silences in
    let enough : nat_le 6 (silences_of life + 1) ≡ true = le-leb 6 (silences_of life + 1) (omega arith) in
    let over : is_over (with life happening) ≡ true = over-silent life c.args.now going ∙ enough in
    record {
      target = stands.target;
      session = stands.session;
      points = stands.points ∙ sym (points_of-kept life.happened happening refl);
      silences = ap (λ n. n + 1) stands.silences ∙ sym (silences-with life.happened happening);
      deadline = stands.deadline ∙ sym (deadline-ended life happening going over);
      over = sym over;
    }

pub returns-clause-stands : goal.returns-clause-stands
returns-clause-stands c = λ life stands.
    let happening = silent c.args.now in
    let going : is_over life ≡ false = sym stands.over ∙ c.requires.going in
    let silences = stands.silences in
    let few : nat_le 6 (silences_of life + 1) ≡ false = lt-leb 6 (silences_of life + 1) (omega arith) in
    let still : is_over (with life happening) ≡ false = over-silent life c.args.now going ∙ few in
    let later : FitsSigned w64 (c.args.now +ℤ pos 50_000) = omega (arith, ints) in
    record {
      target = stands.target;
      session = stands.session;
      points = stands.points ∙ sym (points_of-kept life.happened happening refl);
      silences = ap (λ n. n + 1) stands.silences ∙ sym (silences-with life.happened happening);
      deadline = simp (to_z-of_z w64 _ c.ranges.now, to_z-of_z w64 _ later)
          (sym (deadline-silent life c.args.now still));
      over = c.requires.going ∙ sym still;
    }
