use Rattle.std.proofs.Common.{◌≡◌, false, refl, sym, ◌∙◌}
use native.Mathlib.Nat.{add-zero}
use Rattle.ping_measure.specs.Points.{strayed}
use Rattle.ping_measure.specs.Life.{is_over}
use Rattle.ping_measure.proofs.LifeLemmas.{points_of-kept, silences-with, over-strayed, deadline-ended}
use Rattle.ping_measure.proofs.measure.Measure.strayed.Goals as goal

pub returns-clause-stands : goal.returns-clause-stands
returns-clause-stands c = λ life stands.
    let happening = strayed c.args.session in
    let going : is_over life ≡ false = sym stands.over ∙ c.requires in
    let over = over-strayed life c.args.session going in
    record {
      target = stands.target;
      session = stands.session;
      points = stands.points ∙ sym (points_of-kept life.happened happening refl);
      silences = stands.silences ∙ sym (silences-with life.happened happening ∙ add-zero _);
      deadline = stands.deadline ∙ sym (deadline-ended life happening going over);
      over = sym over;
    }
