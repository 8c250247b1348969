use Rattle.std.proofs.Common.{refl, ◌∙◌, w64}
use Rattle.std.proofs.lemmas.Int.{to_z-of_z}
use Rattle.std.proofs.lemmas.List.{length-map}
use Rattle.link_shared.proofs.DrainLemmas.{drained_none, drained_more, drained_end}
use Rattle.link_shared.proofs.hub.drain.drain.Goals as goal

pub loop-init : goal.loop-init
loop-init g c = record {
  goes = (tt, tt);
  pass = (refl, refl, refl);
  ends = c.requires.ends;
  pushed = refl;
  opening = (refl, refl);
  config = (refl, refl);
  drained = drained_none _ _ _ _ _ _ refl (simp length-map c.args.keeper.now.room.few_events);
  sends = c.requires.sends;
}

pub returns-in-None-drain_one-clause-drained : goal.returns-in-None-drain_one-clause-drained
returns-in-None-drain_one-clause-drained g c =
    let none = c.in-None-drain_one.ensures.drained in
    drained_end _ _ _ _ _ _ _ _ _ _ _ (to_z-of_z w64 c.args.now c.ranges.now) none.1 none.2 c.loop.invariant.drained

pub loop-preserved : goal.loop-preserved
loop-preserved g c =
    let i = c.loop.invariant in
    let e = c.in-Some-drain_one.ensures in record {
      goes = (tt, tt);
      pass = (e.pass.0 ∙ i.pass.0, e.pass.1 ∙ i.pass.1, e.pass.2 ∙ i.pass.2);
      ends = e.ends;
      pushed = e.pushed ∙ i.pushed;
      opening = (e.opening.0 ∙ i.opening.0, e.opening.1 ∙ i.opening.1);
      config = (e.config.0 ∙ i.config.0, e.config.1 ∙ i.config.1);
      drained = drained_more _ _ _ _ _ _ _ _ _ _ _ _ _ _ _ i.config.0 i.opening.0 i.opening.1 i.drained e.drained;
      sends = e.sends;
    }
