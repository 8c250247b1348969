use Rattle.std.proofs.Common.{sym, ap, subst, ◌∙◌, w64}
use Rattle.std.proofs.lemmas.Int.{to_z-of_z}
use Rattle.link_shared.specs.Audio.{AudioView}
use Rattle.link_shared.specs.Passes.{AppView}
use Rattle.link_live.specs.Network.{locals_of}
use Rattle.link_live.proofs.AskLemmas.{moment_fits}
use Rattle.link_live.proofs.NetworkLemmas.{all_fit, can_run, last_on_gates, still_bound}
use Rattle.link_live.proofs.NodeRunLemmas.{node_run}
use Rattle.link_live.proofs.node_run.run_parts.Goals as goal

pub run_beside-ends-requires-clause-network : goal.run_beside-ends-requires-clause-network
run_beside-ends-requires-clause-network g c κs within =
    can_run _ _ _ _ _ _ _ c.make-link.ensures.hub c.requires.config.0 c.bind-bound.ensures.gates

pub post-failed-requires : goal.post-failed-requires
post-failed-requires g c = record {
  gates = λ works.
      last_on_gates c.run_laws.ensures _ _ _ _ _ _ _ _ _ c.datagrams_go_out_on_gates.ensures c.last_turn-ended.ensures.ended
      (still_bound _ _ _ _ _ _ _ _ _ _ _ _ c.make-link.ensures.hub c.requires.config.0 c.run_beside-ends.ensures.network c.bind-bound.ensures.gates c.hand_in.ensures works)
      c.list.ensures;
}

pub returns : goal.returns
returns g c = record {
  run = (
    c.run_beside-ends.new.audio_pass,
    c.run_beside-ends.new.app_pass,
    subst (λ (v : AudioView). g.A.AudioSide.runs c.args.audio.now c.run_beside-ends.new.audio v c.run_beside-ends.new.audio_pass c.args.device.now c.run_beside-ends.new.device c.run_beside-ends.result.1.0)
        c.make-link.ensures.audio c.run_beside-ends.ensures.audio,
    subst (λ (v : AppView). g.B.AppSide.runs c.args.app.now c.run_beside-ends.new.app v c.run_beside-ends.new.app_pass c.args.first.now c.run_beside-ends.new.first c.args.second.now c.run_beside-ends.new.second c.run_beside-ends.result.1.1)
        c.make-link.ensures.app c.run_beside-ends.ensures.app,
    node_run c.run_laws.ensures
        (record {
          told = c.best_timelines_are_told.ensures.told;
          best = c.best_timelines_are_told.ensures.best;
          shows = c.clients_follow_sessions.ensures.run;
        })
        _ _ _ _ _ _ _ _ _ _ _ _ _ _ _ _ _ _ _
        c.make-link.ensures.hub c.run_beside-ends.ensures.network (λ yes. c.bind-bound.ensures.gates yes ∙ ap locals_of (sym c.requires.config.0)) c.bind-bound.ensures.works c.bind-bound.ensures.fails
        c.bind-bound.ensures.contents c.hand_in.ensures (to_z-of_z w64 _ (moment_fits _ c.run_beside-ends.ensures.network.run.moment))
        c.requires.opening c.list.ensures c.post-failed.ensures.gates c.post-failed.result c.last_turn-ended.result.full
        c.last_turn-ended.ensures.ended c.post-failed.ensures.posted c.post-failed.ensures.works c.post-failed.ensures.fails
        (λ failed. (c.post-failed.ensures.unbound failed).0),
  );
  fitting = all_fit _ _ _ _ _ _ _ _ _ _ _ _ c.make-link.ensures.hub c.run_beside-ends.ensures.network c.hand_in.ensures c.last_turn-ended.ensures.ended.fits;
}
