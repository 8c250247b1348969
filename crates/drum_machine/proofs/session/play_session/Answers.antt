use Rattle.std.proofs.Common.{◌∙◌, ℤ, ap, inr, w64}
use Rattle.std.proofs.lemmas.Int.{to_z-of_z}
use Rattle.link_live.proofs.AskLemmas.{moment_fits}
use Rattle.link_node.specs.Config.{gate_value}
use Rattle.link_live.specs.OneGate.{one_gate_from}
use Rattle.drum_machine.proofs.SessionLemmas.{has_session, tempo_fits}
use Rattle.drum_machine.proofs.session.play_session.Goals as goal

pub returns-in-Ok : goal.returns-in-Ok
returns-in-Ok g c =
    let at = c.args.devices.now.opened_at in
    let setup = c.args.setup in
    let config =
    c.one_gate_config-config.ensures.value
    ∙ ap (λ (mpb : ℤ). one_gate_from c.args.devices.now.seed mpb (gate_value setup.gate)) (to_z-of_z w64 setup.mpb (tempo_fits setup.mpb setup.fastest setup.slowest)) in
    let run = c.in-Ok.ensures.run in
    let left = c.in-Ok.run' in
    record {
      ends = inr (
        left.audio,
        left.failed,
        left.full,
        c.status_of.ensures,
        has_session _ _ _ _ _ _ _ _ _ _ _ _ _ _ _ _ config (to_z-of_z w64 at (moment_fits at c.args.devices.now.moment))
            c.new.ensures.given.0 c.new.ensures.still.0 c.new.ensures.still.1 run.4 run.2,
      );
    }
