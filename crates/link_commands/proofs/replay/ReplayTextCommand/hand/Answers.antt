use Rattle.link_node.specs.Opening.{opened}
use Rattle.link_text.specs.ReplayText.{replay_text_of}
use Rattle.link_commands.proofs.OutletLemmas.{on_failure}
use Rattle.link_commands.proofs.ReplayLemmas.{gives_output, replay_part_first, replay_part_events, replay_part_done, replay_over}
use Rattle.link_commands.proofs.ReplayingLemmas.{opened_goes_on}
use Rattle.link_commands.proofs.replay.ReplayTextCommand.hand.Goals as goal

pub returns-in_err-hand_state-clause-part : goal.returns-in_err-hand_state-clause-part
returns-in_err-hand_state-clause-part g c =
    on_failure c.from_residual.result (
      replay_text_of c.args.self.now.version c.requires.ready.config c.requires.ready.now c.requires.ready.es,
      gives_output _ _ _ _ _ _ _ c.requires.ready,
      replay_part_first c.args.self.now.version c.requires.ready.config c.requires.ready.now c.requires.ready.es c.state.result _ _ _
          (c.state.ensures.value (opened c.requires.ready.config c.requires.ready.now) c.requires.ready.stands) c.in_err-hand_state.ensures.part,
    )

pub hand_events-requires-clause-says : goal.hand_events-requires-clause-says
hand_events-requires-clause-says g c = (
  opened c.requires.ready.config c.requires.ready.now,
  c.requires.ready.es,
  opened_goes_on c.scripts_fit_nodes.ensures.few _ _ _ _ _ c.args.text.now _ c.requires.ready c.requires.short,
)

pub returns-in_err-counts-clause-part : goal.returns-in_err-counts-clause-part
returns-in_err-counts-clause-part g c =
    on_failure c.from_residual-in_err-counts.result (
      replay_text_of c.args.self.now.version c.requires.ready.config c.requires.ready.now c.requires.ready.es,
      gives_output _ _ _ _ _ _ _ c.requires.ready,
      replay_part_events c.args.self.now.version c.requires.ready.config c.requires.ready.now c.requires.ready.es c.state.result _ _ _ _ _
          (c.state.ensures.value (opened c.requires.ready.config c.requires.ready.now) c.requires.ready.stands) c.in_ok-hand_state.ensures.kept
          (c.in_err-counts.ensures.part (opened c.requires.ready.config c.requires.ready.now) c.requires.ready.es
          (opened_goes_on c.scripts_fit_nodes.ensures.few _ _ _ _ _ c.args.text.now _ c.requires.ready c.requires.short)),
    )

pub returns-in_err-hand_done-clause-part : goal.returns-in_err-hand_done-clause-part
returns-in_err-hand_done-clause-part g c =
    let on = opened_goes_on c.scripts_fit_nodes.ensures.few _ _ _ _ _ c.args.text.now _ c.requires.ready c.requires.short in
    on_failure c.from_residual-in_err-hand_done.result (
      replay_text_of c.args.self.now.version c.requires.ready.config c.requires.ready.now c.requires.ready.es,
      gives_output _ _ _ _ _ _ _ c.requires.ready,
      replay_part_done c.args.self.now.version c.requires.ready.config c.requires.ready.now c.requires.ready.es c.state.result _ _ _ _ _ _ _ _ _ _
          (c.state.ensures.value (opened c.requires.ready.config c.requires.ready.now) c.requires.ready.stands)
          (c.in_ok-counts.ensures.events (opened c.requires.ready.config c.requires.ready.now) c.requires.ready.es on)
          c.in_ok-hand_state.ensures.kept
          (c.in_ok-counts.ensures.kept (opened c.requires.ready.config c.requires.ready.now) c.requires.ready.es on)
          c.in_err-hand_done.ensures.part,
    )

pub returns-clause-kept : goal.returns-clause-kept
returns-clause-kept g c =
    let on = opened_goes_on c.scripts_fit_nodes.ensures.few _ _ _ _ _ c.args.text.now _ c.requires.ready c.requires.short in (
      replay_text_of c.args.self.now.version c.requires.ready.config c.requires.ready.now c.requires.ready.es,
      gives_output _ _ _ _ _ _ _ c.requires.ready,
      replay_over c.args.self.now.version c.requires.ready.config c.requires.ready.now c.requires.ready.es c.state.result _ _ _ _ _ _ _ _ _ _ _
          (c.state.ensures.value (opened c.requires.ready.config c.requires.ready.now) c.requires.ready.stands)
          (c.in_ok-counts.ensures.events (opened c.requires.ready.config c.requires.ready.now) c.requires.ready.es on)
          c.in_ok-hand_state.ensures.kept
          (c.in_ok-counts.ensures.kept (opened c.requires.ready.config c.requires.ready.now) c.requires.ready.es on)
          c.in_ok-hand_done.ensures.kept,
    )
