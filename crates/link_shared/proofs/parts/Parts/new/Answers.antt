use Rattle.std.proofs.Common.{refl, rules, [], ◌∷◌, ap, subst, ◌∙◌}
use Rattle.client_state.specs.State.{IsId}
use Rattle.client_state.specs.declared.state.State.{State}
use Rattle.link_shared.proofs.PartsLemmas.{config_stays, opened_with_its_config, its_config_is_one, room_at_start, row_of_opening}
use Rattle.link_shared.proofs.parts.Parts.new.Goals as goal

pub invariant_of-result : goal.invariant_of-result
invariant_of-result g c =
    let node = c.in_ok-node.node in
    let lists = c.in_ok-lists.lists in
    let room = c.in_ok-lists.ensures.room in
    let note = c.in_ok-cells.cells.note_is in
    let stands = opened_with_its_config node _ _ _ refl c.in_ok-node.ensures.stands in
    let shows = c.state-state.ensures.value _ stands in (
      its_config_is_one node _ _ c.in_ok-node.ensures.stands c.requires.config,
      search rules,
      stands,
      c.in_ok-node.ensures.app,
      c.in_ok-node.ensures.audio,
      lists.empty.0,
      c.in_ok-lists.ensures.published ∙ ap (λ state. state ∷ []) shows,
      (stands.sound.published, subst (λ (state : State). IsId state.session) shows c.is_id.ensures),
      row_of_opening _ _ _ _ c.row-row.ensures.words c.in_ok-cells.ensures.app_row c.in_ok-lists.ensures.published,
      row_of_opening _ _ _ _ c.row-row.ensures.words c.in_ok-cells.ensures.audio_row c.in_ok-lists.ensures.published,
      room_at_start _ _ _ c.requires.events.1 room.0 room.1,
      note.0,
      note.1,
      search rules,
      search rules,
      search rules,
      search rules,
      search rules,
      lists.empty.1,
      lists.empty.2,
    )

pub returns-clause-given : goal.returns-clause-given
returns-clause-given g c = (config_stays c.in_ok-node.node _ _ c.in_ok-node.ensures.stands, search rules, search rules)
