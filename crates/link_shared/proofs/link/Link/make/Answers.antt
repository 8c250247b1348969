use Rattle.std.proofs.Common.{rules, ◌≡◌, ap, sym, subst, ◌∙◌, length, map, w64, of_z, to_z}
use Rattle.lk_base.specs.Ranges.{IsMoment}
use Rattle.link_node.specs.Event.{event_value}
use Rattle.link_shared.specs.Handed.{app_view_of}
use Rattle.link_shared.specs.Parts.{PartsView}
use Rattle.link_shared.specs.declared.queue.Hand.{Hand}
use Rattle.link_shared.proofs.OpeningLemmas.{rests_unread, stands_unmoved, shown_at_opening, room_at_opening, none_counted, one_is_made, fitting_at_opening, numbered_at_opening, none_popped, none_were_read, is_new_hub, none_made, none_is_last, is_new_audio}
use Rattle.link_shared.proofs.HearingLemmas.{none_handed}
use Rattle.link_shared.proofs.link.Link.make.Goals as goal

pub invariant_of-new : goal.invariant_of-new
invariant_of-new g c =
    let parts = c.parts.inside in
    let known = c.parts.invariant in
    let rests = rests_unread (g.C.StateCell.reading parts.app_states.reader) parts.app_states.unread.0 in
    let hand = c.show_pass-known.ensures.same ∙ known.15 in
    record {
      reader_is = parts.app_states.reader_is ∙ ap (λ (view : PartsView). view.app_states) c.parts.view_is ∙ c.requires.cells.0;
      never_falls = rests.0;
      none_is_newer = rests.1;
      pass_is = (
        c.show_pass-known.ensures.queue.0.0 ∙ known.14.0.0 ∙ ap (λ (view : PartsView). view.queue) c.parts.view_is ∙ c.requires.queue,
        c.show_pass-known.ensures.queue.0.2 ∙ known.14.0.1,
        ap (λ (hand : Hand). hand.pushes) hand,
      );
      counted = sym (ap (λ (hand : Hand). length hand.pushed) hand);
      in_book = c.open-book.ensures.total;
      numbers_fit = search rules;
    }

pub invariant_of-result : goal.invariant_of-result
invariant_of-result g c =
    let parts = c.parts.inside in
    let known = c.parts.invariant in
    let none_taken = known.3 in
    let same : to_z w64 (of_z w64 parts.opened_at) ≡ parts.opened_at = search rules in
    record {
      cells = (
        parts.app_states.writer_is ∙ ap (λ (view : PartsView). view.app_states) c.parts.view_is ∙ c.requires.cells.0,
        parts.audio_states.writer_is ∙ ap (λ (view : PartsView). view.audio_states) c.parts.view_is ∙ c.requires.cells.1,
      );
      config = known.0;
      opening = subst IsMoment (sym same) known.1;
      stands = ∣ stands_unmoved parts.node _ _ _ _ same known.5 known.2 ∣₁;
      shown = shown_at_opening _ _ _ _ _ _ _ same known.5 known.6 known.7.0 known.7.1 known.8 known.9;
      room = room_at_opening _ _ _ _ _ _ known.5 known.6 known.10;
      fitting = ∣ fitting_at_opening _ _ known.5 ∣₁;
      counted = none_counted _ _ known.3;
      numbered = known.4 ∙ numbered_at_opening _ known.5;
    }

pub invariant_of-result-2 : goal.invariant_of-result-2
invariant_of-result-2 g c =
    let parts = c.parts.inside in
    let known = c.parts.invariant in (
      parts.audio_commits.reader_is ∙ ap (λ (view : PartsView). view.audio_commits) c.parts.view_is ∙ c.requires.cells.2,
      known.14.1.0 ∙ ap (λ (view : PartsView). view.queue) c.parts.view_is ∙ c.requires.queue,
      known.14.1.1,
      ap (λ (hand : Hand). hand.pops) known.16,
      none_popped _ _ _ known.5 (ap (λ (hand : Hand). hand.popped) known.16),
      none_were_read _ _ known.5,
      known.19,
      none_handed _ _ _ _ _ _ _ known.18 c.requires.ledger.2 c.empty-none.ensures.parts c.empty-none.ensures.amount,
    )

pub invariant_of-result-3 : goal.invariant_of-result-3
invariant_of-result-3 g c =
    let parts = c.parts.inside in
    let one_row = parts.audio_commits.one_row in (
      parts.audio_states.reader_is ∙ ap (λ (view : PartsView). view.audio_states) c.parts.view_is ∙ c.requires.cells.1,
      parts.audio_commits.writer_is ∙ ap (λ (view : PartsView). view.audio_commits) c.parts.view_is ∙ c.requires.cells.2,
      rests_unread (g.C.StateCell.reading parts.audio_states.reader) parts.audio_states.unread.0,
      one_is_made _ one_row,
      none_is_last _ one_row,
      search rules,
    )

pub invariant_of-result-4 : goal.invariant_of-result-4
invariant_of-result-4 g c =
    let known = c.parts.invariant in
    let same = c.empty-none.ensures.same in (
      known.11 ∙ ap (λ (view : PartsView). view.app_states) c.parts.view_is ∙ c.requires.cells.0,
      c.show_pass-known.ensures.queue.1.0 ∙ ap (λ (view : PartsView). view.queue) c.parts.view_is ∙ c.requires.queue,
      c.show_pass-known.ensures.queue.1.1,
      ap (λ share. share.parts) same ∙ c.open-book.ensures.parts ∙ sym c.requires.ledger.1 ∙ sym (ap (λ (view : PartsView). view.shares) c.parts.view_is) ∙ known.17,
      search rules,
      c.requires.ledger.2,
      ap (λ share. share.amount) same ∙ c.open-book.ensures.amount,
    )

pub invariant_of-result-5 : goal.invariant_of-result-5
invariant_of-result-5 g c = record {
  app_states_are = ap (λ (view : PartsView). view.app_states) c.parts.view_is ∙ c.requires.cells.0;
  audio_states_are = ap (λ (view : PartsView). view.audio_states) c.parts.view_is ∙ c.requires.cells.1;
  audio_commits_are = ap (λ (view : PartsView). view.audio_commits) c.parts.view_is ∙ c.requires.cells.2;
  queue_is = ap (λ (view : PartsView). view.queue) c.parts.view_is ∙ c.requires.queue;
  places = c.parts.invariant.13;
}

pub returns-clause-hub : goal.returns-clause-hub
returns-clause-hub g c =
    let parts = c.parts.inside in
    let known = c.parts.invariant in
    let same : to_z w64 (of_z w64 parts.opened_at) ≡ parts.opened_at = search rules in
    is_new_hub _ _ _ _ (ap (λ (view : PartsView). view.config) c.parts.view_is) (same ∙ ap (λ (view : PartsView). view.opened_at) c.parts.view_is)
    (ap (λ (view : PartsView). view.most) c.parts.view_is) (ap (map event_value) known.5) parts.audio_commits.unread.0 (ap (λ (hand : Hand). hand.popped) known.16)
    (ap (λ (hand : Hand). hand.quits_popped) known.16) (ap (map (app_view_of g.N.LinkName.whole)) known.18)

pub returns-clause-audio : goal.returns-clause-audio
returns-clause-audio g c =
    let parts = c.parts.inside in
    is_new_audio _ parts.audio_states.unread.0 parts.audio_states.unread.1 (none_made _ parts.audio_commits.one_row)
