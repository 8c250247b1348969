use Rattle.std.proofs.Common.{◌≡◌, ◌∙◌, sym, subst, w64, to_z, of_z}
use Rattle.std.proofs.lemmas.List.{length-map}
use Rattle.std.proofs.lemmas.Int.{to_z-of_z}
use Rattle.lk_base.specs.Ranges.{IsMoment}
use Rattle.link_shared.proofs.OfferLemmas.{quiet, audio_stands, audio_told, no_read, as_read}
use Rattle.link_shared.proofs.keeper.Keeper.offer_audio.Goals as goal

pub returns-then-read-state-clause-offered : goal.returns-then-read-state-clause-offered
returns-then-read-state-clause-offered g c =
    let told = audio_told c.args.self.now.node _ c.args.self.now.stands c.state.result.audio (λ m s. (c.state.ensures.counts m s).1) in
    no_read _ _ _ _ _ _ _ (rw (← told) c.if-read-state.true) (simp length-map c.args.self.now.room.few_events)

pub offer-requires-clause-event : goal.offer-requires-clause-event
offer-requires-clause-event g c κs within =
    let same : to_z w64 (of_z w64 c.args.now) ≡ c.args.now = to_z-of_z w64 c.args.now c.ranges.now in
    let count = audio_told c.args.self.now.node _ c.args.self.now.stands c.state.result.audio (λ m s. (c.state.ensures.counts m s).1) ∙ sym (audio_stands c.args.self.now.node _ c.args.self.now.stands) in
    (subst IsMoment (sym same) c.requires.moment, (c.from_row.ensures.tidy, rw (← count) c.if-read-state.false, c.requires.number))

pub returns-clause-offered : goal.returns-clause-offered
returns-clause-offered g c =
    let told = audio_told c.args.self.now.node _ c.args.self.now.stands c.state.result.audio (λ m s. (c.state.ensures.counts m s).1) in
    let same : to_z w64 (of_z w64 c.args.now) ≡ c.args.now = to_z-of_z w64 c.args.now c.ranges.now in
    as_read _ _ _ _ _ _ _ _ _ _ _ (rw (← told) c.if-read-state.false) c.offer.ensures.offered cc

pub returns-clause-sends : goal.returns-clause-sends
returns-clause-sends g c = quiet _ _ _ _ _ _ _ _ c.offer.ensures.offered (λ m. c.commits_send_nothing.ensures.audio m _ _ _)
