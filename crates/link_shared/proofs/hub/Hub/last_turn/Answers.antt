use Rattle.std.proofs.Common.{length, map, drop, refl, sym, ap, ◌∙◌, w64}
use Rattle.std.proofs.lemmas.Int.{to_z-of_z}
use Rattle.std.proofs.lemmas.List.{length-map}
use Rattle.crossbeam_queue.specs.Passes.{view}
use Rattle.client_state.specs.Words.{commit_of_words}
use Rattle.link_node.specs.Config.{config_value}
use Rattle.link_node.specs.Event.{event_value}
use Rattle.link_shared.specs.Audio.{AudioView}
use Rattle.link_shared.specs.Handed.{app_view_of}
use Rattle.link_shared.specs.Hub.{HubView}
use Rattle.link_shared.proofs.OfferLemmas.{audio_stands}
use Rattle.link_shared.proofs.LastTurnLemmas.{offers_of, has_ended, first_of_view, published_again, fitting_again, ended_again, were_published_as, offers_all}
use Rattle.link_shared.proofs.hub.Hub.last_turn.Goals as goal

pub returns : goal.returns
returns g c =
    let inside = c.self.inside in
    let one = c.offer_audio-audio_full in
    let two = c.drain-apps_full in
    let three = c.offer_end-end_full in
    let desk = c.into_inner-reader.result in
    let start = inside.keeper in
    let end = three.new.self in
    let hub : HubView = record {
      config = config_value start.node.config;
      opened_at = start.opened_at;
      most = start.most;
      journal = map event_value start.journal.items;
      reads = (g.C.StateCell.reading inside.commits).seen;
      popped = (view inside.pass).popped;
      quits = (view inside.pass).quits_popped;
      handed = map (app_view_of g.N.LinkName.whole) inside.handed.items;
    } in
    let audio : AudioView = record {
      seen = (g.C.StateCell.reading c.audio.inside.reader).seen;
      looks = (g.C.StateCell.reading c.audio.inside.reader).looks;
      made = map commit_of_words (drop 1 (g.C.StateCell.writing c.audio.inside.writer).made);
    } in
    let config = three.ensures.config.0 ∙ two.ensures.config.0 ∙ one.ensures.config.0 in
    let opening = three.ensures.opening.0 ∙ two.ensures.opening.0 ∙ one.ensures.opening.0 in
    let gates = three.ensures.config.1 ∙ two.ensures.config.1 ∙ one.ensures.config.1 ∙ sym (length-map start.node.config.gates.items _) in
    let pushed_same = two.ensures.pushed ∙ ap (λ hand. hand.pushed) c.join_ends.ensures.whole in
    record {
      ended = ended_again hub c.args.self audio c.args.audio c.args.now _ _ _ _ _ _ c.self.view_is c.audio.view_is c.settle-events.ensures.kept.0 c.settle-events.ensures.kept.1
          (has_ended hub audio c.args.now (c.settle-last.result.number, c.settle-last.result.row) (g.C.StateCell.writing c.audio.inside.writer).made
          (map event_value end.journal.items) end.published.items (g.C.StateCell.reading desk.reader).seen (view two.new.pass).pushed desk.book.total three.new.sends _
          (published_again _ _ _ _ _ _ config opening end.shown.published_are)
          (were_published_as _ _ _ c.hear_all.ensures.reader.1 c.settle-events.ensures.app)
          c.settle-events.ensures.audio
          (record {
            offers = offers_all _ _ _ _ _ _ _ _ two.ensures.all (offers_of hub c.args.now _ _ _ _ _ _ _ _ _ _ _ _ _ _ _ _ _ _ _ _ (to_z-of_z w64 c.args.now c.ranges.now) c.clear.ensures one.ensures.sends two.ensures.sends
                one.ensures.config.0 one.ensures.opening.0 one.ensures.opening.1 two.ensures.config.0 two.ensures.opening.0 two.ensures.opening.1
                (ap (λ hand. hand.popped) c.join_ends.ensures.whole) one.ensures.offered two.ensures.drained three.ensures.offered);
            fitting = fitting_again _ _ _ gates end.fitting;
            first = first_of_view _ _ _ _ (length-map start.journal.items event_value) c.self.invariant.4;
            counted = sym (audio_stands start.node _ start.stands) ∙ start.numbered;
            read = c.self.invariant.5;
            made = c.settle-last.ensures.lawful.seen_were_made;
            is_last = c.settle-last.ensures.last;
            audio_made = refl;
            heard = c.hear_all.ensures.heard;
            total_is = desk.in_book ∙ desk.counted ∙ ap length (sym pushed_same);
          }));
    }
