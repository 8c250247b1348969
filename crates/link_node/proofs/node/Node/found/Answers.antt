use Rattle.std.proofs.Common.{◌≡◌, ◌∙◌, ap, subst, refl, rules, [], None, neg_ℤ, ◌+◌, ℤ}
use Rattle.rand_pcg.specs.Lcg.{Lcg}
use Rattle.lk_base.specs.declared.ids.NodeId.{NodeId}
use Rattle.lk_base.specs.declared.timeline.Timeline.{Timeline}
use Rattle.lk_base.specs.Ids.{drawn_id, source_after}
use Rattle.client_state.specs.Starts.{latest_start_of}
use Rattle.session_choice.specs.History.{History, StandsFor, opening}
use Rattle.link_node.specs.Machine.{Machine}
use Rattle.link_node.specs.Settling.{founded, founding_timeline_in, id_drawn}
use Rattle.link_node.proofs.NumberLemmas.{moment-back}
use Rattle.link_node.proofs.SourceLemmas.{source-next}
use Rattle.link_node.proofs.node.Node.found.Goals as goal

pub invariant_of-self-clause-timelines : goal.invariant_of-self-clause-timelines
invariant_of-self-clause-timelines c = c.reset.ensures.tidy c.founding_timeline-timeline.ensures.tidy

pub returns-clause-stands : goal.returns-clause-stands
unfolding founded id_drawn latest_start_of
returns-clause-stands c m stands =
    let before : Machine = record m {
      drawn = m.drawn + 1;
      id = id_drawn m.config.seed m.drawn;
      sessions = opening (id_drawn m.config.seed m.drawn) (founding_timeline_in m) (neg_ℤ m.moment);
      starts = [];
      life = [];
      waiting = [];
      measuring = None;
      remeasure_at = None;
    } in
    let offset : c.beginning_at.result.offset ≡ neg_ℤ m.moment =
    c.beginning_at.ensures ∙ ap (λ (z : ℤ). neg_ℤ z) (moment-back c.args.self.now.moment c.args.self.now.in_time ∙ stands.moment) in
    c.renew.ensures.stands before (record {
      config = stands.config;
      moment = stands.moment;
      ids = c.draw-self.ensures.source ∙ ap (λ (source : Lcg). source_after 8 source) stands.ids ∙ source-next m.drawn _;
      id = c.draw-self.ensures.id ∙ ap (λ (source : Lcg). drawn_id source) stands.ids;
      sessions =
          subst (λ (h : History). StandsFor c.reset.new.self h)
          (ap (λ (id : NodeId). opening id c.founding_timeline-timeline.result c.beginning_at.result.offset) (c.draw-self.ensures.id ∙ ap (λ (source : Lcg). drawn_id source) stands.ids)
          ∙ ap (λ (tl : Timeline). opening (id_drawn m.config.seed m.drawn) tl c.beginning_at.result.offset) (c.founding_timeline-timeline.ensures.value m stands)
          ∙ ap (λ (offset : ℤ). opening (id_drawn m.config.seed m.drawn) (founding_timeline_in m) offset) offset)
          c.reset.ensures.stands;
      session_start = refl;
      life = c.clear.ensures.stands;
      peers = stands.peers;
      waiting = c.clear-2.ensures;
      remeasure_at = refl;
      measuring = search rules;
      last_broadcast = stands.last_broadcast;
      changed = stands.changed;
      client = stands.client;
      client_start = stands.client_start;
      quantum = stands.quantum;
      app = stands.app;
      audio = stands.audio;
      published = stands.published;
    })
