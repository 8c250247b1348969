use Rattle.std.proofs.Common.{◌≡◌, ◌∙◌, ap, sym, subst, refl, arith, ℤ, pos, rules}
use Rattle.std.specs.Prelude.{neg_ℤ}
use Rattle.client_state.specs.Edits.{timeline_at}
use Rattle.client_state.specs.declared.state.State.{State}
use Rattle.client_state.specs.Starts.{latest_start_of}
use Rattle.lk_base.specs.Ranges.{IsMoment}
use Rattle.lk_base.specs.Ids.{source_after}
use Rattle.session_choice.specs.History.{History, StandsFor, opening}
use Rattle.lk_base.specs.declared.timeline.Timeline.{Timeline}
use Rattle.link_node.specs.Config.{ConfigValue, config_value}
use Rattle.link_node.specs.Opening.{opened, opening_state_of}
use Rattle.link_node.proofs.GateLemmas.{gate-count}
use Rattle.link_node.proofs.NumberLemmas.{moment-back, mpb-back, quantum-back}
use Rattle.link_node.proofs.node.Node.new.Goals as goal

pub invariant_of-result-clause-in_time : goal.invariant_of-result-clause-in_time
invariant_of-result-clause-in_time c = subst (λ (z : ℤ). IsMoment z) (sym (moment-back c.args.now c.requires.moment)) c.requires.moment

pub invariant_of-result-clause-gates : goal.invariant_of-result-clause-gates
invariant_of-result-clause-gates c =
    let value : ConfigValue = config_value c.args.config.now in
    let copied = gate-count c.copied.result value c.copied.ensures in
    let passed = gate-count c.args.config.now value refl in
    let some = c.requires.config.some_gate in
    let few = c.requires.config.few_gates in
    let peers = c.in_ok-new-2.ensures.gates in
    (omega (arith, copied, some), omega (arith, copied, few), peers ∙ c.len.ensures.value ∙ passed ∙ sym copied)

pub invariant_of-result-clause-timelines : goal.invariant_of-result-clause-timelines
invariant_of-result-clause-timelines c = c.in_ok-new.ensures.tidy c.timeline_from-session.ensures.tidy

pub returns-clause-stands : goal.returns-clause-stands
unfolding opened latest_start_of source_after
returns-clause-stands c =
    let moment = moment-back c.args.now c.requires.moment in
    let published = c.opening_state-published.ensures.value ∙ ap (λ (z : ℤ). opening_state_of (config_value c.args.config.now) z) moment in
    let session : c.timeline_from-session.result ≡ timeline_at c.args.config.now.mpb (pos 0) (pos 0) =
    c.timeline_from-session.ensures.value
    ∙ ap (λ (z : ℤ). timeline_at z (pos 0) (pos 0)) (mpb-back c.args.config.now.mpb c.requires.config.fastest c.requires.config.slowest) in
    let offset : c.beginning_at.result.offset ≡ neg_ℤ c.args.now = c.beginning_at.ensures ∙ ap (λ (z : ℤ). neg_ℤ z) moment in
    record {
      parts = record {
        config = c.copied.ensures;
        moment = moment;
        ids = c.new.ensures;
        id = refl;
        sessions =
            subst (λ (h : History). StandsFor c.in_ok-new.field-0 h)
            (ap (λ (tl : Timeline). opening c.args.config.now.id tl c.beginning_at.result.offset) session
            ∙ ap (λ (offset : ℤ). opening c.args.config.now.id (timeline_at c.args.config.now.mpb (pos 0) (pos 0)) offset) offset)
            c.in_ok-new.ensures.stands;
        session_start = refl;
        life = c.in_ok-new-2.ensures.stands;
        peers = refl;
        waiting = c.new-4.ensures;
        remeasure_at = refl;
        measuring = search rules;
        last_broadcast = refl;
        changed = refl;
        client = ap (λ (state : State). state.timeline) published;
        client_start = ap (λ (state : State). state.start) published;
        quantum =
            quantum-back c.opening_state-published.result.quantum c.opening_state-published.ensures.tidy.quantum
            ∙ ap (λ (state : State). state.quantum) published;
        app = refl;
        audio = refl;
        published = published;
      };
      sound = c.nodes_are_well_formed.ensures.opening _ _ c.requires.config c.requires.moment;
    }
