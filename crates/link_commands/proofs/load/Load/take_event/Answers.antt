use Rattle.std.proofs.Common.{◌≡◌, ◌+◌, ◌≤◌, ◌∙◌, ℕ, ap, refl, sym, map, length, arith}
use Rattle.std.proofs.lemmas.List.{length-map}
use Rattle.link_node.specs.Event.{event_value, sending_value}
use Rattle.link_node.specs.Machine.{Machine}
use Rattle.link_node.specs.Standing.{StandsFor, app_of, audio_of}
use Rattle.link_node.specs.Step.{sends_of, step_of}
use Rattle.link_text.specs.ReplayText.{published_in}
use Rattle.link_commands.proofs.LoadLemmas.{taken_more}
use Rattle.link_commands.proofs.ReplayLemmas.{sent_in, shown_in}
use Rattle.link_commands.proofs.load.Load.take_event.Goals as goal

pub step-change-requires-clause-event : goal.step-change-requires-clause-event
step-change-requires-clause-event c =
    let taken = c.requires.taken.1 in
    rw taken.one_gate (c.next-event.ensures.fits (app_of c.args.self.now.node) (audio_of c.args.self.now.node) (omega (arith, taken.few_commits, c.requires.few)))

pub returns-clause-taken : goal.returns-clause-taken
returns-clause-taken c seed has =
    let e = event_value c.next-event.result in
    let count : length (map sending_value c.list.result.now) ≡ length c.list.result.now = length-map c.list.result.now sending_value in
    let sent : (m : Machine) → StandsFor c.args.self.now.node m → map sending_value c.list.result.now ≡ sends_of m e =
    λ m stands. sent_in m e _ _ _ c.list.ensures c.clear.ensures (c.step-change.ensures.sends m stands) in
    let within : length c.list.result.now ≤ 129 = omega (arith, count, ap length c.list.ensures, ap length c.clear.ensures, c.step-change.ensures.len) in
    let published : (m : Machine) → StandsFor c.args.self.now.node m → c.count_of.result ≡ length (published_in m e) =
    λ m stands. c.count_of.ensures.count (step_of m e).published ∙ ap length (shown_in m e _ _ (c.step-change.ensures.change m stands) refl) in
    taken_more c.runs_go_on.ensures.machine c.runs_go_on.ensures.sent c.runs_go_on.ensures.published
    seed c.args.self.now.events _ _ _ _ _ _ _ c.args.counts.now _ e c.state.result
    c.state.ensures.value c.next-event.ensures.event c.next-event.ensures.made
    c.step-change.ensures.stands c.step-change.ensures.gates c.step-change.ensures.app refl
    (λ m stands. ap (λ (n : ℕ). c.args.counts.now.states + n) (published m stands))
    (λ m stands. ap (λ (n : ℕ). c.args.counts.now.sends + n) (sym count ∙ ap length (sent m stands)))
    (omega (arith, c.count_of.ensures.few)) (omega (arith, within)) has
