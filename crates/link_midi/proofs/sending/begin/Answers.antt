use Rattle.std.proofs.Common.{ℕ, List, [], ◌∷◌, ◌++◌, ap, sym, ◌∙◌, append_assoc}
use Rattle.std.proofs.lemmas.Int.{to_z-of_z}
use mir.Syntax.{w64}
use Rattle.link_midi.specs.Events.{event, opening_at}
use Rattle.link_midi.specs.declared.message.MidiEvent.{MidiEvent}
use Rattle.link_midi.specs.declared.message.MidiMessage.TheVariants.{Position, Continue}
use Rattle.link_midi.proofs.SendingLemmas.{opening_else}
use Rattle.link_midi.proofs.sending.begin.Goals as goal

pub returns-then-position-eq0-clause-sent : goal.returns-then-position-eq0-clause-sent
unfolding opening_at
returns-then-position-eq0-clause-sent c =
    let pushed = simp (to_z-of_z w64 _ c.ranges.at) at c.push.ensures.items in
    pushed ∙ ap (λ (n : ℕ). c.args.events.now.items ++ opening_at c.args.at n) (sym c.if-position-eq0.true)

pub returns-else-position-eq0-clause-sent : goal.returns-else-position-eq0-clause-sent
returns-else-position-eq0-clause-sent c =
    let old = c.args.events.now.items in
    let first = simp (to_z-of_z w64 _ c.ranges.at) at c.push-else-position-eq0.ensures.items in
    let second = simp (to_z-of_z w64 _ c.ranges.at) at c.push-else-position-eq0-2.ensures.items in
    second
    ∙ ap (λ (xs : List MidiEvent). xs ++ event c.args.at Continue ∷ []) first
    ∙ append_assoc old (event c.args.at (Position c.args.position) ∷ []) (event c.args.at Continue ∷ [])
    ∙ ap (λ (xs : List MidiEvent). old ++ xs) (sym (opening_else c.args.at c.args.position c.if-position-eq0.false))
