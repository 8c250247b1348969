use Rattle.std.proofs.Common.{subst}
use Rattle.link_node.specs.Event.{event_value, moment_of}
use Rattle.link_node.specs.Kinds.{is_tick}
use Rattle.link_node.specs.Machine.{Machine}
use Rattle.link_node.specs.Settling.{noted, settled}
use Rattle.link_node.specs.Standing.{HasParts, StandsFor}
use Rattle.link_node.specs.Step.{step_of, sends_of, change_of, before_broadcast, before_shown, taken, answers, alives_by, at_moment}
use Rattle.link_node.specs.declared.node.settling.Held.{Held}
use Rattle.link_node.proofs.StepLemmas.{fits-too, both-sent, few-sent}
use Rattle.link_node.proofs.node.Node.step.Goals as goal

-- once it is known whether there is something new to tell
stood : (c : goal.After-publish) (m : Machine) → StandsFor c.args.self.now m → HasParts c.note.new.self (before_broadcast (event_value c.args.event.now) m)
unfolding before_broadcast
stood c m stands =
    let e = event_value c.args.event.now in
    let after : Machine = settled (taken e (at_moment (moment_of e) m)) in
    subst (λ (held : Held). HasParts c.note.new.self (noted held after)) (c.held-before.ensures m stands.parts)
    (c.note.ensures.stands after (c.settle.ensures.stands (taken e (at_moment (moment_of e) m)) (c.take.ensures.stands m stands.sound.sessions stands.parts)))

-- and after a broadcast
told : (c : goal.After-publish) (m : Machine) → StandsFor c.args.self.now m → HasParts c.broadcast_by.new.self (before_shown (event_value c.args.event.now) m)
unfolding before_shown
told c m stands = c.broadcast_by.ensures.stands (before_broadcast (event_value c.args.event.now) m) (stood c m stands)

pub returns-clause-stands : goal.returns-clause-stands
unfolding step_of
returns-clause-stands c m stands = record {
  parts = c.publish.ensures.stands (before_shown (event_value c.args.event.now) m) (told c m stands);
  sound =
      c.nodes_are_well_formed.ensures.step m (event_value c.args.event.now) stands.sound
      (fits-too c.args.self.now m (event_value c.args.event.now) stands.parts c.requires.event);
}

pub returns-clause-sends : goal.returns-clause-sends
unfolding sends_of
returns-clause-sends c m stands =
    let e = event_value c.args.event.now in
    both-sent c.args.sends.now c.take.new.sends c.broadcast_by.new.sends (answers e (at_moment (moment_of e) m)) (alives_by e (before_broadcast e m))
    (c.take.ensures.sends m stands.sound.sessions stands.parts) (c.broadcast_by.ensures.sends (before_broadcast e m) (stood c m stands))

pub returns-clause-change : goal.returns-clause-change
unfolding change_of
returns-clause-change c m stands = c.publish.ensures.change (before_shown (event_value c.args.event.now) m) (told c m stands)

pub returns-clause-len : goal.returns-clause-len
returns-clause-len c =
    few-sent (is_tick (event_value c.args.event.now)) c.args.sends.now c.take.new.sends c.broadcast_by.new.sends
    c.take.ensures.tick c.take.ensures.len c.broadcast_by.ensures.tick c.broadcast_by.ensures.other
