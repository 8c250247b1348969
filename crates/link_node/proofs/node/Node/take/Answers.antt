use Rattle.std.proofs.Common.{subst}
use Rattle.lk_base.specs.Ranges.{IsMoment}
use Rattle.link_node.specs.Event.{event_value, moment_of}
use Rattle.link_node.specs.Step.{at_moment}
use Rattle.link_node.specs.declared.event.Event.{Event}
use Rattle.link_node.proofs.StepLemmas.{sessions-at, advanced}
use Rattle.link_node.proofs.node.Node.take.Goals as goal

pub returns-in-Rx-clause-stands : goal.returns-in-Rx-clause-stands
returns-in-Rx-clause-stands c m sound stands =
    let inside : IsMoment c.in-Rx.now = subst (λ (e : Event). IsMoment (moment_of (event_value e))) c.in-Rx.is c.requires.event.0 in
    rw c.in-Rx.is (c.arrive.ensures.stands (at_moment c.in-Rx.now m) (sessions-at c.in-Rx.now m sound) (advanced c.advance.new.self m c.in-Rx.now inside (c.advance.ensures.stands m stands)))

pub returns-in-Rx-clause-sends : goal.returns-in-Rx-clause-sends
returns-in-Rx-clause-sends c m sound stands =
    let inside : IsMoment c.in-Rx.now = subst (λ (e : Event). IsMoment (moment_of (event_value e))) c.in-Rx.is c.requires.event.0 in
    rw c.in-Rx.is (c.arrive.ensures.sends (at_moment c.in-Rx.now m) (advanced c.advance.new.self m c.in-Rx.now inside (c.advance.ensures.stands m stands)))

pub returns-in-Tick-clause-stands : goal.returns-in-Tick-clause-stands
returns-in-Tick-clause-stands c m sound stands =
    let inside : IsMoment c.in-Tick.now = subst (λ (e : Event). IsMoment (moment_of (event_value e))) c.in-Tick.is c.requires.event.0 in
    rw c.in-Tick.is (c.tick.ensures.stands (at_moment c.in-Tick.now m) (sessions-at c.in-Tick.now m sound) (advanced c.advance-in-Tick.new.self m c.in-Tick.now inside (c.advance-in-Tick.ensures.stands m stands)))

pub returns-in-Tick-clause-sends : goal.returns-in-Tick-clause-sends
returns-in-Tick-clause-sends c m sound stands =
    let inside : IsMoment c.in-Tick.now = subst (λ (e : Event). IsMoment (moment_of (event_value e))) c.in-Tick.is c.requires.event.0 in
    rw c.in-Tick.is (c.tick.ensures.sends (at_moment c.in-Tick.now m) (sessions-at c.in-Tick.now m sound) (advanced c.advance-in-Tick.new.self m c.in-Tick.now inside (c.advance-in-Tick.ensures.stands m stands)))

pub returns-in-App-clause-stands : goal.returns-in-App-clause-stands
returns-in-App-clause-stands c m sound stands =
    let inside : IsMoment c.in-App.now = subst (λ (e : Event). IsMoment (moment_of (event_value e))) c.in-App.is c.requires.event.0 in
    rw c.in-App.is (c.take_app.ensures.stands (at_moment c.in-App.now m) (advanced c.advance-in-App.new.self m c.in-App.now inside (c.advance-in-App.ensures.stands m stands)))

pub returns-in-Audio-clause-stands : goal.returns-in-Audio-clause-stands
returns-in-Audio-clause-stands c m sound stands =
    let inside : IsMoment c.in-Audio.now = subst (λ (e : Event). IsMoment (moment_of (event_value e))) c.in-Audio.is c.requires.event.0 in
    rw c.in-Audio.is (c.take_audio.ensures.stands (at_moment c.in-Audio.now m) (advanced c.advance-in-Audio.new.self m c.in-Audio.now inside (c.advance-in-Audio.ensures.stands m stands)))

pub returns-in-End-clause-stands : goal.returns-in-End-clause-stands
returns-in-End-clause-stands c m sound stands =
    let inside : IsMoment c.in-End.now = subst (λ (e : Event). IsMoment (moment_of (event_value e))) c.in-End.is c.requires.event.0 in
    rw c.in-End.is (advanced c.advance-in-End.new.self m c.in-End.now inside (c.advance-in-End.ensures.stands m stands))

pub returns-in-End-clause-sends : goal.returns-in-End-clause-sends
returns-in-End-clause-sends c m sound stands =
    let inside : IsMoment c.in-End.now = subst (λ (e : Event). IsMoment (moment_of (event_value e))) c.in-End.is c.requires.event.0 in
    rw c.in-End.is (c.send_byes.ensures.sends (at_moment c.in-End.now m) (advanced c.advance-in-End.new.self m c.in-End.now inside (c.advance-in-End.ensures.stands m stands)))
