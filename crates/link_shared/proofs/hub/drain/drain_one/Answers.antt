use Rattle.std.proofs.Common.{refl, ap, ◌∙◌, arith, length, w64}
use Rattle.std.proofs.lemmas.Int.{to_z-of_z}
use Rattle.std.proofs.lemmas.List.{length-map}
use Rattle.crossbeam_queue.specs.Passes.{view}
use Rattle.link_shared.proofs.DrainLemmas.{drained_none, drained_one, none_left}
use Rattle.link_shared.proofs.hub.drain.drain_one.Goals as goal

pub offer_app-requires-clause-tidy : goal.offer_app-requires-clause-tidy
offer_app-requires-clause-tidy g c = λ κs lives. (rw c.in-Some-Commit.field-0-is at c.in-Some-Commit.ensures.popped).1

pub offer_app-requires-clause-room : goal.offer_app-requires-clause-room
offer_app-requires-clause-room g c = let none = ap length c.requires.sends in λ κs lives. omega (arith, none)

pub returns-in-Some-Commit-clause-ends : goal.returns-in-Some-Commit-clause-ends
returns-in-Some-Commit-clause-ends g c =
    let popped = rw c.in-Some-Commit.field-0-is at c.in-Some-Commit.ensures.popped in
    (ap (λ hand. hand.pushes) popped.0 ∙ c.requires.ends.0, ap (λ hand. hand.pops) popped.0 ∙ c.requires.ends.1)

pub returns-in-Some-Commit-clause-pushed : goal.returns-in-Some-Commit-clause-pushed
returns-in-Some-Commit-clause-pushed g c =
    let popped = rw c.in-Some-Commit.field-0-is at c.in-Some-Commit.ensures.popped in
    ap (λ hand. hand.pushed) popped.0

pub returns-in-Some-Commit-clause-drained : goal.returns-in-Some-Commit-clause-drained
returns-in-Some-Commit-clause-drained g c =
    let popped = rw c.in-Some-Commit.field-0-is at c.in-Some-Commit.ensures.popped in
    drained_one _ _ _ _ _ _ _ _ _ _ _ _ (to_z-of_z w64 c.args.now c.ranges.now) (ap (λ hand. hand.popped) popped.0) c.requires.sends c.offer_app.ensures.sends c.offer_app.ensures.offered

pub returns-in-Some-Quit-clause-ends : goal.returns-in-Some-Quit-clause-ends
returns-in-Some-Quit-clause-ends g c =
    let popped = rw c.in-Some-Quit.field-0-is at c.in-Some-Quit.ensures.popped in
    (ap (λ hand. hand.pushes) popped.0 ∙ c.requires.ends.0, ap (λ hand. hand.pops) popped.0 ∙ c.requires.ends.1)

pub returns-in-Some-Quit-clause-pushed : goal.returns-in-Some-Quit-clause-pushed
returns-in-Some-Quit-clause-pushed g c =
    let popped = rw c.in-Some-Quit.field-0-is at c.in-Some-Quit.ensures.popped in
    ap (λ hand. hand.pushed) popped.0

pub returns-in-Some-Quit-clause-drained : goal.returns-in-Some-Quit-clause-drained
returns-in-Some-Quit-clause-drained g c =
    let popped = rw c.in-Some-Quit.field-0-is at c.in-Some-Quit.ensures.popped in
    drained_none _ _ _ _ _ _ (ap (λ hand. hand.popped) popped.0) (simp length-map c.args.keeper.now.room.few_events)

pub returns-in-None-clause-ends : goal.returns-in-None-clause-ends
returns-in-None-clause-ends g c =
    let same = c.in-None.ensures.popped.0 in
    (ap (λ hand. hand.pushes) same ∙ c.requires.ends.0, ap (λ hand. hand.pops) same ∙ c.requires.ends.1)

pub returns-in-None-clause-drained : goal.returns-in-None-clause-drained
returns-in-None-clause-drained g c =
    let none = c.in-None.ensures.popped in
    (none_left (view c.args.pass.now) c.requires.ends.0 c.requires.ends.1 none.1, ap (λ hand. hand.popped) none.0, refl)

pub returns-in-None-clause-pushed : goal.returns-in-None-clause-pushed
returns-in-None-clause-pushed g c = ap (λ hand. hand.pushed) c.in-None.ensures.popped.0
