use Rattle.std.proofs.Common.{arith}
use Rattle.std.proofs.lemmas.Int.{ints}
use Rattle.link_world.specs.Apart.{offset_by}
use Rattle.link_world.proofs.laws.one_beat_clicks_nearly_at_once.Goals as goal

pub returns-clause-measured : goal.returns-clause-measured
returns-clause-measured c = λ session client other life there ahead other_ahead round_trip other_round_trip k time at measured other_measured tidy other_tidy follow other_follows reach other_reach passes other_passes.
    let same = c.clients_of_a_session_click_together.ensures.beat session client other (offset_by life) (offset_by there) k time at tidy other_tidy follow other_follows reach other_reach passes other_passes in
    let near = c.honest_pongs_bound_the_error.ensures.bound life ahead round_trip measured.done measured.clock measured.fair in
    let other_near = c.honest_pongs_bound_the_error.ensures.bound there other_ahead other_round_trip other_measured.done other_measured.clock other_measured.fair in
    omega (arith, ints, same, near, other_near)

pub returns-clause-founder : goal.returns-clause-founder
returns-clause-founder c = λ session client other there offset other_ahead other_round_trip k time at other_measured tidy other_tidy follow other_follows reach other_reach passes other_passes.
    let same = c.clients_of_a_session_click_together.ensures.beat session client other offset (offset_by there) k time at tidy other_tidy follow other_follows reach other_reach passes other_passes in
    let other_near = c.honest_pongs_bound_the_error.ensures.bound there other_ahead other_round_trip other_measured.done other_measured.clock other_measured.fair in
    omega (arith, ints, same, other_near)
