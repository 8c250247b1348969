use Rattle.std.proofs.Common.{◌+ℤ◌, ◌-ℤ◌, arith}
use Rattle.std.proofs.lemmas.Int.{ints}
use Rattle.client_state.proofs.TogetherLemmas.{follows, AreClients, as_far, one_tempo, there_too}
use Rattle.client_state.proofs.laws.clients_of_a_session_click_together.Goals as goal

pub returns-clause-follows : goal.returns-clause-follows
returns-clause-follows c = follows

pub returns-clause-click : goal.returns-clause-click
returns-clause-click c = λ session client other offset other_offset time tidy other_tidy follow other_follows reach other_reach.
    let at = time +ℤ offset -ℤ other_offset in
    let both : AreClients session client other offset other_offset time at =
    record { follow = follow; other_follows = other_follows; reach = reach; other_reach = other_reach } in
    c.equal_tempos_click_alike.ensures.click client other time at tidy other_tidy
    (one_tempo session client other offset other_offset time at both)
    (as_far session client other offset other_offset time at both)
    reach.beats other_reach.beats

pub returns-clause-accent : goal.returns-clause-accent
returns-clause-accent c = λ session client other offset other_offset time q tidy other_tidy follow other_follows reach other_reach.
    let at = time +ℤ offset -ℤ other_offset in
    let both : AreClients session client other offset other_offset time at =
    record { follow = follow; other_follows = other_follows; reach = reach; other_reach = other_reach } in
    c.equal_tempos_click_alike.ensures.accent client other time at q tidy other_tidy
    (one_tempo session client other offset other_offset time at both)
    (as_far session client other offset other_offset time at both)
    reach.beats other_reach.beats

pub returns-clause-beat : goal.returns-clause-beat
returns-clause-beat c = λ session client other offset other_offset k time there tidy other_tidy follow other_follows reach other_reach passes passes_there.
    let at = time +ℤ offset -ℤ other_offset in
    let both : AreClients session client other offset other_offset time there =
    record { follow = follow; other_follows = other_follows; reach = reach; other_reach = other_reach } in
    let passes_at = c.equal_tempos_click_alike.ensures.beat client other k time at tidy other_tidy
    (one_tempo session client other offset other_offset time there both)
    (as_far session client other offset other_offset time there both)
    reach.beats
    (there_too session client other offset other_offset time there both)
    passes in
    let once = c.beats_click_once.ensures other k at there other_tidy passes_at passes_there in
    omega (arith, ints, once)
