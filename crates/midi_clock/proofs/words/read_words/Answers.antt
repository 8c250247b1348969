use Rattle.std.proofs.Common.{refl}
use Rattle.midi_clock.specs.Words.{is_option}
use Rattle.midi_clock.proofs.WordLemmas.{four_parts, quantum_signed, tempo_signed}
use Rattle.midi_clock.proofs.words.read_words.Goals as goal

pub option_in-requires : goal.option_in-requires
unfolding is_option
option_in-requires c = refl

pub option_in-requires-2 : goal.option_in-requires-2
unfolding is_option
option_in-requires-2 c = refl

pub returns-clause-asks : goal.returns-clause-asks
returns-clause-asks c =
    let seconds = c.in_ok-seconds.ensures.says in
    let tempo = c.in_ok-mpb.ensures.says in
    let local = c.in_ok-local.ensures.says in
    let peers = c.in_ok-peers.ensures.says in
    record {
      first = seconds.0;
      second = tempo.0;
      places = four_parts _ _ _ _ _ seconds.1 tempo.1 local.1 peers.0;
      seconds_said = seconds.2;
      tempo_said = tempo_signed _ _ tempo.2;
      endpoint = local.0;
      endpoints = peers.1;
      room = peers.2;
      quantum_said = quantum_signed _ _ c.in-Some.ensures.some;
      group_said = c.in-Some-option_in.ensures.some;
    }
