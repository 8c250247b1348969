use Rattle.std.proofs.Common.{codes, refl, rules}
use Rattle.link_words.proofs.CommandWordLemmas.{said}
use Rattle.link_words.specs.MidiWords.{midi_app}
use Rattle.link_words.proofs.midi_words.midi_numbers.Goals as goal

pub number_in-requires : goal.number_in-requires
number_in-requires c = record { some = (1, 1_000_000, c.in-Ok.ensures.length) }

pub number_in-requires-in-Ok : goal.number_in-requires-in-Ok
number_in-requires-in-Ok c = record { some = (0, 524_288, search rules) }

pub invariant_of-result : goal.invariant_of-result
invariant_of-result c =
    let length = c.number_in.ensures.range 1 1_000_000 c.in-Ok.ensures.length in
    let blocks = c.number_in-in-Ok.ensures.range 0 524_288 c.in-Ok.ensures.blocks in
    record { some = length.0; short = length.1; few = blocks.1 }

pub returns-in-Ok-clause-named : goal.returns-in-Ok-clause-named
returns-in-Ok-clause-named c = record {
  midi = (c.begins_with.ensures.0 c.if-not-begins_with.false, c.in-Ok.ensures.kinds);
  length_is = said midi_app c.args.words.now c.in-Ok.matches (codes "LENGTH") _ refl c.in-Ok.ensures.matches c.number_in.ensures.is;
  blocks_is = said midi_app c.args.words.now c.in-Ok.matches (codes "BLOCKS") _ refl c.in-Ok.ensures.matches c.number_in-in-Ok.ensures.is;
}
