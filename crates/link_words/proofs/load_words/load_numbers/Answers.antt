use Rattle.std.proofs.Common.{◌-◌, ◌^◌, codes, refl}
use Rattle.link_words.proofs.CommandWordLemmas.{said}
use Rattle.link_words.specs.LoadWords.{load_app}
use Rattle.link_words.proofs.load_words.load_numbers.Goals as goal

pub number_in-requires : goal.number_in-requires
number_in-requires c = record { some = (0, 2 ^ 64 - 1, c.in-Ok.ensures.seed) }

pub number_in-requires-in-Ok : goal.number_in-requires-in-Ok
number_in-requires-in-Ok c = record { some = (1, 524_288, c.in-Ok.ensures.count) }

pub returns-in-Ok-clause-named : goal.returns-in-Ok-clause-named
returns-in-Ok-clause-named c = record {
  load = (c.begins_with.ensures.0 c.if-not-begins_with.false, c.in-Ok.ensures.kinds);
  seed_is = said load_app c.args.words.now c.in-Ok.matches (codes "SEED") _ refl c.in-Ok.ensures.matches c.number_in.ensures.is;
  count_is = said load_app c.args.words.now c.in-Ok.matches (codes "COUNT") _ refl c.in-Ok.ensures.matches c.number_in-in-Ok.ensures.is;
}

pub returns-in-Ok-clause-count : goal.returns-in-Ok-clause-count
returns-in-Ok-clause-count c = c.number_in-in-Ok.ensures.range 1 524_288 c.in-Ok.ensures.count
