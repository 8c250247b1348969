use Rattle.std.proofs.Common.{◌∙◌, codes, refl, sym, w64}
use Rattle.std.proofs.lemmas.Int.{to_z-of_z}
use Rattle.link_words.specs.ControlWords.{SaysEndpoint, control_app}
use Rattle.link_words.proofs.CommandWordLemmas.{said, text_said}
use Rattle.link_words.proofs.control_words.control_options.Goals as goal

pub number_in-requires : goal.number_in-requires
number_in-requires c = record { some = (1, 524_288, c.in-Ok.ensures.events) }

pub returns-in-Some-clause-named : goal.returns-in-Some-clause-named
returns-in-Some-clause-named c =
    let words = c.args.words.now in
    let m = c.in-Ok.matches in
    let quantum = c.microbeats_in.ensures.is in
    let says : SaysEndpoint words c.in-Some.at = record {
      range = c.in-Some.ensures.some.0;
      said = sym (text_said control_app words m (codes "ENDPOINT") refl c.in-Ok.ensures.matches) ∙ c.in-Some.ensures.some.1;
    } in record {
      is_control = record {
        begins = c.begins_with.ensures.0 c.if-not-begins_with.false;
        no_fault = c.in-Ok.ensures.kinds;
        at = c.in-Some.at;
        says = says;
      };
      at_is = says;
      events_is = said control_app words m (codes "events") _ refl c.in-Ok.ensures.matches c.number_in.ensures.is;
      quantum_is = (
        quantum.0,
        said control_app words m (codes "quantum") quantum.0 refl c.in-Ok.ensures.matches quantum.1,
        to_z-of_z w64 c.microbeats_in.result (record { sfits = c.microbeats_in.type_inv }) ∙ quantum.2,
      );
      group_is = said control_app words m (codes "group") _ refl c.in-Ok.ensures.matches c.group_in.ensures;
    }

pub returns-in-Ok-clause-not_taken : goal.returns-in-Ok-clause-not_taken
returns-in-Ok-clause-not_taken c = λ not_taken is.
    c.in-None.ensures.none is.at is.says.range
    (text_said control_app c.args.words.now c.in-Ok.matches (codes "ENDPOINT") refl c.in-Ok.ensures.matches ∙ is.says.said)
