use Rattle.std.proofs.Common.{◌≡◌, ◌↔◌, ◌∙◌, ℕ, List, Option, Some, true, codes, refl, subst, rules, w64}
use Rattle.std.proofs.lemmas.Int.{to_z-of_z}
use Rattle.link_words.specs.LiveWords.{live_app}
use Rattle.link_words.proofs.CommandWordLemmas.{said, text_said}
use Rattle.link_words.proofs.live_words.live_options.Goals as goal

pub number_in-requires : goal.number_in-requires
number_in-requires c = record { some = (1, 524_288, c.in-Ok.ensures.events) }

pub number_in-requires-in-Ok : goal.number_in-requires-in-Ok
number_in-requires-in-Ok c = record { some = (0, 524_288, search rules) }

pub returns-in-Ok-clause-named : goal.returns-in-Ok-clause-named
returns-in-Ok-clause-named c =
    let words = c.args.words.now in
    let m = c.in-Ok.matches in
    let quantum = c.microbeats_in.ensures.is in record {
      is_live = (c.begins_with.ensures.0 c.if-not-begins_with.false, c.in-Ok.ensures.kinds);
      events_is = said live_app words m (codes "events") _ refl c.in-Ok.ensures.matches c.number_in.ensures.is;
      blocks_is = said live_app words m (codes "blocks") _ refl c.in-Ok.ensures.matches c.number_in-in-Ok.ensures.is;
      quantum_is = (
        quantum.0,
        said live_app words m (codes "quantum") quantum.0 refl c.in-Ok.ensures.matches quantum.1,
        to_z-of_z w64 c.microbeats_in.result (record { sfits = c.microbeats_in.type_inv }) ∙ quantum.2,
      );
      group_is = said live_app words m (codes "group") _ refl c.in-Ok.ensures.matches c.group_in.ensures;
      record_is = subst (λ (o : Option (List ℕ)). (c.flag_in.result ≡ true) ↔ (o ≡ Some (codes "true")))
          (text_said live_app words m (codes "record") refl c.in-Ok.ensures.matches) c.flag_in.ensures;
    }
