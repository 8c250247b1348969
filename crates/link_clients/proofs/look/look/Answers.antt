use Rattle.std.proofs.Common.{◌∙◌, refl, sym, w64}
use Rattle.std.proofs.lemmas.Int.{to_z-of_z}
use Rattle.link_clients.specs.Standing.{sight_of}
use Rattle.link_clients.proofs.LookLemmas.{looked_to, no_memory, stored_moment}
use Rattle.link_clients.proofs.look.look.Goals as goal

pub returns-clause-goes : goal.returns-clause-goes
returns-clause-goes g c = λ start first was.
    looked_to _ _ start _ first _ _ c.args.hall.now _ _ c.in-Ok.capture (sight_of c.look-hall.result) c.in-Ok.ensures.captured
    (stored_moment _ c.args.hall.now.moment) c.until-at.ensures.answer _ _ _ _ _ c.end_at.ensures refl refl (to_z-of_z w64 c.until-at.result (record { sfits = c.until-at.type_inv }))
    (sym c.args.hall.now.seats.ok.0 ∙ c.args.hall.now.count) (to_z-of_z w64 c.until-at.result (record { sfits = c.until-at.type_inv })) refl refl refl was

pub returns-in_default-clause-goes : goal.returns-in_default-clause-goes
returns-in_default-clause-goes g c = λ start first was. no_memory _ _ start _ first _ _ c.args.hall.now c.in_default.ensures.refused was
