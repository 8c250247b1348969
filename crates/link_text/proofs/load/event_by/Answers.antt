use Rattle.std.proofs.Common.{◌∙◌, sym, ap, rules, ℕ, ℤ, ◌%◌, List, FitsSigned, w64, to_z, of_z}
use Rattle.std.proofs.lemmas.Int.{to_z-of_z}
use Rattle.asdp_messages.specs.Spelling.{spelled_of}
use Rattle.asdp_messages.specs.Spelling as written
use Rattle.link_text.specs.Load.{from_peer, peer_id_of}
use Rattle.link_text.proofs.LoadLemmas.{bye_is}
use Rattle.link_text.proofs.load.event_by.Goals as goal

pub returns-then-kind-lt4-clause-fits : goal.returns-then-kind-lt4-clause-fits
returns-then-kind-lt4-clause-fits c = λ app audio few. c.arrival.ensures.fits app audio

pub returns-then-kind-eq4-clause-fits : goal.returns-then-kind-eq4-clause-fits
returns-then-kind-eq4-clause-fits c = λ app audio few. c.arrival-then-kind-eq4.ensures.fits app audio

pub returns-then-peer-eq0-clause-fits : goal.returns-then-peer-eq0-clause-fits
returns-then-peer-eq0-clause-fits c = λ app audio few. c.arrival-then-peer-eq0.ensures.fits app audio

pub returns-then-peer-eq0-clause-event : goal.returns-then-peer-eq0-clause-event
returns-then-peer-eq0-clause-event c =
    let now : FitsSigned w64 c.args.now = search rules in
    let j = c.args.word % 16 in
    c.arrival-then-peer-eq0.ensures.event
    ∙ ap (λ (bytes : List ℕ). from_peer j bytes (to_z w64 (of_z w64 c.args.now))) c.bye.ensures
    ∙ ap (λ (now : ℤ). from_peer j (spelled_of (written.Bye (peer_id_of j) 0 0)) now) (to_z-of_z w64 c.args.now now)
    ∙ sym (bye_is c.args.kind j c.args.word c.args.before c.args.state.now c.args.now c.if-kind-lt7.false c.if-peer-eq0.true)
