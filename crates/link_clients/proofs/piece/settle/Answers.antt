use Rattle.std.proofs.Common.{refl, sym, ◌∙◌, ap, Some}
use Rattle.link_clients.proofs.PieceLemmas.{seated_free, seated_kept, seated_unwatching, seated_watching}
use Rattle.link_clients.proofs.piece.settle.Goals as goal

pub returns-then-not-matches-clause-gone : goal.returns-then-not-matches-clause-gone
returns-then-not-matches-clause-gone c = λ left. seated_free c.free.result c.free.ensures.flags c.free.ensures.told

pub returns-in-None-clause-taken : goal.returns-in-None-clause-taken
returns-in-None-clause-taken c = λ taken view. seated_kept c.args.asked _ view c.args.seat.now _ (sym c.in-None.is ∙ c.watch_in.ensures) refl refl refl refl refl

pub returns-in-Some-true-clause-taken : goal.returns-in-Some-true-clause-taken
returns-in-Some-true-clause-taken c = λ taken view. seated_watching c.args.asked c.args.shown view c.args.seat.now _ (ap Some (sym c.in-Some-true.field-0-test) ∙ sym c.in-Some-true.is ∙ c.watch_in.ensures) refl refl refl refl refl

pub returns-in-Some-false-clause-taken : goal.returns-in-Some-false-clause-taken
returns-in-Some-false-clause-taken c = λ taken view. seated_unwatching c.args.asked c.args.shown view c.args.seat.now _ (ap Some (sym c.in-Some-false.field-0-test) ∙ sym c.in-Some-false.is ∙ c.watch_in.ensures) refl refl refl refl refl
