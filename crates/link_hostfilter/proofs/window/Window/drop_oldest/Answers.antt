use Rattle.std.proofs.Common.{◌<◌, length, drop, ap, sym, subst, ◌∙◌, List, arith}
use Rattle.link_hostfilter.specs.declared.pair.Pair.{Pair}
use Rattle.link_hostfilter.proofs.FarLemmas.{drop_next, drop_some}
use Rattle.link_hostfilter.proofs.window.Window.drop_oldest.Goals as goal

pub overflow_add-self : goal.overflow_add-self
overflow_add-self c =
    let some : 0 < length (drop c.self.inside.oldest c.self.inside.pairs.items) = subst (λ (xs : List Pair). 0 < length xs) (sym c.self.view_is) c.requires in
    let lt = drop_some c.self.inside.oldest c.self.inside.pairs.items some in
    omega arith

pub returns : goal.returns
returns c = drop_next c.self.inside.oldest c.self.inside.pairs.items ∙ ap (λ (xs : List Pair). drop 1 xs) c.self.view_is
