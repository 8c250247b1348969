use Rattle.std.proofs.Common.{◌≡◌, ℤ, ◌≤ℤ◌, sym, subst, ◌∙◌, arith}
use Rattle.std.specs.Int.{int_max}
use Rattle.std.proofs.lemmas.Int.{ints}
use Rattle.link_node.specs.Event.{moment_of}
use Rattle.link_node.proofs.MomentLemmas.{leads_step}
use Rattle.link_node.proofs.laws.moments_never_fall.Goals as goal

first_le : (a b : ℤ) → a ≤ℤ int_max a b
first_le a b = grind (arith, ints)

second_is : (a b : ℤ) → a ≤ℤ b → int_max a b ≡ b
second_is a b le = grind (arith, ints)

pub returns-clause-moment : goal.returns-clause-moment
returns-clause-moment c = λ m e. (leads_step m e).moment

pub returns-clause-never_falls : goal.returns-clause-never_falls
returns-clause-never_falls c = λ m e. subst (λ (now : ℤ). m.moment ≤ℤ now) (sym (leads_step m e).moment) (first_le m.moment (moment_of e))

pub returns-clause-reaches : goal.returns-clause-reaches
returns-clause-reaches c = λ m e le. (leads_step m e).moment ∙ second_is m.moment (moment_of e) le

pub returns-clause-config : goal.returns-clause-config
returns-clause-config c = λ m e. (leads_step m e).config
