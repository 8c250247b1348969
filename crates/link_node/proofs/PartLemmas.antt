-- What a node's fields say of the machine that it stands for.
use Rattle.std.specs.Prelude.{int_lt, int_le}
use Rattle.std.proofs.Common.{arith, Bool, true, false, if◌then◌else◌, Some, None, ◌≡◌, ◌∙◌, ℤ, w64, to_z, of_z}
use Rattle.std.proofs.lemmas.Int.{ints, to_z-of_z}
use Rattle.std.specs.Int.RustNames.{FitsSigned}
use Rattle.lk_base.specs.Ranges.{IsWithinLimit}
use Rattle.link_node.specs.Machine.{Machine}
use Rattle.link_node.specs.Standing.{HasParts}
use Rattle.link_node.specs.declared.node.Node.{Node}
use Rattle.link_node.proofs.NumberLemmas.{moment-back}

limit_fits : (z : ℤ) → IsWithinLimit z → FitsSigned w64 z
limit_fits z within = grind (arith, ints)

-- the moment as it is handed to a call
pub now_in : (node : Node) (m : Machine) → HasParts node m → to_z w64 (of_z w64 node.moment) ≡ m.moment
now_in node m stands = moment-back node.moment node.in_time ∙ stands.moment

pub some_if : {A : Type 0} (test : Bool) (x y : A) → (if test then Some x else None) ≡ Some y → y ≡ x
some_if true x y is = cc
some_if false x y is = cc

pub is_before : (now at : ℤ) → int_lt now at ≡ true → int_le at now ≡ false
is_before now at is = grind (arith, ints)

-- a number in the limit, as it is handed to a call
pub limit_back : (z : ℤ) → IsWithinLimit z → to_z w64 (of_z w64 z) ≡ z
limit_back z within = to_z-of_z w64 z (limit_fits z within)
