-- Which start counts after one more was seen.
use Rattle.std.proofs.Common.{◌≡◌, Bool, true, false, List, [], ◌∷◌, ◌++◌, Some, None, refl, if◌then◌else◌}
use Rattle.std.specs.Prelude.{int_lt}
use Rattle.lk_base.specs.declared.start.SessionStart.{SessionStart}
use Rattle.client_state.specs.Starts.{latest_start_of}
use Rattle.link_node.specs.Machine.{still}

if_true : {A : Type 0} (test : Bool) (x y : A) → (if test then Some x else None) ≡ Some y → test ≡ true
if_true true x y is = refl
if_true false x y is = cc

-- a start that is later than the one held
pub later_held : (starts : List SessionStart) (held seen later : SessionStart) → held ≡ latest_start_of still starts → (if int_lt held.stamp seen.stamp then Some seen else None) ≡ Some later → later ≡ latest_start_of still (starts ++ seen ∷ []) → later ≡ latest_start_of still (if int_lt (latest_start_of still starts).stamp seen.stamp then starts ++ seen ∷ [] else starts)
later_held starts held seen later is some latest =
    let reached : int_lt (latest_start_of still starts).stamp seen.stamp ≡ true = rw is at (if_true _ _ _ some) in
    rw reached latest
