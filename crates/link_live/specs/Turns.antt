-- One turn of a hub after the other.
use Rattle.std.specs.Prelude.{◌≡◌, ℤ, ◌||◌, Bool, true, false, List, [], ◌∷◌}
use Rattle.std.specs.List.{AllByRecursion}
use Rattle.link_node.specs.Event.{SendingValue}
use Rattle.link_shared.specs.Hub.{HubView, HasTurned}
use Rattle.link_shared.specs.declared.got.Got.{Got}

-- its moment, what it was given, what it sent, what it told, and the hub after it
pub record TurnValue : Type 0 where
  pub now : ℤ
  pub got : Got
  pub sends : List SendingValue
  pub quit : Bool
  pub full : Bool
  pub hub : HubView

abbrev pub HaveTurned : HubView → List TurnValue → HubView → Type 0
HaveTurned before [] after = after ≡ before
HaveTurned before (turn ∷ turns) after = HasTurned before turn.hub turn.now turn.got turn.sends turn.quit turn.full × HaveTurned turn.hub turns after

-- whether an event of some turn found the journal full
abbrev pub is_full_in : List TurnValue → Bool
is_full_in [] = false
is_full_in (turn ∷ turns) = turn.full || is_full_in turns

-- no turn popped a quit
abbrev pub NoneQuits : List TurnValue → Type 0
NoneQuits turns = AllByRecursion (λ turn. turn.quit ≡ false) turns

-- the last turn popped a quit, and none before it
abbrev pub LastQuits : List TurnValue → Type 0
LastQuits [] = ⊥
LastQuits (turn ∷ []) = turn.quit ≡ true
LastQuits (turn ∷ next ∷ turns) = (turn.quit ≡ false) × LastQuits (next ∷ turns)
