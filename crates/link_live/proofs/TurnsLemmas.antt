-- One more turn.
use Rattle.std.proofs.Common.{◌≡◌, ◌||◌, Bool, true, false, List, [], ◌∷◌, ◌++◌, refl, ap, subst, ◌∙◌}
use Rattle.link_shared.specs.Hub.{HubView, HasTurned}
use Rattle.link_live.specs.Turns.{TurnValue, HaveTurned, is_full_in, NoneQuits}
use Rattle.link_live.specs.Running.{QuitsIf}

pub turned_more : (first hub : HubView) (turns : List TurnValue) (turn : TurnValue) → HaveTurned first turns hub
    → HasTurned hub turn.hub turn.now turn.got turn.sends turn.quit turn.full → HaveTurned first (turns ++ turn ∷ []) turn.hub
turned_more first hub [] turn turned more =
    (subst (λ (h : HubView). HasTurned h turn.hub turn.now turn.got turn.sends turn.quit turn.full) turned more, refl)
turned_more first hub (one ∷ turns) turn turned more = (turned.0, turned_more one.hub hub turns turn turned.1 more)

pub full_more : (turns : List TurnValue) (turn : TurnValue) → is_full_in (turns ++ turn ∷ []) ≡ (is_full_in turns || turn.full)
full_more [] turn = or_false turn.full
  where
    or_false : (b : Bool) → (b || false) ≡ b
    or_false true = refl
    or_false false = refl
full_more (one ∷ turns) turn = ap (λ b. one.full || b) (full_more turns turn) ∙ or_assoc one.full (is_full_in turns) turn.full
  where
    or_assoc : (a b c : Bool) → (a || (b || c)) ≡ ((a || b) || c)
    or_assoc true b c = refl
    or_assoc false b c = refl

pub quits_more : (turns : List TurnValue) (turn : TurnValue) (quit : Bool) → turn.quit ≡ quit → NoneQuits turns → QuitsIf quit (turns ++ turn ∷ [])
quits_more [] turn false is none = (is, tt)
quits_more [] turn true is none = is
quits_more (one ∷ turns) turn false is none = (none.0, quits_more turns turn false is none.1)
quits_more (one ∷ []) turn true is none = (none.0, is)
quits_more (one ∷ next ∷ turns) turn true is none = (none.0, quits_more (next ∷ turns) turn true is none.1)
