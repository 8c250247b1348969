use Rattle.std.proofs.Common.{inl, inr, ◌⊎◌, ◌≡◌}
use Rattle.session_choice.specs.Winning.{Wins}
use Rattle.link_node.specs.Machine.{session_in, offset_in}
use Rattle.link_node.specs.Step.{step_of}
use Rattle.link_node.proofs.LeavingLemmas.{step-left}
use Rattle.link_node.proofs.staying.sessions_are_left_for_winners.Goals as goal

pub returns : goal.returns
returns c = λ m e same.
    let n = step_of m e in
    elim (step-left m e same) as (λ _. (session_in n ≡ session_in m) ⊎ Wins (session_in n) (offset_in n) (session_in m) (offset_in m) n.moment) [
      | inl stays ↦ inl stays
      | inr wins ↦ inr ((c.not_both_win.ensures.rule (session_in n) (session_in m) (offset_in n) (offset_in m) n.moment).0 wins)
    ]
