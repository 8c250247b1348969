-- What a state that is taken leaves of the sessions that wait.
use Rattle.std.proofs.Common.{◌≡◌, ◌<◌, length, false, Option, Some, None, is_some, refl, arith}
use Rattle.std.proofs.lemmas.Bool.Decides.{nat_tests}
use Rattle.lk_base.specs.declared.ids.NodeId.{NodeId}
use Rattle.lk_base.specs.declared.timeline.Timeline.{Timeline}
use Rattle.session_choice.specs.History.{History, Taking, saw_of, saw_by}
use Rattle.session_choice.specs.declared.verdict.Saw.TheVariants.{New}
use Rattle.link_node.specs.Machine.{Machine}
use Rattle.link_node.specs.WellFormed.{AreSessions}
use Rattle.link_node.proofs.SessionsLemmas.{room_for_new}

record IsNew (known : Option Taking) (h : History) : Type 0 where
  pub unknown : is_some known ≡ false
  pub few : length h.others < 64

new_by : (known : Option Taking) (h : History) (tl : Timeline) → saw_by known h tl ≡ New → IsNew known h
new_by (Some taking) h tl new = grind arith
new_by None h tl new = record { unknown = refl; few = grind (arith, nat_tests) }

-- there is room for a session that is new
pub room_in : (m : Machine) (session : NodeId) (tl : Timeline) → AreSessions m → saw_of m.sessions session tl ≡ New → length m.waiting < 65
unfolding saw_of
room_in m session tl sessions new =
    let is = new_by _ m.sessions tl new in
    room_for_new m session sessions is.unknown is.few
