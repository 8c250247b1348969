-- What one event needs of a node, and what its rules leave for each other.
use Rattle.std.proofs.Common.{◌≡◌, ◌≤◌, ◌+◌, ◌++◌, ℕ, ℤ, Bool, true, false, List, length, ap, subst, refl, arith, ◌∙◌, append_assoc, w64, to_z, of_z}
use Rattle.lk_base.specs.Ranges.{IsMoment}
use Rattle.link_node.specs.Event.{EventValue, Fits, SendingValue}
use Rattle.link_node.specs.Machine.{Machine}
use Rattle.link_node.specs.Standing.{HasParts, gates_of, app_of, audio_of}
use Rattle.link_node.specs.Step.{at_moment}
use Rattle.link_node.specs.WellFormed.{AreSessions}
use Rattle.link_node.specs.declared.node.Node.{Node}
use Rattle.link_node.proofs.GateLemmas.{gate-count}
use Rattle.link_node.proofs.NumberLemmas.{moment-back}

-- what is known of sessions says nothing of the moment
pub sessions-at : (now : ℤ) (m : Machine) → AreSessions m → AreSessions (at_moment now m)
sessions-at now m sound = record {
  distinct = sound.distinct;
  few = sound.few;
  waiting_known = sound.waiting_known;
  waiting_distinct = sound.waiting_distinct;
  measured_known = sound.measured_known;
  measured_alone = sound.measured_alone;
  going_on = sound.going_on;
  current_waits = sound.current_waits;
  current_measured = sound.current_measured;
}

-- the moment that is handed on is the event's
pub advanced : (node : Node) (m : Machine) (now : ℤ) → IsMoment now → HasParts node (at_moment (to_z w64 (of_z w64 now)) m) → HasParts node (at_moment now m)
advanced node m now inside stands = subst (λ (z : ℤ). HasParts node (at_moment z m)) (moment-back now inside) stands

-- an event that the node can take is one that the machine can
pub fits-too : (node : Node) (m : Machine) (e : EventValue) → HasParts node m → Fits (gates_of node) (app_of node) (audio_of node) e
    → Fits (length m.config.gates) m.app m.audio e
fits-too node m e stands fits =
    subst (λ (gates : ℕ). Fits gates m.app m.audio e) (gate-count node.config m.config stands.config)
    (subst (λ (app : ℕ). Fits (gates_of node) app m.audio e) stands.app
    (subst (λ (audio : ℕ). Fits (gates_of node) (app_of node) audio e) stands.audio fits))

-- what two rules send, one after the other
pub both-sent : (old mid new first second : List SendingValue) → mid ≡ old ++ first → new ≡ mid ++ second → new ≡ old ++ (first ++ second)
both-sent old mid new first second e f =
    f ∙ ap (λ (sent : List SendingValue). sent ++ second) e ∙ append_assoc old first second

-- a tick sends a ping and alives, an end byes, and each other event one datagram
pub few-sent : (tick : Bool) (old mid new : List SendingValue) → (tick ≡ true → length mid ≤ length old + 1) → length mid ≤ length old + 128
    → (tick ≡ true → length new ≤ length mid + 128) → (tick ≡ false → new ≡ mid) → length new ≤ length old + 129
few-sent true old mid new one few more same =
    let a = one refl in
    let b = more refl in
    omega (arith, a, b)
few-sent false old mid new one few more same =
    let a = ap (λ (sent : List SendingValue). length sent) (same refl) in
    omega (arith, a, few)
