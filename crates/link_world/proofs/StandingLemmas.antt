-- Peers that stand for machines, place by place.
use Rattle.std.proofs.Common.{◌≡◌, ℕ, zero, suc, List, [], ◌∷◌, ◌++◌, length, set, Some, None, refl, ap, subst}
use Rattle.std.specs.List.{slice_get}
use Rattle.link_node.specs.Machine.{Machine}
use Rattle.link_node.specs.Standing.{StandsFor}
use Rattle.link_world.specs.Standing.{AreStanding}
use Rattle.link_world.specs.declared.peer.Peer.{Peer}

pub some_same : {A : Type 0} (a b : A) → Some a ≡ Some b → a ≡ b
some_same a b e = cc

pub no_some : {A : Type 0} (a : A) → None ≡ Some a → ⊥
no_some a e = cc

pub standing-append : (peers : List Peer) (machines : List Machine) (peer : Peer) (m : Machine)
    → AreStanding peers machines → StandsFor peer.node m → AreStanding (peers ++ peer ∷ []) (machines ++ m ∷ [])
standing-append [] [] peer m all one = (one, tt)
standing-append [] (n ∷ machines) peer m all one = absurd all
standing-append (p ∷ peers) [] peer m all one = absurd all
standing-append (p ∷ peers) (n ∷ machines) peer m all one = (all.0, standing-append peers machines peer m all.1 one)

pub standing-length : (peers : List Peer) (machines : List Machine) → AreStanding peers machines → length peers ≡ length machines
standing-length [] [] all = refl
standing-length [] (n ∷ machines) all = absurd all
standing-length (p ∷ peers) [] all = absurd all
standing-length (p ∷ peers) (n ∷ machines) all = ap (λ k. suc k) (standing-length peers machines all.1)

-- the peer of a place stands for the machine there
pub standing-at : (peers : List Peer) (machines : List Machine) (k : ℕ) (peer : Peer) → AreStanding peers machines → slice_get peers k ≡ Some peer
    → (m : Machine) × (slice_get machines k ≡ Some m) × StandsFor peer.node m
standing-at [] machines k peer all e = absurd (no_some peer e)
standing-at (p ∷ peers) [] k peer all e = absurd all
standing-at (p ∷ peers) (n ∷ machines) zero peer all e =
    (n, refl, subst (λ (q : Peer). StandsFor q.node n) (some_same p peer e) all.0)
standing-at (p ∷ peers) (n ∷ machines) (suc k) peer all e = standing-at peers machines k peer all.1 e

-- and so after a step of both
pub standing-set : (peers : List Peer) (machines : List Machine) (k : ℕ) (peer : Peer) (m : Machine)
    → AreStanding peers machines → StandsFor peer.node m → AreStanding (set peers k peer) (set machines k m)
standing-set [] [] k peer m all one = tt
standing-set [] (n ∷ machines) k peer m all one = absurd all
standing-set (p ∷ peers) [] k peer m all one = absurd all
standing-set (p ∷ peers) (n ∷ machines) zero peer m all one = (one, all.1)
standing-set (p ∷ peers) (n ∷ machines) (suc k) peer m all one = (all.0, standing-set peers machines k peer m all.1 one)
