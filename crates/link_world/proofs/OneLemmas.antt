-- A schedule leads to one world.
use Rattle.std.proofs.Common.{◌≡◌, inl, inr, List, [], ◌∷◌, sym, ap, subst, ◌∙◌}
use Rattle.link_node.specs.Event.{EventValue}
use Rattle.link_node.specs.Machine.{Machine}
use Rattle.link_world.specs.World.{WorldValue, TurnValue, Reaches, Happens, IsAfter, stepped}
use Rattle.link_world.proofs.StandingLemmas.{some_same}

same_machine : (turn : TurnValue) (before : WorldValue) (m n : Machine) (e f : EventValue) → Reaches turn before m e → Reaches turn before n f → m ≡ n
same_machine turn before m n e f one other = some_same m n (sym one.there ∙ other.there)

same_event : (turn : TurnValue) (before : WorldValue) (m n : Machine) (e f : EventValue) → Reaches turn before m e → Reaches turn before n f → e ≡ f
same_event turn before m n e f one other = some_same e f (sym one.brought ∙ other.brought)

same_stepped : (turn : TurnValue) (before : WorldValue) (m n : Machine) (e f : EventValue) → m ≡ n → e ≡ f → stepped turn before m e ≡ stepped turn before n f
same_stepped turn before m n e f p q = ap (λ (k : Machine). stepped turn before k e) p ∙ ap (λ (g : EventValue). stepped turn before n g) q

pub one_turn : (turn : TurnValue) (before a b : WorldValue) → Happens turn before a → Happens turn before b → a ≡ b
one_turn turn before a b (inl one) (inl other) =
    one.after_is
    ∙ same_stepped turn before one.machine other.machine one.event other.event
    (same_machine turn before one.machine other.machine one.event other.event one.reaches other.reaches)
    (same_event turn before one.machine other.machine one.event other.event one.reaches other.reaches)
    ∙ sym other.after_is
one_turn turn before a b (inl one) (inr other) = absurd (other.nothing_reaches one.machine one.event one.reaches)
one_turn turn before a b (inr one) (inl other) = absurd (one.nothing_reaches other.machine other.event other.reaches)
one_turn turn before a b (inr one) (inr other) = one.after_is ∙ sym other.after_is

pub one_after : (before one other : WorldValue) (turns : List TurnValue) → IsAfter before turns one → IsAfter before turns other → one ≡ other
one_after before one other [] p q = p ∙ sym q
one_after before one other (turn ∷ turns) p q =
    let same : p.0 ≡ q.0 = one_turn turn before p.0 q.0 p.1 q.1 in
    one_after q.0 one other turns (subst (λ (w : WorldValue). IsAfter w turns one) same p.2) q.2
