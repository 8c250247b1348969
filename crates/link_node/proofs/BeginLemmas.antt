-- The sessions that wait are measured in order.
use Rattle.std.proofs.Common.{◌≡◌, ◌⊎◌, inl, inr, ◌∙◌, ◌≤◌, ◌+◌, ◌++◌, ◌∷◌, [], List, Bool, true, false, length, refl, sym, append_assoc, append-nil, IsSome, Option, Some, None}
use Rattle.lk_base.specs.IdOrder.{same_id}
use Rattle.lk_base.specs.declared.endpoint.Target.{Target}
use Rattle.lk_base.specs.declared.ids.NodeId.{NodeId}
use Rattle.peer_gateway.specs.Answers.{target_of}
use Rattle.ping_measure.specs.Life.{Life}
use Rattle.ping_measure.specs.declared.measure.Measure.{Measure}
use Rattle.link_node.specs.Beginning.{next_of, left_of}
use Rattle.link_node.specs.Machine.{Machine, session_in}
use Rattle.link_node.specs.Measuring.{unmeasured}
use Rattle.link_node.specs.Standing.{HasParts, gates_of, app_of, audio_of}
use Rattle.link_node.specs.Tick.{begun, begun_at, begun_one, begun_from, pings_at, pings_begun, pings_from}
use Rattle.link_node.specs.declared.node.Node.{Node}
use Rattle.link_node.specs.declared.sends.Sends.{Sends}

-- ---- one session

unmeasured_waiting : (here : Bool) (session : NodeId) (m : Machine) → same_id session (session_in m) ≡ here → (unmeasured session m).waiting ≡ m.waiting
unfolding unmeasured
unmeasured_waiting true session m is = rw is
unmeasured_waiting false session m is = rw is

begun_waiting : (target : Option Target) (session : NodeId) (m : Machine) → (begun_at target session m).waiting ≡ m.waiting
begun_waiting (Some target) session m = refl
begun_waiting None session m = unmeasured_waiting _ session m refl

-- those that wait after it
waiting_left : (session : NodeId) (m : Machine) → (begun_one session m).waiting ≡ m.waiting
unfolding begun_one
waiting_left session m = begun_waiting (target_of session m.life) session m

-- ---- all of them

stops_at : (running : Option Life) (waiting : List NodeId) (m : Machine) → next_of running waiting ≡ None → begun_from waiting (record m { measuring = running; waiting = waiting }) ≡ record m { measuring = running; waiting = waiting }
unfolding begun_from
stops_at running [] m none = refl
stops_at (Some life) (session ∷ rest) m none = refl
stops_at None (session ∷ rest) m none = cc

silent_at : (running : Option Life) (waiting : List NodeId) (m : Machine) → next_of running waiting ≡ None → pings_from waiting (record m { measuring = running; waiting = waiting }) ≡ []
unfolding pings_from
silent_at running [] m none = refl
silent_at (Some life) (session ∷ rest) m none = refl
silent_at None (session ∷ rest) m none = cc

goes_at : (running : Option Life) (waiting : List NodeId) (session : NodeId) (m : Machine) → next_of running waiting ≡ Some session → begun_from waiting (record m { measuring = running; waiting = waiting }) ≡ begun (begun_one session (record m { measuring = running; waiting = left_of (Some session) waiting }))
unfolding begun_from begun
goes_at (Some life) waiting session m next = cc
goes_at None [] session m next = cc
goes_at None (first ∷ rest) session m next =
    let same : first ≡ session = cc in
    let left = waiting_left session (record m { measuring = None; waiting = rest }) in
    rw (same, left) refl

pings_go_at : (running : Option Life) (waiting : List NodeId) (session : NodeId) (m : Machine) → next_of running waiting ≡ Some session → pings_from waiting (record m { measuring = running; waiting = waiting }) ≡ pings_at (target_of session m.life) m.moment ++ pings_begun (begun_one session (record m { measuring = running; waiting = left_of (Some session) waiting }))
unfolding pings_from pings_begun
pings_go_at (Some life) waiting session m next = cc
pings_go_at None [] session m next = cc
pings_go_at None (first ∷ rest) session m next =
    let same : first ≡ session = cc in
    let left = waiting_left session (record m { measuring = None; waiting = rest }) in
    rw (same, left) refl

pub stops : (m : Machine) → next_of m.measuring m.waiting ≡ None → begun m ≡ m
unfolding begun
stops m none = stops_at m.measuring m.waiting m none

pub silent : (m : Machine) → next_of m.measuring m.waiting ≡ None → pings_begun m ≡ []
unfolding pings_begun
silent m none = silent_at m.measuring m.waiting m none

pub goes : (session : NodeId) (m : Machine) → next_of m.measuring m.waiting ≡ Some session → begun m ≡ begun (begun_one session (record m { waiting = left_of (Some session) m.waiting }))
unfolding begun
goes session m next = goes_at m.measuring m.waiting session m next

pub pings_go : (session : NodeId) (m : Machine) → next_of m.measuring m.waiting ≡ Some session → pings_begun m ≡ pings_at (target_of session m.life) m.moment ++ pings_begun (begun_one session (record m { waiting = left_of (Some session) m.waiting }))
unfolding pings_begun
pings_go session m next = pings_go_at m.measuring m.waiting session m next

-- ---- as far as the loop has come

-- the machine that the node stands for now leads to what the one of before leads to
pub record HasBegun (node : Node) (sends before : Sends) (m : Machine) : Type 0 where
  pub mid : Machine
  pub stands : HasParts node mid
  pub begins : begun mid ≡ begun m
  pub pings : sends ++ pings_begun mid ≡ before ++ pings_begun m

pub record AreBegun (first node : Node) (before sends : Sends) : Type 0 where
  pub begun : (m : Machine) → HasParts first m → HasBegun node sends before m
  pub silent : (sends ≡ before) ⊎ IsSome node.measure
  pub none : IsSome first.measure → (sends ≡ before) × IsSome node.measure
  pub len : length sends ≤ length before + 1
  pub gates : gates_of node ≡ gates_of first
  pub app : app_of node ≡ app_of first
  pub audio : audio_of node ≡ audio_of first

pub begun_more : (node next : Node) (sends more before : Sends) (session : NodeId) (m : Machine) → (has : HasBegun node sends before m) → next_of has.mid.measuring has.mid.waiting ≡ Some session → HasParts next (begun_one session (record has.mid { waiting = left_of (Some session) has.mid.waiting })) → more ≡ sends ++ pings_at (target_of session has.mid.life) has.mid.moment → HasBegun next more before m
begun_more node next sends more before session m has is stands sent = record {
  mid = begun_one session (record has.mid { waiting = left_of (Some session) has.mid.waiting });
  stands = stands;
  begins = sym (goes session has.mid is) ∙ has.begins;
  pings = rw (sent, append_assoc) (rw (pings_go session has.mid is) at has.pings);
}

pub begun_all : (node next : Node) (sends before : Sends) (m : Machine) → (has : HasBegun node sends before m) → next_of has.mid.measuring has.mid.waiting ≡ None → HasParts next has.mid → HasParts next (begun m)
begun_all node next sends before m has none stands = rw (sym has.begins ∙ stops has.mid none) stands

pub pings_all : (node : Node) (sends before : Sends) (m : Machine) → (has : HasBegun node sends before m) → next_of has.mid.measuring has.mid.waiting ≡ None → sends ≡ before ++ pings_begun m
pings_all node sends before m has none = sym (append-nil sends) ∙ (rw (silent has.mid none) at has.pings)

-- where a session is measured next, nothing was sent and no measurement runs
pub quiet : (sends before : Sends) (running : Option Measure) (session : NodeId) → (sends ≡ before) ⊎ IsSome running → (IsSome running → Some session ≡ None) → sends ≡ before
quiet sends before running session (inl same) none = same
quiet sends before running session (inr runs) none = let no = none runs in cc

pub silent_more : (more sends before : Sends) (running : Option Measure) → sends ≡ before → (more ≡ sends) ⊎ IsSome running → (more ≡ before) ⊎ IsSome running
silent_more more sends before running same (inl still) = inl (still ∙ same)
silent_more more sends before running same (inr runs) = inr runs

pub not_running : {A : Type 0} (running : Option Measure) (session : NodeId) → IsSome running → (IsSome running → Some session ≡ None) → A
not_running running session runs none = let no = none runs in cc

-- a ping of the measurement that runs and one that begins another are never both sent
pub one_at_most : (before sends after : Sends) (running left : Option Measure) → length sends ≤ length before + 1 → (sends ≡ before) ⊎ IsSome running → left ≡ running → (IsSome left → after ≡ sends) → length after ≤ length sends + 1 → length after ≤ length before + 1
one_at_most before sends after running left few (inl still) same none more = rw still at more
one_at_most before sends after running left few (inr runs) same none more =
    let silent : after ≡ sends = none (rw same runs) in
    rw silent few
