-- Only for proofs: which session is measured next.
use Rattle.std.specs.Prelude.{◌≡◌, List, [], ◌∷◌, Option, Some, None}
use Rattle.ping_measure.specs.Life.{Life}
use Rattle.lk_base.specs.declared.ids.NodeId.{NodeId}

-- where no measurement runs the first that waits, else none
abbrev pub next_of : Option Life → List NodeId → Option NodeId
next_of (Some life) waiting = None
next_of None [] = None
next_of None (session ∷ rest) = Some session

abbrev pub IsNext : Option Life → List NodeId → Option NodeId → Type 0
IsNext measuring waiting next = next_of measuring waiting ≡ next

-- those that wait then
abbrev pub left_of : Option NodeId → List NodeId → List NodeId
left_of None waiting = waiting
left_of (Some session) [] = []
left_of (Some session) (first ∷ rest) = rest
