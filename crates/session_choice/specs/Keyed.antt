-- Rows that each have an id: the first of an id, changed or left out.
use Rattle.std.specs.Prelude.{List, [], ◌∷◌, if◌then◌else◌, Option, Some, None}
use Rattle.lk_base.specs.IdOrder.{same_id}
use Rattle.lk_base.specs.declared.ids.NodeId.{NodeId}

abbrev pub found_by : {A : Type 0} → (A → NodeId) → NodeId → List A → Option A
found_by key id [] = None
found_by key id (row ∷ rows) = if same_id (key row) id then Some row else found_by key id rows

abbrev pub updated_by : {A : Type 0} → (A → NodeId) → NodeId → (A → A) → List A → List A
updated_by key id change [] = []
updated_by key id change (row ∷ rows) =
    if same_id (key row) id then change row ∷ rows else row ∷ updated_by key id change rows

abbrev pub without_by : {A : Type 0} → (A → NodeId) → NodeId → List A → List A
without_by key id [] = []
without_by key id (row ∷ rows) = if same_id (key row) id then rows else row ∷ without_by key id rows
