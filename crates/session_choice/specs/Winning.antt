-- Which of two sessions wins.
use Rattle.std.specs.Prelude.{ℤ, pos, ◌-ℤ◌, ◌<ℤ◌, neg_ℤ, int_lt, Bool, ◌&&◌, ◌||◌, ◌⊎◌, IsTrue}
use Rattle.ghost_xform.specs.GhostTime.{ghost_of}
use Rattle.lk_base.specs.IdOrder.{id_lt}
use Rattle.lk_base.specs.declared.ids.NodeId.{NodeId}

-- by how much the first session's ghost time is later than the second's, by their offsets, at a host time
unfoldable pub lead_of : ℤ → ℤ → ℤ → ℤ
lead_of offset other now = ghost_of offset now -ℤ ghost_of other now

-- Rule: Another session wins over the current one where its ghost time is over 500,000 microseconds ahead of that one's, or its id is the
-- lesser and it is less than 500,000 ahead or behind; else the current session stays.
abbrev pub Wins : NodeId → ℤ → NodeId → ℤ → ℤ → Type 0
Wins new offset current other now =
    (pos 500_000 <ℤ lead_of offset other now)
    ⊎ ((neg_ℤ (pos 500_000) <ℤ lead_of offset other now) × (lead_of offset other now <ℤ pos 500_000) × IsTrue (id_lt new current))

-- the same as a test
unfoldable pub wins_over : NodeId → ℤ → NodeId → ℤ → ℤ → Bool
wins_over new offset current other now =
    int_lt (pos 500_000) (lead_of offset other now)
    || (int_lt (neg_ℤ (pos 500_000)) (lead_of offset other now) && int_lt (lead_of offset other now) (pos 500_000) && id_lt new current)
