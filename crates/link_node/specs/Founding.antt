-- What becomes of a session whose peers have all gone.
use Rattle.std.specs.Prelude.{◌≡◌, [], None}
use Rattle.ghost_xform.specs.GhostTime.{ghost_of}
use Rattle.timeline_math.specs.Beats.{beat_at}
use Rattle.link_node.specs.Machine.{Machine, timeline_in, offset_in}

-- The second is alone and goes on with the first's tempo, and at its moment with the first's beat. It has no start, waits for nobody and
-- measures nothing
pub record GoesOnAlone (m n : Machine) : Type 0 where
  pub tempo : (timeline_in n).mpb ≡ (timeline_in m).mpb
  pub beat : beat_at (timeline_in n) (ghost_of (offset_in n) n.moment) ≡ beat_at (timeline_in m) (ghost_of (offset_in m) n.moment)
  pub starts : n.starts ≡ []
  pub waiting : n.waiting ≡ []
  pub measuring : n.measuring ≡ None
  pub remeasure_at : n.remeasure_at ≡ None
