-- Two clients of one session are as far from their time origins at one ghost time.
use Rattle.std.proofs.Common.{◌≡◌, ℤ, pos, ◌^◌, ◌+ℤ◌, ◌-ℤ◌, ◌*ℤ◌, ap, refl, sym, subst, ◌∙◌, arith}
use Rattle.std.proofs.lemmas.Int.{ints, clamps}
use Rattle.lk_base.specs.Ranges.{IsWithin}
use Rattle.lk_base.specs.Rounding.{nearest_of}
use Rattle.lk_base.specs.declared.timeline.Timeline.{Timeline}
use Rattle.ghost_xform.specs.GhostTime.{host_of}
use Rattle.timeline_math.specs.Beats.{time_at}
use Rattle.timeline_math.specs.Clicks.{beats_past, IsInReach}
use Rattle.client_state.specs.Timelines.{client_from_session_of, zero_time_of, Follows, IsInReachOf}

pub follows : (client session : Timeline) (now offset : ℤ) → Follows session (client_from_session_of client session now offset) offset
unfolding client_from_session_of
follows client session now offset = record { tempo = refl; time = refl }

-- the time origin isn't clipped
origin_at : (session client : Timeline) (offset time : ℤ) → Follows session client offset → IsInReachOf session client offset time → client.time ≡ time_at session (pos 0) -ℤ offset
unfolding zero_time_of host_of
origin_at session client offset time follow reach =
    let is_zero = follow.time in
    let zero = reach.zero_within in
    let shift = reach.offset_within in
    omega (arith, ints, clamps)

-- both follow the session, and are in reach at these times
pub record AreClients (session client other : Timeline) (offset other_offset time there : ℤ) : Type 0 where
  pub follow : Follows session client offset
  pub other_follows : Follows session other other_offset
  pub reach : IsInReachOf session client offset time
  pub other_reach : IsInReachOf session other other_offset there

pub as_far : (session client other : Timeline) (offset other_offset time there : ℤ) → AreClients session client other offset other_offset time there → (time -ℤ client.time) ≡ (time +ℤ offset -ℤ other_offset -ℤ other.time)
as_far session client other offset other_offset time there both =
    let here = origin_at session client offset time both.follow both.reach in
    let over = origin_at session other other_offset there both.other_follows both.other_reach in
    omega (arith, ints)

pub one_tempo : (session client other : Timeline) (offset other_offset time there : ℤ) → AreClients session client other offset other_offset time there → client.mpb ≡ other.mpb
one_tempo session client other offset other_offset time there both = both.follow.tempo ∙ sym both.other_follows.tempo

-- the other one is in reach at that ghost time, if it is anywhere
pub there_too : (session client other : Timeline) (offset other_offset time there : ℤ) → AreClients session client other offset other_offset time there → IsInReach other (time +ℤ offset -ℤ other_offset)
there_too session client other offset other_offset time there both =
    let far = as_far session client other offset other_offset time there both in
    let tempo = one_tempo session client other offset other_offset time there both in
    let same : beats_past client time ≡ beats_past other (time +ℤ offset -ℤ other_offset) =
    ap (λ z. nearest_of (z *ℤ pos 1_000_000) client.mpb) far ∙ ap (nearest_of ((time +ℤ offset -ℤ other_offset -ℤ other.time) *ℤ pos 1_000_000)) tempo in
    record { origin = both.other_reach.beats.origin; past = subst (IsWithin (2 ^ 58)) same both.reach.beats.past }
