-- Timelines and starts that are made are tidy.
use Rattle.std.proofs.Common.{◌≡◌, ℤ, pos, ◌^◌, ◌+ℤ◌, ◌-ℤ◌, ◌*ℤ◌, ◌≤ℤ◌, false, List, ◌∷◌, Some, None, refl, sym, ◌∙◌, subst, inl, arith}
use Rattle.std.proofs.lemmas.Int.{ints, clamps}
use Rattle.std.proofs.lemmas.Bool.{false≢true}
use Rattle.std.proofs.lemmas.Bool.Decides.{Decides-int_eq}
use Rattle.std.specs.Prelude.{if◌then◌else◌}
use Rattle.std.specs.Int.{int_max}
use Rattle.std.specs.Ordering.{int_eq}
use Rattle.std.specs.List.{AllByRecursion}
use Rattle.lk_base.specs.Ranges.{IsMoment, IsWithinLimit}
use Rattle.lk_base.specs.Rounding.{nearest_of}
use Rattle.lk_base.specs.Timeline.{IsTidy}
use Rattle.lk_base.specs.declared.start.ClientStart.{ClientStart}
use Rattle.lk_base.specs.declared.start.SessionStart.{SessionStart}
use Rattle.lk_base.specs.declared.timeline.Timeline.{Timeline}
use Rattle.lk_base.proofs.RoundingLemmas.{clipped_of-within}
use Rattle.ghost_xform.specs.GhostTime.{ghost_of, host_of}
use Rattle.peer_gateway.specs.Happenings.{Has}
use Rattle.peer_gateway.proofs.MemberLemmas.{has_from_all, has_right}
use Rattle.session_choice.specs.Best.{best_of}
use Rattle.session_choice.proofs.BestLemmas.{best_of-IsBest}
use Rattle.session_choice.proofs.Lists.{by_test}
use Rattle.timeline_math.specs.Beats.{beat_at, time_at}
use Rattle.timeline_math.specs.Tidying.{tidy_of}
use Rattle.client_state.specs.Commit.{IsTidyStart}
use Rattle.client_state.specs.Edits.{timeline_at}
use Rattle.client_state.specs.Starts.{start_to_client_of, start_to_session_of}
use Rattle.client_state.specs.Timelines.{client_from_session_of, going_on, keeps_beat, new_origin_of, renewed_of, session_from_client_of, zero_time_of}
use Rattle.link_node.specs.WellFormed.{IsInLimits}

-- ---- numbers

pub beat_at-within : (tl : Timeline) (time : ℤ) → IsWithinLimit (beat_at tl time)
unfolding beat_at
beat_at-within tl time = clipped_of-within (tl.beat +ℤ nearest_of ((time -ℤ tl.time) *ℤ pos 1_000_000) tl.mpb)

time_at-within : (tl : Timeline) (beat : ℤ) → IsWithinLimit (time_at tl beat)
unfolding time_at
time_at-within tl beat = clipped_of-within (tl.time +ℤ nearest_of ((beat -ℤ tl.beat) *ℤ tl.mpb) (pos 1_000_000))

ghost_of-within : (offset host : ℤ) → IsWithinLimit (ghost_of offset host)
unfolding ghost_of
ghost_of-within offset host = clipped_of-within (host +ℤ offset)

host_of-within : (offset ghost_time : ℤ) → IsWithinLimit (host_of offset ghost_time)
unfolding host_of
host_of-within offset ghost_time = clipped_of-within (ghost_time -ℤ offset)

pub moment-within : (now : ℤ) → IsMoment now → IsWithinLimit now
moment-within now h = omega (arith, ints, h.0, h.1)

pub moment-max : (a b : ℤ) → IsMoment a → IsMoment b → IsMoment (int_max a b)
moment-max a b p q = (omega (arith, ints, clamps, p.0, q.0), omega (arith, ints, clamps, p.1, q.1))

-- ---- timelines

-- of a tempo in its range, with both origins within the limit
pub tidy-at : (mpb beat time : ℤ) → pos 60_060 ≤ℤ mpb → mpb ≤ℤ pos 3_000_000 → IsWithinLimit beat → IsWithinLimit time → IsTidy (timeline_at mpb beat time)
tidy-at mpb beat time fast slow b t = record { slowest = slow; fastest = fast; beat = b; time = t }

pub zero-within : IsWithinLimit (pos 0)
zero-within = omega (arith, ints)

pub tidied : (tl : Timeline) → IsTidy (tidy_of tl)
tidied tl = record {
  slowest = omega (arith, ints, clamps);
  fastest = omega (arith, ints, clamps);
  beat = clipped_of-within tl.beat;
  time = clipped_of-within tl.time;
}

pub tidy-best : (first : Timeline) (later : List Timeline) → AllByRecursion IsTidy (first ∷ later) → IsTidy (best_of first later)
tidy-best first later all =
    let best = best_of-IsBest first later in
    let there : Has (first ∷ later) (best_of first later) =
    subst (λ (list : List Timeline). Has list (best_of first later)) (sym best.split)
    (has_right best.before (best_of first later ∷ best.after) (best_of first later) (inl refl)) in
    has_from_all IsTidy (first ∷ later) (best_of first later) all there

pub tidy-client : (client session : Timeline) (now offset : ℤ) → IsTidy session → IsTidy (client_from_session_of client session now offset)
unfolding client_from_session_of zero_time_of
tidy-client client session now offset tidy =
    let zero = host_of offset (time_at session (pos 0)) in
    tidy-at session.mpb (beat_at (going_on client session now) zero) zero tidy.fastest tidy.slowest
    (beat_at-within (going_on client session now) zero) (host_of-within offset (time_at session (pos 0)))

origin-within : (session : Timeline) (at offset : ℤ) → IsTidy session → int_eq session.beat (pos (2 ^ 60)) ≡ false → IsWithinLimit (new_origin_of session at offset)
unfolding new_origin_of
origin-within session at offset tidy lesser =
    let beat = beat_at-within session (ghost_of offset at) in
    let origin = tidy.beat in
    let other : session.beat ≡ pos (2 ^ 60) → ⊥ = λ e. false≢true (sym lesser ∙ (Decides-int_eq session.beat (pos (2 ^ 60))).1 e) in
    omega (arith, ints, clamps)

pub tidy-given : (session client given : Timeline) (at offset : ℤ) → IsTidy session → IsTidy client → session_from_client_of session client at offset ≡ Some given → IsTidy given
unfolding session_from_client_of renewed_of
tidy-given session client given at offset of_session of_client is =
    let origin = new_origin_of session at offset in
    let from_zero = timeline_at client.mpb (pos 0) (ghost_of offset client.time) in
    let new = timeline_at client.mpb origin (time_at from_zero origin) in
    let spent = int_eq session.beat (pos (2 ^ 60)) in
    by_test (λ b. (if b then Some session else if spent then None else Some new) ≡ Some given → IsTidy given) (keeps_beat session client offset)
    (λ _ e. let same : session ≡ given = cc in subst IsTidy same of_session)
    (λ _. by_test (λ b. spent ≡ b → (if b then None else Some new) ≡ Some given → IsTidy given) spent
    (λ _ _ e. absurd (cc))
    (λ _ lesser e.
    let same : new ≡ given = cc in
    subst IsTidy same
    (tidy-at client.mpb origin (time_at from_zero origin) of_client.fastest of_client.slowest (origin-within session at offset of_session lesser) (time_at-within from_zero origin)))
    refl)
    is

-- ---- starts

pub start-limits : (start : ClientStart) (session : Timeline) (offset : ℤ) → IsInLimits (start_to_session_of start session offset)
unfolding start_to_session_of
start-limits start session offset = (beat_at-within session (ghost_of offset start.time), ghost_of-within offset start.stamp)

pub start-tidy : (start : SessionStart) (session : Timeline) (offset : ℤ) → IsTidyStart (start_to_client_of start session offset)
unfolding start_to_client_of
start-tidy start session offset = record { time = host_of-within offset (time_at session start.beats); stamp = host_of-within offset start.stamp }
