-- A client's timeline that went to the session and comes back.
use Rattle.std.proofs.Common.{◌≡◌, ℕ, ◌^◌, ◌≤◌, ℤ, pos, ◌+ℤ◌, ◌-ℤ◌, ◌*ℤ◌, ◌≤ℤ◌, neg_ℤ, unsigned_abs, Bool, true, false, if◌then◌else◌, Some, None, refl, ap, sym, ◌∙◌, arith}
use Rattle.std.proofs.lemmas.Int.{ints, clamps}
use Rattle.std.proofs.lemmas.Bool.Decides.{Decides-int_eq}
use Rattle.std.specs.Ordering.{int_eq}
use Rattle.lk_base.specs.Ranges.{IsWithinLimit}
use Rattle.lk_base.specs.Rounding.{nearest_of}
use Rattle.lk_base.specs.Timeline.{IsTidy}
use Rattle.lk_base.specs.declared.timeline.Timeline.{Timeline}
use Rattle.lk_base.proofs.RoundingLemmas.{nearest_of-IsNearest, clipped_of-same, scaled_neg}
use Rattle.ghost_xform.specs.GhostTime.{ghost_of}
use Rattle.timeline_math.specs.Beats.{beat_at}
use Rattle.client_state.specs.Timelines.{client_from_session_of, going_on, keeps_beat, renewed_of, session_from_client_of, zero_time_of}
use Rattle.client_state.specs.Unclipped.{IsUnclippedReturn, wide_beat_at}
use Rattle.client_state.proofs.BoolLemmas.{both}
use Rattle.client_state.proofs.RoundLemmas.{near_sum, natural_of, nearest_of-turned}

-- ---- the tempo that is given is the client's
-- one of two given by a flag, with the tempo that is common to both
tempo_if : (kept spent : Bool) (a b given : Timeline) (mpb : ℤ) → (kept ≡ true → a.mpb ≡ mpb) → b.mpb ≡ mpb → (if kept then Some a else if spent then None else Some b) ≡ Some given → given.mpb ≡ mpb
tempo_if true spent a b given mpb of_a of_b e = let same : a ≡ given = cc in ap (λ tl. tl.mpb) (sym same) ∙ of_a refl
tempo_if false true a b given mpb of_a of_b e = absurd (cc)
tempo_if false false a b given mpb of_a of_b e = let same : b ≡ given = cc in ap (λ tl. tl.mpb) (sym same) ∙ of_b

kept-tempo : (session client : Timeline) (offset : ℤ) → keeps_beat session client offset ≡ true → session.mpb ≡ client.mpb
unfolding keeps_beat
kept-tempo session client offset kept =
    let tests = both (int_eq session.mpb client.mpb) (int_eq (beat_at session (ghost_of offset client.time)) (pos 0)) kept in
    (Decides-int_eq session.mpb client.mpb).0 tests.0

renewed-tempo : (session client : Timeline) (at offset : ℤ) → (renewed_of session client at offset).mpb ≡ client.mpb
unfolding renewed_of
renewed-tempo session client at offset = refl

given-tempo : (session client given : Timeline) (at offset : ℤ) → session_from_client_of session client at offset ≡ Some given → given.mpb ≡ client.mpb
unfolding session_from_client_of
given-tempo session client given at offset e =
    tempo_if (keeps_beat session client offset) (int_eq session.beat (pos (2 ^ 60))) session (renewed_of session client at offset) given client.mpb
    (kept-tempo session client offset)
    (renewed-tempo session client at offset)
    e

-- ---- its beats
-- the line through (now, beat now) and (zero, beat there), both with the tempo of the line through (time, beat)
returned-near : (b t now zero at d : ℤ) (m : ℕ) → pos 1 ≤ℤ pos m → d ≡ pos m → unsigned_abs (nearest_of ((now -ℤ t) *ℤ pos 1_000_000) d +ℤ nearest_of ((zero -ℤ now) *ℤ pos 1_000_000) d +ℤ nearest_of ((at -ℤ zero) *ℤ pos 1_000_000) d -ℤ nearest_of ((at -ℤ t) *ℤ pos 1_000_000) d) ≤ 2
returned-near b t now zero at d m some is_m =
    rw is_m
    (let one : ℤ → ℤ = λ n. n *ℤ pos 1_000_000 in
    near_sum (one (now -ℤ t)) (one (zero -ℤ now)) (one (at -ℤ zero)) (one (at -ℤ t)) (nearest_of (one (now -ℤ t)) (pos m)) (nearest_of (one (zero -ℤ now)) (pos m)) (nearest_of (one (at -ℤ zero)) (pos m)) (nearest_of (one (at -ℤ t)) (pos m)) m (omega (arith, ints)) (omega (arith, ints))
    (nearest_of-IsNearest (one (now -ℤ t)) (pos m) some).near
    (nearest_of-IsNearest (one (zero -ℤ now)) (pos m) some).near
    (nearest_of-IsNearest (one (at -ℤ zero)) (pos m) some).near
    (nearest_of-IsNearest (one (at -ℤ t)) (pos m) some).near)

-- for a session of the client's tempo
returned-beat : (client given : Timeline) (now offset time : ℤ) → IsTidy client → given.mpb ≡ client.mpb → IsUnclippedReturn client given now offset time → unsigned_abs (beat_at (client_from_session_of client given now offset) time -ℤ beat_at client time) ≤ 2
unfolding beat_at client_from_session_of
returned-beat client given now offset time tidy tempo unclipped =
    let fastest = tidy.fastest in
    let natural = natural_of client.mpb (omega (arith, ints)) in
    let is_m = natural.1 in
    let zero = zero_time_of given offset in
    let there = clipped_of-same (wide_beat_at client now) unclipped.moment in
    let at_zero = clipped_of-same (wide_beat_at (going_on client given now) zero) unclipped.zero in
    let before = clipped_of-same (wide_beat_at client time) unclipped.before in
    let after = clipped_of-same (wide_beat_at (client_from_session_of client given now offset) time) unclipped.after in
    let on = ap (nearest_of ((zero -ℤ now) *ℤ pos 1_000_000)) tempo in
    let back = ap (nearest_of ((time -ℤ zero) *ℤ pos 1_000_000)) tempo in
    let close = returned-near client.beat client.time now zero time client.mpb natural.0 (omega (arith, ints)) is_m in
    omega (arith, ints, there, at_zero, before, after, on, back, close)

pub returned : (client session given : Timeline) (at now offset time : ℤ) → IsTidy client → session_from_client_of session client at offset ≡ Some given → IsUnclippedReturn client given now offset time → unsigned_abs (beat_at (client_from_session_of client given now offset) time -ℤ beat_at client time) ≤ 2
returned client session given at now offset time tidy e unclipped =
    returned-beat client given now offset time tidy (given-tempo session client given at offset e) unclipped

-- ---- a renewal

-- the way back is the way there
turned-back : (now zero d : ℤ) → pos 1 ≤ℤ d → nearest_of ((now -ℤ zero) *ℤ pos 1_000_000) d ≡ neg_ℤ (nearest_of ((zero -ℤ now) *ℤ pos 1_000_000) d)
turned-back now zero d some =
    let turned : now -ℤ zero ≡ neg_ℤ (zero -ℤ now) = omega (arith, ints) in
    ap (λ z. nearest_of (z *ℤ pos 1_000_000) d) turned
    ∙ ap (λ z. nearest_of z d) (scaled_neg (zero -ℤ now) 1_000_000)
    ∙ nearest_of-turned ((zero -ℤ now) *ℤ pos 1_000_000) d some

pub renewed : (client session : Timeline) (now offset : ℤ) → IsTidy session → IsWithinLimit (wide_beat_at (going_on client session now) (zero_time_of session offset)) → beat_at (client_from_session_of client session now offset) now ≡ beat_at client now
unfolding beat_at client_from_session_of
renewed client session now offset tidy unclipped =
    let fastest = tidy.fastest in
    let zero = zero_time_of session offset in
    let there = clipped_of-same (wide_beat_at (going_on client session now) zero) unclipped in
    let back = turned-back now zero session.mpb (omega (arith, ints)) in
    omega (arith, ints, clamps, there, back)
