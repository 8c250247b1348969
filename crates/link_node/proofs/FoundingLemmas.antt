-- What a session begins with that is founded or joined.
use Rattle.std.proofs.Common.{◌≡◌, ◌⊎◌, inl, inr, ℕ, ◌+◌, ◌*◌, ◌/◌, zero, suc, ℤ, pos, ◌+ℤ◌, ◌-ℤ◌, ◌*ℤ◌, true, [], ◌∷◌, Option, Some, None, Result, Ok, refl, sym, ap, ◌∙◌, subst, arith}
use Rattle.std.specs.Prelude.{neg_ℤ, unsigned_abs, unwrap_or, cond, if◌then◌else◌}
use Rattle.std.proofs.lemmas.Int.{ints, clamps}
use Rattle.std.proofs.lemmas.Nat.{div_below}
use Rattle.ghost_xform.specs.GhostTime.{ghost_of}
use Rattle.lk_base.specs.Rounding.{clipped_of, nearest_of, rounded_of}
use Rattle.lk_base.specs.declared.endpoint.Endpoint.{Endpoint}
use Rattle.lk_base.specs.declared.endpoint.Gate.{Gate}
use Rattle.lk_base.specs.declared.ids.NodeId.{NodeId}
use Rattle.lk_base.specs.declared.timeline.Timeline.{Timeline}
use Rattle.link_payload.specs.declared.fields.PongFields.{PongFields}
use Rattle.asdp_messages.specs.Datagram.{MessageValue}
use Rattle.asdp_messages.specs.Datagram as message
use Rattle.asdp_messages.specs.Reading.{reading_of}
use Rattle.asdp_messages.specs.declared.fault.WireFault.{WireFault}
use Rattle.timeline_math.specs.Beats.{beat_at}
use Rattle.ping_measure.specs.Life.{Life, pong_outcome, pong_after}
use Rattle.ping_measure.specs.declared.outcome.Outcome.{Outcome}
use Rattle.ping_measure.specs.declared.outcome.Outcome.TheVariants.{Idle, Again, Done, Failed}
use Rattle.session_choice.specs.Best.{best_of, is_greatest_in}
use Rattle.session_choice.specs.History.{History, Taking, best_in, is_current, other_in, joined, verdict_by, measured_of, measured_by, measured_after}
use Rattle.session_choice.specs.Winning.{wins_over}
use Rattle.session_choice.specs.declared.verdict.Verdict.TheVariants.{Joined, Stayed, Remeasured}
use Rattle.client_state.specs.Edits.{timeline_at}
use Rattle.link_node.specs.Arrival.{arrived}
use Rattle.link_node.specs.Client.{renewed}
use Rattle.link_node.specs.Event.{EventValue, Rx, Tick, App, Audio, End, moment_of}
use Rattle.link_node.specs.Founding.{GoesOnAlone}
use Rattle.link_node.specs.Machine.{Machine, session_in, timeline_in, offset_in}
use Rattle.link_node.specs.Measured.{IsMeasured}
use Rattle.link_node.specs.Measuring.{chosen, measured, judged, pong_by, pong_heard}
use Rattle.link_node.specs.Settling.{settled, founded, counted, is_left, founding_timeline_in}
use Rattle.link_node.specs.Step.{at_moment, step_of}
use Rattle.session_choice.proofs.Lists.{by_test}
use Rattle.link_node.proofs.MomentLemmas.{leads_step}
use Rattle.link_node.proofs.StayingLemmas.{Stands, midst, stands_step, is_left-settled, not_left-settled, goes_on, no_founding}
use Rattle.link_node.proofs.KeptLemmas.{sessions_stay}
use Rattle.link_node.proofs.LeavingLemmas.{unmeasured-remains}
use Rattle.link_node.proofs.MeasuredLemmas.{midst-gives}

-- ---- the line through a beat at ghost time 0

half_of_itself : (d : ℕ) → (2 * 0 + d) / (2 * d) ≡ 0
half_of_itself zero = refl
half_of_itself (suc d) = omega (arith, div_below (2 * 0 + suc d) (2 * suc d) 1 (omega arith) (omega arith))

nothing_near : (mpb : ℤ) → nearest_of ((pos 0 -ℤ pos 0) *ℤ pos 1_000_000) mpb ≡ pos 0
unfolding nearest_of rounded_of
nothing_near mpb = ap pos (half_of_itself (unsigned_abs mpb))

beat_at-clipped : (tl : Timeline) (time : ℤ) → clipped_of (beat_at tl time) ≡ beat_at tl time
unfolding beat_at
beat_at-clipped tl time = omega (arith, ints, clamps)

and_nothing : (beat : ℤ) → beat +ℤ pos 0 ≡ beat
and_nothing beat = omega (arith, ints)

beat_there : (mpb beat : ℤ) → clipped_of beat ≡ beat → beat_at (timeline_at mpb beat (pos 0)) (pos 0) ≡ beat
unfolding beat_at
beat_there mpb beat is = ap (λ n. clipped_of (beat +ℤ n)) (nothing_near mpb) ∙ ap clipped_of (and_nothing beat) ∙ is

ghost_at_founding : (now : ℤ) → ghost_of (neg_ℤ now) now ≡ pos 0
unfolding ghost_of
ghost_at_founding now = grind (arith, ints)

-- of one timeline it is the best
best-alone : (tl : Timeline) → best_of tl [] ≡ tl
unfolding best_of
best-alone tl = by_test (λ b. unwrap_or (cond b (Some tl) None) tl ≡ tl) (is_greatest_in (tl ∷ []) tl) (λ _. refl) (λ _. refl)

-- ---- founding

founded-goes : (m : Machine) → GoesOnAlone m (founded (counted m))
unfolding founded renewed founding_timeline_in
founded-goes m =
    let mpb = (timeline_in m).mpb in
    let beat = beat_at (timeline_in m) (ghost_of (offset_in m) m.moment) in
    let line = timeline_at mpb beat (pos 0) in
    record {
      tempo = ap (λ (t : Timeline). t.mpb) (best-alone line);
      beat =
          ap (λ (t : Timeline). beat_at t (ghost_of (neg_ℤ m.moment) m.moment)) (best-alone line)
          ∙ ap (λ time. beat_at line time) (ghost_at_founding m.moment)
          ∙ beat_there mpb beat (beat_at-clipped (timeline_in m) (ghost_of (offset_in m) m.moment));
      starts = refl;
      waiting = refl;
      measuring = refl;
      remeasure_at = refl;
    }

stands-goes : (m a n : Machine) → Stands a n → GoesOnAlone m a → GoesOnAlone m n
stands-goes m a n stands goes = record {
  tempo = ap (λ (h : History). (best_in h.current).mpb) stands.sessions ∙ goes.tempo;
  beat =
      ap (λ (h : History). beat_at (best_in h.current) (ghost_of h.offset n.moment)) stands.sessions
      ∙ ap (λ now. beat_at (timeline_in a) (ghost_of (offset_in a) now)) stands.moment
      ∙ goes.beat
      ∙ ap (λ now. beat_at (timeline_in m) (ghost_of (offset_in m) now)) (sym stands.moment);
  starts = stands.starts ∙ goes.starts;
  waiting = stands.waiting ∙ goes.waiting;
  measuring = stands.measuring ∙ goes.measuring;
  remeasure_at = stands.remeasure_at ∙ goes.remeasure_at;
}

-- where an id is drawn, a session is founded
some_founding : (m : Machine) (e : EventValue) → (step_of m e).drawn ≡ m.drawn + 1 → is_left (midst m e) ≡ true
some_founding m e more =
    by_test (λ b. is_left (midst m e) ≡ b → is_left (midst m e) ≡ true) (is_left (midst m e))
    (λ _ left. left)
    (λ _ not_left. let same = (goes_on m e not_left).0 in absurd (omega (arith, more, same)))
    refl

pub step-goes : (m : Machine) (e : EventValue) → (step_of m e).drawn ≡ m.drawn + 1 → GoesOnAlone (midst m e) (step_of m e)
step-goes m e more =
    let a = midst m e in
    stands-goes a (settled a) (step_of m e) (stands_step m e)
    (subst (λ (n : Machine). GoesOnAlone a n) (sym (is_left-settled a (some_founding m e more))) (founded-goes a))

-- ---- joining

-- the second has no start yet and is measured anew later
record IsNew (m n : Machine) : Type 0 where
  starts : n.starts ≡ []
  remeasure_at : n.remeasure_at ≡ Some (m.moment +ℤ pos 30_000_000)

-- the session is the same, or it is joined
abbrev StaysOrJoins : Machine → Machine → Type 0
StaysOrJoins m n = (session_in n ≡ session_in m) ⊎ IsNew m n

found-joins : (found : Option Taking) (m : Machine) (offset : ℤ)
    → StaysOrJoins m (chosen (verdict_by found m.sessions offset m.moment) (record m { sessions = measured_by found m.sessions offset m.moment }))
unfolding renewed
found-joins None m offset = inl refl
found-joins (Some other) m offset =
    by_test
    (λ b. StaysOrJoins m (chosen (if b then Joined else Stayed) (record m { sessions = if b then joined other offset m.sessions else m.sessions })))
    (wins_over other.session offset m.sessions.current.session m.sessions.offset m.moment)
    (λ _. inr (record { starts = refl; remeasure_at = refl }))
    (λ _. inl refl)

measured-joins : (session : NodeId) (offset : ℤ) (m : Machine) → StaysOrJoins m (measured session offset m)
unfolding measured measured_of measured_after renewed
measured-joins session offset m =
    by_test
    (λ b. StaysOrJoins m (chosen (if b then Remeasured else verdict_by (other_in session m.sessions) m.sessions offset m.moment)
    (record m { sessions = if b then record m.sessions { offset = offset } else measured_by (other_in session m.sessions) m.sessions offset m.moment })))
    (is_current session m.sessions)
    (λ _. inl refl)
    (λ _. found-joins (other_in session m.sessions) m offset)

judged-joins : (outcome : Outcome) (session : NodeId) (m : Machine) → StaysOrJoins m (judged outcome session m)
judged-joins Idle session m = inl refl
judged-joins (Again ping) session m = inl refl
judged-joins (Done xform) session m =
    elim (measured-joins session xform.offset (record m { measuring = None })) as (λ _. StaysOrJoins m (judged (Done xform) session m)) [
      | inl same ↦ inl same
      | inr new ↦ inr (record { starts = new.starts; remeasure_at = new.remeasure_at })
    ]
judged-joins (Failed fault) session m =
    inl (ap (λ (t : Taking). t.session) (unmeasured-remains session (record m { measuring = None })).current)

pong_by-joins : (running : Option Life) (gate : Gate) (from : Endpoint) (pong : PongFields) (m : Machine) → StaysOrJoins m (pong_by running gate from pong m)
pong_by-joins None gate from pong m = inl refl
pong_by-joins (Some life) gate from pong m =
    let next = record m { measuring = Some (pong_after life gate from pong m.moment) } in
    elim (judged-joins (pong_outcome life gate from pong m.moment) life.session next) as (λ _. StaysOrJoins m (pong_by (Some life) gate from pong m)) [
      | inl same ↦ inl same
      | inr new ↦ inr (record { starts = new.starts; remeasure_at = new.remeasure_at })
    ]

pong-joins : (gate : Gate) (from : Endpoint) (pong : PongFields) (m : Machine) → StaysOrJoins m (pong_heard gate from pong m)
unfolding pong_heard
pong-joins gate from pong m = pong_by-joins m.measuring gate from pong m

by_pong : (gate : Gate) (from : Endpoint) (reading : Result MessageValue WireFault) (pong : PongFields) (m : Machine) → reading ≡ Ok (message.Pong pong)
    → StaysOrJoins m (arrived gate from reading m)
by_pong gate from reading pong m is = subst (λ (r : Result MessageValue WireFault). StaysOrJoins m (arrived gate from r m)) (sym is) (pong-joins gate from pong m)

measures-joins : (m : Machine) (e : EventValue) → IsMeasured m e (session_in (midst m e)) (offset_in (midst m e)) → StaysOrJoins (at_moment (moment_of e) m) (midst m e)
measures-joins m (Rx gate from bytes now) is = by_pong gate from (reading_of bytes) is.1 (at_moment now m) is.4
measures-joins m (Tick now) is = absurd is
measures-joins m (App commit now) is = absurd is
measures-joins m (Audio number commit now) is = absurd is
measures-joins m (End now) is = absurd is

midst-joins : (m : Machine) (e : EventValue) → StaysOrJoins (at_moment (moment_of e) m) (midst m e)
midst-joins m e =
    elim (midst-gives m e) as (λ _. StaysOrJoins (at_moment (moment_of e) m) (midst m e)) [
      | inl stays ↦ inl stays.0
      | inr is ↦ measures-joins m e is
    ]

pub step-joins : (m : Machine) (e : EventValue) → (step_of m e).drawn ≡ m.drawn → (session_in (step_of m e) ≡ session_in m → ⊥)
    → ((step_of m e).starts ≡ []) × ((step_of m e).remeasure_at ≡ Some ((step_of m e).moment +ℤ pos 30_000_000))
step-joins m e same left =
    let a = midst m e in
    let n = step_of m e in
    let stands = stands_step m e in
    let settles = not_left-settled a (no_founding m e same) in
    elim (midst-joins m e) as (λ _. (n.starts ≡ []) × (n.remeasure_at ≡ Some (n.moment +ℤ pos 30_000_000))) [
      | inl stays ↦ absurd (left (ap (λ (h : History). h.current.session) (sessions_stay m e same) ∙ stays))
      | inr new ↦ (
        stands.starts ∙ ap (λ (o : Machine). o.starts) settles ∙ new.starts,
        stands.remeasure_at ∙ ap (λ (o : Machine). o.remeasure_at) settles ∙ new.remeasure_at
            ∙ ap (λ now. Some (now +ℤ pos 30_000_000)) (sym (leads_step m e).moment),
      )
    ]
