-- Who hears a datagram of one that held the timeline, or holds it, and stays there, has taken it at the end.
use Rattle.std.proofs.Common.{◌≡◌, ◌≤◌, ◌<◌, inl, inr, ℕ, ℤ, List, [], ◌∷◌, ◌++◌, length, Option, Some, None, Result, refl, sym, ap, subst, ◌∙◌, arith}
use Rattle.std.proofs.lemmas.List.{length-append}
use Rattle.std.specs.Prelude.{option_map, slice_get}
use Rattle.lk_base.specs.declared.endpoint.Endpoint.{Endpoint}
use Rattle.lk_base.specs.declared.endpoint.Gate.{Gate}
use Rattle.lk_base.specs.declared.ids.NodeId.{NodeId}
use Rattle.lk_base.specs.declared.timeline.Timeline.{Timeline}
use Rattle.asdp_messages.specs.Datagram.{MessageValue}
use Rattle.asdp_messages.specs.Reading.{reading_of}
use Rattle.asdp_messages.specs.declared.fault.WireFault.{WireFault}
use Rattle.asdp_messages.specs.declared.message.StateMsg.{StateMsg}
use Rattle.peer_gateway.specs.Happenings.{Has}
use Rattle.timeline_math.specs.Tidying.{tidy_of}
use Rattle.link_node.specs.Brought.{taken_in, TellsTimeline}
use Rattle.link_node.specs.Event.{EventValue, Rx, SendingValue}
use Rattle.link_node.specs.Machine.{Machine, timeline_in}
use Rattle.link_node.specs.Staying.{Hears}
use Rattle.link_node.specs.Step.{step_of, sends_of}
use Rattle.link_world.specs.Round.{IsTold, IsToldAndStays, HearsTold, Holds, IsSentHolding, HearsDatagram, HearsHolder, HoldsAndStays}
use Rattle.link_world.specs.World.{WorldValue, TurnValue, Happens, IsAfter, brought_by, peer_of}
use Rattle.link_world.proofs.BestLemmas.{best_there}
use Rattle.link_world.proofs.LowerLaws.{Laws}
use Rattle.link_world.proofs.Lists.{has_got, got_first, got_second}
use Rattle.link_world.proofs.OneLemmas.{one_turn}
use Rattle.link_world.proofs.OriginLemmas.{IsHeld, AreSound, sound_turn, sound_after, told_sends}
use Rattle.link_world.proofs.RoundLemmas.{Any, Taken, Leads, get_set, stays_after}
use Rattle.link_world.proofs.StandingLemmas.{some_same, no_some}
use Rattle.link_world.proofs.TurnLemmas.{after_both}

-- ---- what a holder sends

-- this timeline of this session
abbrev Is : NodeId → Timeline → NodeId → Timeline → Type 0
Is session tl id told = (id ≡ session) × (told ≡ tl)

-- the datagram of that number was sent, and tells the timeline in the session if anything
record TellsHeld (session : NodeId) (tl : Timeline) (index : ℕ) (world : WorldValue) : Type 0 where
  within : index < length world.sent
  told : (sending : SendingValue) → slice_get world.sent index ≡ Some sending → (id : NodeId) (told : Timeline)
      → TellsTimeline (reading_of sending.bytes) id told → Is session tl id told

held_there : (k : ℕ) (session : NodeId) (tl : Timeline) (world : WorldValue) (m : Machine) → Holds k session tl world → slice_get world.machines k ≡ Some m → IsHeld (Is session tl) m
held_there k session tl world m holds at =
    subst (λ (n : Machine). IsHeld (Is session tl) n) (some_same holds.machine m (sym holds.there ∙ at)) (holds.session_is, holds.timeline_is)

sent_now : Laws → (session : NodeId) (tl : Timeline) (index : ℕ) (turn : TurnValue) (before after : WorldValue) → AreSound Any before → Happens turn before after
    → Holds (peer_of turn) session tl before → Holds (peer_of turn) session tl after → length before.sent ≤ index → index < length after.sent → TellsHeld session tl index after
sent_now laws session tl index turn before after sound (inr idle) was is past within =
    let same : length after.sent ≡ length before.sent = ap (λ (w : WorldValue). length w.sent) idle.after_is in
    absurd (omega arith)
sent_now laws session tl index turn before after sound (inl step) was is past within =
    let m = step.machine in
    let e = step.event in
    let p = peer_of turn in
    let sound_then = sound_turn laws Any turn before after sound (inl step) (λ _ _ _. tt) in
    let there : slice_get after.machines p ≡ Some (step_of m e) =
    subst (λ (w : WorldValue). slice_get w.machines p ≡ Some (step_of m e)) (sym step.after_is) (get_set before.machines p (step_of m e) m step.reaches.there) in
    record {
      within = within;
      told = λ sending at.
          let new : Has (sends_of m e) sending =
          got_second before.sent (sends_of m e) index sending past (subst (λ (w : WorldValue). slice_get w.sent index ≡ Some sending) step.after_is at) in
          told_sends laws Any (Is session tl) m e (sound.machines m (has_got before.machines p m step.reaches.there))
          (sound_then.machines (step_of m e) (has_got after.machines p (step_of m e) there))
          (held_there p session tl before m was step.reaches.there) (held_there p session tl after (step_of m e) is there) sending new;
    }

-- it stands where it stood, whatever comes after
still_told : (session : NodeId) (tl : Timeline) (index : ℕ) (turn : TurnValue) (before after : WorldValue) → Happens turn before after
    → TellsHeld session tl index before → TellsHeld session tl index after
still_told session tl index turn before after (inr idle) tells = subst (λ (w : WorldValue). TellsHeld session tl index w) (sym idle.after_is) tells
still_told session tl index turn before after (inl step) tells =
    let more = sends_of step.machine step.event in
    let longer = length-append before.sent more in
    let within = tells.within in
    subst (λ (w : WorldValue). TellsHeld session tl index w) (sym step.after_is) (record {
      within = omega (arith, longer, within);
      told = λ sending at. tells.told sending (sym (got_first before.sent more index within) ∙ at);
    })

told_after : (session : NodeId) (tl : Timeline) (index : ℕ) (before after : WorldValue) (turns : List TurnValue) → IsAfter before turns after
    → TellsHeld session tl index before → TellsHeld session tl index after
told_after session tl index before after [] led tells = subst (λ (w : WorldValue). TellsHeld session tl index w) (sym led) tells
told_after session tl index before after (turn ∷ turns) led tells =
    told_after session tl index led.0 after turns led.2 (still_told session tl index turn before led.0 led.1 tells)

sent_held : Laws → (session : NodeId) (tl : Timeline) (index : ℕ) (start before : WorldValue) (turns : List TurnValue) → AreSound Any start
    → IsSentHolding session tl index start turns → IsAfter start turns before → TellsHeld session tl index before
sent_held laws session tl index start before [] sound sent led = absurd sent
sent_held laws session tl index start before (turn ∷ turns) sound (inl now) led =
    let tells = sent_now laws session tl index turn start now.after sound now.happens now.holds now.still_holds now.is_new.0 now.is_new.1 in
    let same : now.after ≡ led.0 = one_turn turn start now.after led.0 now.happens led.1 in
    told_after session tl index led.0 before turns led.2 (subst (λ (w : WorldValue). TellsHeld session tl index w) same tells)
sent_held laws session tl index start before (turn ∷ turns) sound (inr later) led =
    let same : led.0 ≡ later.0 = one_turn turn start led.0 later.0 led.1 later.1 in
    sent_held laws session tl index later.0 before turns (sound_turn laws Any turn start later.0 sound later.1 (λ _ _ _. tt)) later.2
    (subst (λ (w : WorldValue). IsAfter w turns before) same led.2)

-- ---- who hears it

hears_told : (m : Machine) (gate : Gate) (from : Endpoint) (bytes : List ℕ) (now : ℤ) (msg : StateMsg) → Hears m (Rx gate from bytes now) msg
    → TellsTimeline (reading_of bytes) msg.fields.session (tidy_of msg.fields.timeline)
hears_told m gate from bytes now msg hears =
    let tells : Result MessageValue WireFault → Type 0 = λ r. TellsTimeline r msg.fields.session (tidy_of msg.fields.timeline) in
    elim hears.0 as (λ _. tells (reading_of bytes)) [
      | inl alive ↦ subst tells (sym alive) (refl, refl)
      | inr response ↦ subst tells (sym response) (refl, refl)
    ]

hears_held : (session : NodeId) (tl : Timeline) (index : ℕ) (world : WorldValue) → TellsHeld session tl index world → (m : Machine) (event : EventValue) (msg : StateMsg)
    → Hears m event msg → (gate : Gate) (from : Endpoint) (now : ℤ) (found : Option SendingValue) → slice_get world.sent index ≡ found
    → option_map (λ (sending : SendingValue). Rx gate from sending.bytes now) found ≡ Some event → Is session tl msg.fields.session (tidy_of msg.fields.timeline)
hears_held session tl index world tells m event msg hears gate from now None at brought = absurd (no_some event brought)
hears_held session tl index world tells m event msg hears gate from now (Some sending) at brought =
    let same : event ≡ Rx gate from sending.bytes now = sym (some_same (Rx gate from sending.bytes now) event brought) in
    tells.told sending at msg.fields.session (tidy_of msg.fields.timeline)
    (hears_told m gate from sending.bytes now msg (subst (λ (e : EventValue). Hears m e msg) same hears))

-- its session is told with the timeline
told_held : (k : ℕ) (session : NodeId) (tl : Timeline) (index : ℕ) (turn : TurnValue) (before : WorldValue) → TellsHeld session tl index before
    → HearsDatagram k session index turn before → IsTold k session tl turn before
told_held k session tl index turn before tells hears =
    let brought = subst (λ (t : TurnValue). brought_by before.sent t ≡ Some hears.event) hears.delivers hears.reaches.brought in
    let is = hears_held session tl index before tells hears.machine hears.event hears.msg hears.hears hears.gate hears.from hears.now (slice_get before.sent index) refl brought in
    record {
      machine = hears.machine;
      event = hears.event;
      msg = hears.msg;
      peer = ap peer_of hears.delivers;
      reaches = hears.reaches;
      hears = hears.hears;
      session_is = hears.session_is;
      told = is.0;
      timeline = is.1;
    }

told_later : (k : ℕ) (session : NodeId) (tl : Timeline) (start before : WorldValue) (earlier : List TurnValue) (turn : TurnValue) (later : List TurnValue)
    → IsAfter start earlier before → IsToldAndStays k session tl turn before later → HearsTold k session tl start (earlier ++ turn ∷ later)
told_later k session tl start before [] turn later led told = inl (subst (λ (w : WorldValue). IsToldAndStays k session tl turn w later) led told)
told_later k session tl start before (first ∷ earlier) turn later led told = inr (led.0, led.1, told_later k session tl led.0 before earlier turn later led.2 told)

pub hears_of_holder : Laws → (k : ℕ) (session : NodeId) (tl : Timeline) (start : WorldValue) (turns : List TurnValue) → AreSound Any start
    → HearsHolder k session tl start turns → HearsTold k session tl start turns
hears_of_holder laws k session tl start turns sound heard =
    let tells = sent_held laws session tl heard.index start heard.before heard.earlier sound heard.sent heard.led in
    subst (λ (l : List TurnValue). HearsTold k session tl start l) (sym heard.turns_are)
    (told_later k session tl start heard.before heard.earlier heard.turn heard.later heard.led (record {
      told = told_held k session tl heard.index heard.turn heard.before tells heard.hears;
      between = heard.after;
      happens = heard.happens;
      drawn = heard.drawn;
      stays = heard.stays;
    }))

-- ---- who holds it

pub held_after : Laws → (k : ℕ) (session : NodeId) (tl : Timeline) (start : WorldValue) (turns : List TurnValue) → AreSound Any start
    → HoldsAndStays k session tl start turns → Leads k tl start turns
held_after laws k session tl start turns sound held =
    let between = held.between in
    let took : Taken k tl between = λ m at.
    subst (λ (t : Timeline). Has (taken_in m) t) (held_there k session tl between m held.holds at).1 (best_there (taken_in m) (timeline_in m) (laws.best m)) in
    let sound_then = sound_after laws Any start between held.earlier sound held.led (λ _ _ _. tt) in
    let rest = stays_after laws k session held.drawn tl between held.later sound_then held.stays took in
    record {
      world = rest.world;
      led = subst (λ (l : List TurnValue). IsAfter start l rest.world) (sym held.turns_are) (after_both start between rest.world held.earlier held.later held.led rest.led);
      taken = rest.taken;
    }
