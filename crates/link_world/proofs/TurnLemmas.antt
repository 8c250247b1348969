-- Turns: what an event that is offered to a peer makes of a world, and schedules that go on.
use Rattle.std.proofs.Common.{◌≡◌, ◌≤◌, inl, inr, ℕ, ℤ, List, [], ◌∷◌, ◌++◌, length, map, set, Option, Some, Result, Ok, Err, refl, sym, ap, subst, ◌∙◌, arith}
use Rattle.std.proofs.lemmas.List.{length-map}
use Rattle.std.proofs.lemmas.Option.{slice_get-map, slice_get_within}
use Rattle.std.specs.List.{slice_get}
use Rattle.std.specs.Prelude.{OnOk, option_map}
use Rattle.lk_base.specs.declared.endpoint.Endpoint.{Endpoint}
use Rattle.lk_base.specs.declared.endpoint.Gate.{Gate}
use Rattle.link_node.specs.Config.{gate_value}
use Rattle.link_node.specs.Event.{EventValue, Rx, Fits, SendingValue, sending_value}
use Rattle.link_node.specs.Machine.{Machine}
use Rattle.link_node.specs.Standing.{StandsFor}
use Rattle.link_node.specs.Step.{step_of, sends_of}
use Rattle.link_node.specs.declared.sends.Sending.{Sending}
use Rattle.link_world.specs.Standing.{AreStanding, IsOffered}
use Rattle.link_world.specs.World.{WorldValue, TurnValue, Deliver, Happens, IsAfter, peer_of, brought_by}
use Rattle.link_world.specs.declared.peer.Peer.{Peer}
use Rattle.link_world.proofs.StandingLemmas.{standing-at, standing-set, standing-length, some_same}

pub on_ok : {T E : Type 0} (P Q : Type 0) (r : Result T E) → OnOk r P → (P → Q) → OnOk r Q
on_ok P Q (Ok x) p f = f p
on_ok P Q (Err e) p f = tt

-- ---- what a peer knows of its node

gates_same : (peer : Peer) (m : Machine) → StandsFor peer.node m → peer.gates ≡ length m.config.gates
gates_same peer m stands =
    sym peer.gates_known ∙ sym (length-map peer.node.config.gates.items gate_value) ∙ ap (λ c. length c.gates) stands.parts.config

app_same : (peer : Peer) (m : Machine) → StandsFor peer.node m → peer.app ≡ m.app
app_same peer m stands = sym peer.app_known ∙ stands.parts.app

audio_same : (peer : Peer) (m : Machine) → StandsFor peer.node m → peer.audio ≡ m.audio
audio_same peer m stands = sym peer.audio_known ∙ stands.parts.audio

along : (event : EventValue) (g h a b c d : ℕ) → g ≡ h → a ≡ b → c ≡ d → Fits g a c event → Fits h b d event
along event g h a b c d e f k fits =
    subst (λ n. Fits h b n event) k (subst (λ n. Fits h n c event) f (subst (λ n. Fits n a c event) e fits))

pub fits_machine : (peer : Peer) (m : Machine) (event : EventValue) → StandsFor peer.node m
    → Fits peer.gates peer.app peer.audio event → Fits (length m.config.gates) m.app m.audio event
fits_machine peer m event stands fits =
    along event peer.gates (length m.config.gates) peer.app m.app peer.audio m.audio (gates_same peer m stands) (app_same peer m stands) (audio_same peer m stands) fits

pub fits_peer : (peer : Peer) (m : Machine) (event : EventValue) → StandsFor peer.node m
    → Fits (length m.config.gates) m.app m.audio event → Fits peer.gates peer.app peer.audio event
fits_peer peer m event stands fits =
    along event (length m.config.gates) peer.gates m.app peer.app m.audio peer.audio
    (sym (gates_same peer m stands)) (sym (app_same peer m stands)) (sym (audio_same peer m stands)) fits

-- ---- an event that is offered

pub offer_taken : (w : WorldValue) (peers : List Peer) (k : ℕ) (peer after : Peer) (event : EventValue) (sent sends sent_after : List SendingValue)
    → AreStanding peers w.machines → sent ≡ w.sent → slice_get peers k ≡ Some peer → Fits peer.gates peer.app peer.audio event
    → ((m : Machine) → StandsFor peer.node m → StandsFor after.node (step_of m event))
    → ((m : Machine) → StandsFor peer.node m → sends ≡ sends_of m event) → sent_after ≡ sent ++ sends
    → (x : WorldValue) × IsOffered k event w x × (AreStanding (set peers k after) x.machines × (sent_after ≡ x.sent))
offer_taken w peers k peer after event sent sends sent_after standing is_sent at fits steps says goes_on =
    let found = standing-at peers w.machines k peer standing at in
    let m = found.0 in
    let next : WorldValue = record { machines = set w.machines k (step_of m event); sent = w.sent ++ sends_of m event } in
    let is_sent_after : sent_after ≡ w.sent ++ sends_of m event =
    goes_on ∙ ap (λ l. l ++ sends) is_sent ∙ ap (λ l. w.sent ++ l) (says m found.2) in
    (next, inl (m, found.1, fits_machine peer m event found.2 fits, refl), (standing-set peers w.machines k after (step_of m event) standing (steps m found.2), is_sent_after))

pub offer_refused : (w : WorldValue) (peers : List Peer) (k : ℕ) (peer : Peer) (event : EventValue)
    → AreStanding peers w.machines → slice_get peers k ≡ Some peer → (Fits peer.gates peer.app peer.audio event → ⊥) → IsOffered k event w w
offer_refused w peers k peer event standing at never =
    let found = standing-at peers w.machines k peer standing at in
    inr (
      (λ m there fits.
          let same : m ≡ found.0 = some_same m found.0 (sym there ∙ found.1) in
          never (fits_peer peer found.0 event found.2 (subst (λ (n : Machine). Fits (length n.config.gates) n.app n.audio event) same fits))),
      refl,
    )

pub offer_to_none : (w : WorldValue) (peers : List Peer) (k : ℕ) (event : EventValue) → AreStanding peers w.machines → length peers ≤ k → IsOffered k event w w
offer_to_none w peers k event standing past =
    inr (
      (λ m there fits.
          let same = standing-length peers w.machines standing in
          let within = slice_get_within w.machines k m there in
          absurd (omega arith)),
      refl,
    )

-- ---- a turn

pub happens_offered : (turn : TurnValue) (event : EventValue) (before after : WorldValue)
    → brought_by before.sent turn ≡ Some event → IsOffered (peer_of turn) event before after → Happens turn before after
happens_offered turn event before after brought (inl taken) =
    inl (record { machine = taken.0; event = event; reaches = record { there = taken.1; brought = brought; fits = taken.2 }; after_is = taken.3 })
happens_offered turn event before after brought (inr refused) =
    inr (record {
      nothing_reaches = λ m other reaches.
          let same : other ≡ event = some_same other event (sym reaches.brought ∙ brought) in
          refused.0 m reaches.there (subst (λ (e : EventValue). Fits (length m.config.gates) m.app m.audio e) same reaches.fits);
      after_is = refused.1;
    })

-- a datagram that was sent comes by a delivery
pub delivered : (sent : List Sending) (values : List SendingValue) (index peer : ℕ) (gate : Gate) (from : Endpoint) (now : ℤ) (sending : Sending) (bytes : List ℕ)
    → map sending_value sent ≡ values → slice_get sent index ≡ Some sending → bytes ≡ sending.bytes.items
    → brought_by values (Deliver index peer gate from now) ≡ Some (Rx gate from bytes now)
delivered sent values index peer gate from now sending bytes are at same =
    let event : SendingValue → EventValue = λ s. Rx gate from s.bytes now in
    ap (λ (l : List SendingValue). option_map event (slice_get l index)) (sym are)
    ∙ ap (λ (o : Option SendingValue). option_map event o) (slice_get-map sending_value sent index ∙ ap (λ (o : Option Sending). option_map sending_value o) at)
    ∙ ap (λ (b : List ℕ). Some (Rx gate from b now)) (sym same)

-- ---- a schedule that goes on

pub after_both : (before between after : WorldValue) (turns later : List TurnValue)
    → IsAfter before turns between → IsAfter between later after → IsAfter before (turns ++ later) after
after_both before between after [] later led rest = subst (λ (w : WorldValue). IsAfter w later after) led rest
after_both before between after (turn ∷ turns) later led rest = (led.0, led.1, after_both led.0 between after turns later led.2 rest)

pub after_more : (before between after : WorldValue) (turns : List TurnValue) (turn : TurnValue)
    → IsAfter before turns between → Happens turn between after → IsAfter before (turns ++ turn ∷ []) after
after_more before between after turns turn led happens = after_both before between after turns (turn ∷ []) led (after, happens, refl)
