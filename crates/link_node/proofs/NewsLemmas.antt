-- That what is new is told, to all.
use Rattle.std.proofs.Common.{◌≡◌, ◌≤◌, ◌<◌, length, nat_lt, ◌⊎◌, inl, inr, ◌+◌, ◌+ℤ◌, ◌≤ℤ◌, ℕ, zero, suc, ℤ, pos, Bool, true, false, List, [], ◌∷◌, ◌++◌, map, Option, Some, None, Ok, refl, sym, ap, ◌∙◌, subst, arith}
use Rattle.std.specs.Prelude.{int_le, ◌||◌, ◌&&◌, not, slice_get, if◌then◌else◌}
use Rattle.std.proofs.lemmas.Bool.Decides.{nat_tests}
use Rattle.std.proofs.lemmas.Int.{ints}
use Rattle.lk_base.specs.declared.endpoint.Endpoint.{Endpoint}
use Rattle.lk_base.specs.declared.endpoint.Gate.{Gate}
use Rattle.asdp_messages.specs.Datagram as message
use Rattle.asdp_messages.specs.Reading.{reading_of}
use Rattle.asdp_messages.specs.Spelling.{sent}
use Rattle.asdp_messages.specs.declared.message.StateMsg.{StateMsg}
use Rattle.peer_gateway.specs.Happenings.{Has}
use Rattle.link_node.specs.Arrival.{answers_to, is_heard, pongs_to}
use Rattle.link_node.specs.Broadcast.{broadcast_after, broadcast_in, is_broadcast, is_due_after}
use Rattle.link_node.specs.Client.{renewed}
use Rattle.link_node.specs.Config.{GateValue}
use Rattle.link_node.specs.Event.{EventValue, Rx, Tick, App, Audio, End, SendingValue, moment_of}
use Rattle.session_choice.specs.History.{best_in}
use Rattle.client_state.specs.Starts.{latest_start_of}
use Rattle.link_node.specs.Machine.{Machine, still}
use Rattle.link_node.specs.News.{IsResponse, HasAlive, IsDue, IsNoted, pong_of, bye_to}
use Rattle.link_node.specs.Publishing.{shown, alike, state_in}
use Rattle.link_node.specs.Settling.{held_in, same_held, settled, founded, counted, is_left, noted}
use Rattle.link_node.specs.Step.{at_moment, before_broadcast, broadcast_by, before_shown, step_of, sends_of}
use Rattle.link_node.specs.Telling.{bye_of, byes_in, response_to, fields_in, local_of, alive_of, alives_in, sent_from}
use Rattle.link_node.specs.Tick.{pings_of_tick}
use Rattle.link_node.specs.declared.node.settling.Held.{Held}
use Rattle.peer_gateway.proofs.MemberLemmas.{has_left, has_right}
use Rattle.session_choice.proofs.Lists.{by_test}
use Rattle.link_node.proofs.MomentLemmas.{rests_taken, leads_step, leads_before_broadcast}
use Rattle.link_node.proofs.StayingLemmas.{midst, stands_step}

-- ---- an alive is answered

told_back : (m : Machine) (gate : Gate) (from : Endpoint) (now : ℤ) → IsResponse m gate from (response_to gate from (at_moment now m) ∷ [])
unfolding response_to
told_back m gate from now =
    let at = at_moment now m in
    record {
      response = sent at.id at.config.group (fields_in (local_of gate at) at);
      only = refl;
      tells = record { from = refl; group = refl; session = refl; timeline = refl; start = refl };
      ttl = refl;
      endpoint = refl;
    }

unchanged_end : (sends : List SendingValue) → sends ++ [] ≡ sends
unchanged_end [] = refl
unchanged_end (x ∷ xs) = ap (λ l. x ∷ l) (unchanged_end xs)

pub answered : (m : Machine) (gate : Gate) (from : Endpoint) (bytes : List ℕ) (now : ℤ) (msg : StateMsg) → reading_of bytes ≡ Ok (message.Alive msg)
    → is_heard msg.from msg.group m ≡ true → IsResponse m gate from (sends_of m (Rx gate from bytes now))
unfolding sends_of
answered m gate from bytes now msg is heard =
    let at = at_moment now m in
    let one : answers_to gate from (reading_of bytes) at ≡ response_to gate from at ∷ [] =
    ap (λ r. answers_to gate from r at) is ∙ ap (λ b. if b then response_to gate from at ∷ [] else []) heard in
    subst (λ l. IsResponse m gate from l) (sym (unchanged_end (answers_to gate from (reading_of bytes) at) ∙ one)) (told_back m gate from now)

-- ---- a broadcast reaches all

has_map : {A B : Type 0} (f : A → B) (xs : List A) (x : A) → Has xs x → Has (map f xs) (f x)
has_map f [] x has = absurd has
has_map f (y ∷ ys) x (inl e) = inl (ap f e)
has_map f (y ∷ ys) x (inr has) = inr (has_map f ys x has)

sent_has : (spelled : GateValue → List ℕ) (k j : ℕ) (gates : List GateValue) (setup : GateValue) (to : Endpoint) → slice_get gates j ≡ Some setup → Has setup.destinations to
    → Has (sent_from spelled k gates) (record { gate = record { 0 = k + j }; to = to; bytes = spelled setup })
unfolding sent_from
sent_has spelled k j [] setup to at has = cc
sent_has spelled k zero (g ∷ gates) setup to at has =
    let e : g ≡ setup = cc in
    let one : GateValue → Endpoint → SendingValue = λ s to. record { gate = record { 0 = k }; to = to; bytes = spelled s } in
    let here : Has (map (one g) g.destinations) (one g to) = has_map (one g) g.destinations to (subst (λ (s : GateValue). Has s.destinations to) (sym e) has) in
    let same : one g to ≡ record { gate = record { 0 = k + 0 }; to = to; bytes = spelled setup } =
    ap (λ s. one s to) e ∙ ap (λ (n : ℕ). let r : SendingValue = record { gate = record { 0 = n }; to = to; bytes = spelled setup } in r) (let n : k ≡ k + 0 = omega arith in n) in
    has_left (map (one g) g.destinations) (sent_from spelled (k + 1) gates) _ (subst (λ x. Has (map (one g) g.destinations) x) same here)
sent_has spelled k (suc j) (g ∷ gates) setup to at has =
    let one : Endpoint → SendingValue = λ to. record { gate = record { 0 = k }; to = to; bytes = spelled g } in
    let more = sent_has spelled (k + 1) j gates setup to at has in
    has_right (map one g.destinations) (sent_from spelled (k + 1) gates) _
    (subst (λ (n : ℕ). Has (sent_from spelled (k + 1) gates) (record { gate = record { 0 = n }; to = to; bytes = spelled setup })) (let n : (k + 1) + j ≡ k + suc j = omega arith in n) more)

at_most : (a b : ℤ) → a ≤ℤ b → int_le a b ≡ true
at_most a b le = grind (arith, ints)

early : (a b : Bool) → a ≡ true → (a || b) ≡ true
early true b is = refl
early false b is = cc

late : (a b c : Bool) → b ≡ true → c ≡ true → (a || (b && c)) ≡ true
late true b c first second = refl
late false b c first second = rw first second

-- whether a broadcast is due, by the last one and the news
due_last : (last : Option ℤ) (changed : Bool) (now : ℤ)
    → (((at : ℤ) → last ≡ Some at → (at +ℤ pos 250_000) ≤ℤ now) ⊎ ((changed ≡ true) × ((at : ℤ) → last ≡ Some at → (at +ℤ pos 50_000) ≤ℤ now)))
    → is_due_after last changed now ≡ true
due_last None changed now due = refl
due_last (Some at) changed now (inl due) = early (int_le (at +ℤ pos 250_000) now) (changed && int_le (at +ℤ pos 50_000) now) (at_most (at +ℤ pos 250_000) now (due at refl))
due_last (Some at) changed now (inr due) =
    late (int_le (at +ℤ pos 250_000) now) changed (int_le (at +ℤ pos 50_000) now) due.0 (at_most (at +ℤ pos 50_000) now (due.1 at refl))

late_kept : (m : Machine) → (settled m).last_broadcast ≡ m.last_broadcast
unfolding settled founded renewed
late_kept m = by_test (λ b. (if b then founded (counted m) else counted m).last_broadcast ≡ m.last_broadcast) (is_left m) (λ _. refl) (λ _. refl)

changed_kept : (m : Machine) → (settled m).changed ≡ m.changed
unfolding settled founded renewed
changed_kept m = by_test (λ b. (if b then founded (counted m) else counted m).changed ≡ m.changed) (is_left m) (λ _. refl) (λ _. refl)

last_before : (m : Machine) (e : EventValue) → (before_broadcast e m).last_broadcast ≡ m.last_broadcast
unfolding before_broadcast noted
last_before m e = late_kept (midst m e) ∙ (rests_taken e (at_moment (moment_of e) m)).last_broadcast

changed_before : (m : Machine) (e : EventValue) → (before_broadcast e m).changed ≡ (m.changed || not (same_held (held_in m) (held_in (settled (midst m e)))))
unfolding before_broadcast noted
changed_before m e =
    ap (λ b. b || not (same_held (held_in m) (held_in (settled (midst m e))))) (changed_kept (midst m e) ∙ (rests_taken e (at_moment (moment_of e) m)).changed)

due_before : (m : Machine) (now : ℤ) → IsDue m (step_of m (Tick now)).moment → is_broadcast (before_broadcast (Tick now) m) ≡ true
due_before m now due =
    let e = Tick now in
    let b = before_broadcast e m in
    let moment : (step_of m e).moment ≡ b.moment = (leads_step m e).moment ∙ sym (leads_before_broadcast m e).moment in
    let at : IsDue m b.moment = subst (λ (t : ℤ). IsDue m t) moment due in
    due_last b.last_broadcast b.changed b.moment
    (elim at as (λ _. ((at : ℤ) → b.last_broadcast ≡ Some at → (at +ℤ pos 250_000) ≤ℤ b.moment) ⊎ ((b.changed ≡ true) × ((at : ℤ) → b.last_broadcast ≡ Some at → (at +ℤ pos 50_000) ≤ℤ b.moment))) [
      | inl quarter ↦ inl (λ at is. quarter at (sym (last_before m e) ∙ is))
      | inr news ↦ inr (
        changed_before m e ∙ ap (λ c. c || not (same_held (held_in m) (held_in (settled (midst m e))))) news.0,
        λ at is. news.1 at (sym (last_before m e) ∙ is),
      )
    ])

config_before : (m : Machine) (e : EventValue) → (before_broadcast e m).config ≡ m.config
config_before m e = (leads_before_broadcast m e).config

pub reached : (m : Machine) (now : ℤ) (gate : Gate) (setup : GateValue) (to : Endpoint) → IsDue m (step_of m (Tick now)).moment
    → slice_get m.config.gates gate.0 ≡ Some setup → Has setup.destinations to → HasAlive m now gate setup.local to (sends_of m (Tick now))
unfolding sends_of broadcast_in alives_in
reached m now gate setup to due at has =
    let b = before_broadcast (Tick now) m in
    let gates = subst (λ c. slice_get c.gates gate.0 ≡ Some setup) (sym (config_before m (Tick now))) at in
    let there : Has (alives_in b) (record { gate = gate; to = to; bytes = alive_of b setup }) =
    subst (λ (n : ℕ). Has (alives_in b) (record { gate = record { 0 = n }; to = to; bytes = alive_of b setup })) (let n : 0 + gate.0 ≡ gate.0 = omega arith in n)
    (sent_has (alive_of b) 0 gate.0 b.config.gates setup to gates has) in
    record {
      alive = sent b.id b.config.group (fields_in (Some setup.local) b);
      there = has_right (pings_of_tick (at_moment now m)) (broadcast_in b) _ (subst (λ t. Has (if t then alives_in b else []) (record { gate = gate; to = to; bytes = alive_of b setup })) (sym (due_before m now due)) there);
      tells = record { from = refl; group = refl; session = refl; timeline = refl; start = refl };
      ttl = refl;
      endpoint = refl;
    }

-- ---- news is noted

-- it is noted, as before a broadcast
told_or_noted : (e : EventValue) (m : Machine) → m.changed ≡ true → IsNoted (broadcast_by e m)
unfolding broadcast_after
told_or_noted (Tick now) m is =
    by_test (λ b. IsNoted (if b then record m { last_broadcast = Some m.moment; changed = false } else m)) (is_broadcast m) (λ _. inr refl) (λ _. inl is)
told_or_noted (Rx gate from bytes now) m is = inl is
told_or_noted (App commit now) m is = inl is
told_or_noted (Audio number commit now) m is = inl is
told_or_noted (End now) m is = inl is

noted_shown : (m : Machine) → IsNoted m → IsNoted (shown m)
unfolding shown
noted_shown m is = by_test (λ b. IsNoted (if b then m else record m { published = state_in m })) (alike (state_in m) m.published) (λ _. is) (λ _. is)

noted_step : (m : Machine) (e : EventValue) → (before_broadcast e m).changed ≡ true → IsNoted (step_of m e)
unfolding step_of before_shown
noted_step m e is = noted_shown (broadcast_by e (before_broadcast e m)) (told_or_noted e (before_broadcast e m) is)

either_true : (b : Bool) → (b || true) ≡ true
either_true true = refl
either_true false = refl

held_step : (m : Machine) (e : EventValue) → held_in (step_of m e) ≡ held_in (settled (midst m e))
held_step m e =
    let is = stands_step m e in
    let a = settled (midst m e) in
    let n = step_of m e in
    ap (λ i. let h : Held = record (held_in n) { id = i } in h) is.id
    ∙ ap (λ k. let h : Held = record { id = a.id; session = k.current.session; timeline = best_in k.current; start = latest_start_of still n.starts } in h) is.sessions
    ∙ ap (λ l. let h : Held = record (held_in a) { start = latest_start_of still l } in h) is.starts

pub new_noted : (m : Machine) (e : EventValue) → same_held (held_in m) (held_in (step_of m e)) ≡ false → IsNoted (step_of m e)
new_noted m e differs =
    let a = settled (midst m e) in
    let same : same_held (held_in m) (held_in a) ≡ false = subst (λ h. same_held (held_in m) h ≡ false) (held_step m e) differs in
    noted_step m e (changed_before m e ∙ ap (λ b. m.changed || not b) same ∙ either_true m.changed)

pub old_noted : (m : Machine) (e : EventValue) → m.changed ≡ true → IsNoted (step_of m e)
old_noted m e is = noted_step m e (changed_before m e ∙ ap (λ b. b || not (same_held (held_in m) (held_in (settled (midst m e))))) is)

-- ---- pings and the end

is_short : (n : ℕ) → n ≤ 32 → nat_lt 32 n ≡ false
is_short n le = grind (arith, nat_tests)

is_long : (n : ℕ) → 32 < n → nat_lt 32 n ≡ true
is_long n lt = grind (arith, nat_tests)

pub short_answered : (m : Machine) (gate : Gate) (from : Endpoint) (bytes payload : List ℕ) (now : ℤ) → reading_of bytes ≡ Ok (message.Ping payload) → length payload ≤ 32
    → sends_of m (Rx gate from bytes now) ≡ pong_of m gate from payload now ∷ []
unfolding sends_of pongs_to
short_answered m gate from bytes payload now is le =
    let at = at_moment now m in
    unchanged_end (answers_to gate from (reading_of bytes) at) ∙ ap (λ r. answers_to gate from r at) is
    ∙ ap (λ b. if b then [] else pong_of m gate from payload now ∷ []) (is_short (length payload) le)

pub long_passed : (m : Machine) (gate : Gate) (from : Endpoint) (bytes payload : List ℕ) (now : ℤ) → reading_of bytes ≡ Ok (message.Ping payload) → 32 < length payload
    → sends_of m (Rx gate from bytes now) ≡ []
unfolding sends_of pongs_to
long_passed m gate from bytes payload now is lt =
    let at = at_moment now m in
    unchanged_end (answers_to gate from (reading_of bytes) at) ∙ ap (λ r. answers_to gate from r at) is
    ∙ ap (λ b. if b then [] else pong_of m gate from payload now ∷ []) (is_long (length payload) lt)

pub goodbye_said : (m : Machine) (now : ℤ) (gate : Gate) (setup : GateValue) (to : Endpoint) → slice_get m.config.gates gate.0 ≡ Some setup → Has setup.destinations to
    → Has (sends_of m (End now)) (bye_to m gate to)
unfolding sends_of byes_in
goodbye_said m now gate setup to at has =
    let there : Has (byes_in (at_moment now m)) (bye_to m gate to) =
    subst (λ (n : ℕ). Has (byes_in (at_moment now m)) (bye_to m (record { 0 = n }) to)) (let n : 0 + gate.0 ≡ gate.0 = omega arith in n)
    (sent_has (bye_of (at_moment now m)) 0 gate.0 m.config.gates setup to at has) in
    has_left (byes_in (at_moment now m)) [] (bye_to m gate to) there
