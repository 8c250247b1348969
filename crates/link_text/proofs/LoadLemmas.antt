-- The words and the moments of a load.
use Rattle.std.proofs.Common.{◌≡◌, ◌∙◌, ℕ, ℤ, zero, suc, pos, ◌+◌, ◌*◌, ◌%◌, ◌^◌, ◌<◌, ◌≤◌, ◌+ℤ◌, w64, to_z, of_z, ap, refl, arith, add-one, rules, tests, false, true, nat_eq, nat_lt}
use Rattle.std.proofs.lemmas.Int.{ints}
use Rattle.std.proofs.lemmas.Nat.{mod_below}
use Rattle.rand_pcg.specs.Lcg.{Lcg}
use Rattle.rand_pcg.specs.Pcg.{pcg32}
use Rattle.lk_base.specs.Ids.{source_after, word_at}
use Rattle.client_state.specs.declared.state.State.{State}
use Rattle.asdp_messages.specs.Spelling.{spelled_of}
use Rattle.asdp_messages.specs.Spelling as written
use Rattle.link_text.specs.Load.{from_peer, peer_id_of, kind_word, load_event_by, load_event_of, load_moment_after, load_source_of, peer_word, step_word}

-- a word of the source, and the source behind it
one_word : (k word : ℕ) (source now next : Lcg) → now ≡ source_after k source → (word, next) ≡ pcg32 now
    → (word ≡ word_at k source) × (next ≡ source_after (k + 1) source)
unfolding word_at source_after
one_word k word source now next at e =
    let first = ap (λ (p : ℕ × Lcg). p.0) e ∙ ap (λ (s : Lcg). (pcg32 s).0) at in
    let second = ap (λ (p : ℕ × Lcg). p.1) e ∙ ap (λ (s : Lcg). (pcg32 s).1) at in
    (first, rw add-one second)

-- the three words of an event, from the source on that stands before it
three_words : (seed before a b c : ℕ) (source first second third : Lcg) → source ≡ source_after (3 * before) (load_source_of seed)
    → (a, first) ≡ pcg32 source → (b, second) ≡ pcg32 first → (c, third) ≡ pcg32 second
    → (a ≡ kind_word seed before) × (b ≡ step_word seed before) × (c ≡ peer_word seed before)
    × (third ≡ source_after (3 * (before + 1)) (load_source_of seed))
three_words seed before a b c source first second third at e f g =
    let from = load_source_of seed in
    let one = one_word (3 * before) a from source first at e in
    let two = one_word (3 * before + 1) b from first second one.1 f in
    let place : 3 * before + 1 + 1 ≡ 3 * before + 2 = omega arith in
    let three = one_word (3 * before + 2) c from second third (two.1 ∙ ap (λ (k : ℕ). source_after k from) place) g in
    let end : 3 * before + 2 + 1 ≡ 3 * (before + 1) = omega arith in
    (one.0, two.0, three.0, three.1 ∙ ap (λ (k : ℕ). source_after k from) end)

pub moment_most : (seed made : ℕ) → load_moment_after seed made ≤ 1_000_000 + 20_000 * made
unfolding load_moment_after
moment_most seed zero = omega arith
moment_most seed (suc before) =
    let step = mod_below (step_word seed before) 20_000 (omega arith) in
    let most = moment_most seed before in
    omega arith

pub moment_next : (seed before : ℕ) → load_moment_after seed (before + 1) ≡ load_moment_after seed before + (1 + step_word seed before % 20_000)
unfolding load_moment_after
moment_next seed before = rw add-one refl

-- of an event its words for the kind and the peer, the source behind it, and its moment
pub record IsNext (seed before a c : ℕ) (source : Lcg) (now : ℤ) : Type 0 where
  pub kind : a ≡ kind_word seed before
  pub peer : c ≡ peer_word seed before
  pub behind : source ≡ source_after (3 * (before + 1)) (load_source_of seed)
  pub moment : now ≡ pos (load_moment_after seed (before + 1))
  pub most : load_moment_after seed (before + 1) ≤ 2 ^ 54

pub next_is : (seed before a b c : ℕ) (source first second third : Lcg) (moment now : ℤ) → before < 524_288
    → source ≡ source_after (3 * before) (load_source_of seed) → moment ≡ pos (load_moment_after seed before)
    → (a, first) ≡ pcg32 source → (b, second) ≡ pcg32 first → (c, third) ≡ pcg32 second
    → now ≡ to_z w64 (of_z w64 moment) +ℤ pos (1 + b % 20_000)
    → IsNext seed before a c third now
next_is seed before a b c source first second third moment now few at m e f g n =
    let words = three_words seed before a b c source first second third at e f g in
    let most = moment_most seed before in
    let next = moment_next seed before in
    let short = mod_below b 20_000 (omega arith) in
    let same = ap (λ (w : ℕ). w % 20_000) words.1 in
    record { kind = words.0; peer = words.2; behind = words.3; moment = omega (arith, ints); most = omega arith }

pub event_is : (seed before kind word : ℕ) (state : State) (now : ℤ) → kind ≡ kind_word seed before → word ≡ peer_word seed before
    → now ≡ pos (load_moment_after seed (before + 1))
    → load_event_by (kind % 8) (word % 16) word before state now ≡ load_event_of seed before state
unfolding load_event_of
event_is seed before kind word state now k w n =
    ap (λ (x : ℕ). load_event_by (x % 8) (word % 16) word before state now) k
    ∙ ap (λ (x : ℕ). load_event_by (kind_word seed before % 8) (x % 16) x before state now) w
    ∙ ap (λ (x : ℤ). load_event_by (kind_word seed before % 8) (peer_word seed before % 16) (peer_word seed before) before state x) n

-- after the tests for the kinds before it
pub bye_is : (kind j word before : ℕ) (state : State) (now : ℤ) → 7 ≤ kind → j % 2 ≡ 0
    → load_event_by kind j word before state now ≡ from_peer j (spelled_of (written.Bye (peer_id_of j) 0 0)) now
bye_is kind j word before state now last even =
    let no_alive : nat_lt kind 4 ≡ false = search (tests, rules) in
    let no_ping : nat_eq kind 4 ≡ false = search (tests, rules) in
    let no_tick : nat_lt kind 7 ≡ false = search (tests, rules) in
    let no_commit : nat_eq (j % 2) 0 ≡ true = search (tests, rules) in
    rw (no_alive, no_ping, no_tick, no_commit) refl
