-- That the lines of what is written are the lines that were put together.
use Rattle.std.proofs.Common.{◌≡◌, ◌≤◌, ◌<◌, ◌/◌, ◌%◌, ◌^◌, ◌==◌, ◌&&◌, nat_lt, ◌++◌, ◌∷◌, [], zero, suc, length, map, get_or, List, ℕ, ℤ, pos, negsuc, Bool, true, false, if◌then◌else◌, not, ap, refl, sym, ◌∙◌, arith, append_assoc, Option, Some, None, codes}
use Rattle.std.specs.Prelude.{All, slice_index}
use Rattle.std.specs.Fmt.{decimal, signed_decimal, digit_glyph, digits, digits_onto}
use Rattle.std.specs.List.{AllByRecursion, flat_map, onto_first}
use Rattle.std.proofs.lemmas.Bool.{and_parts, cond-true, cond_both}
use Rattle.std.proofs.lemmas.Bool.Decides.{nat_tests}
use Rattle.std.proofs.lemmas.List.Elements.{All-append, All-cons, All-head, All-map, All-nil, All-same, All-tail, All-weaker}
use Rattle.std.proofs.lemmas.List.Concat.{flat_map-cons}
use Rattle.std.proofs.lemmas.Grind.{flat_map-append}
use Rattle.std.proofs.lemmas.List.Folds.{flat_map-map}
use Rattle.hex.specs.Hex.{encode_lower, encode_with, lower_digits}
use Rattle.lk_base.specs.declared.endpoint.Endpoint.{Endpoint}
use Rattle.link_lines.specs.Lines.{lines_of, is_passed, counting_in}
use Rattle.link_lines.specs.Words.{joined, truth_text_of, endpoint_text_of, dotted}
use Rattle.hex.proofs.HexLemmas.{decode_of-encode_lower}
use Rattle.link_payload.specs.Entries.{AreBytes}
use Rattle.lk_base.specs.declared.start.ClientStart.{ClientStart}
use Rattle.lk_base.specs.declared.timeline.Timeline.{Timeline}
use Rattle.client_state.specs.declared.commit.Commit.{Commit}
use Rattle.link_node.specs.Config.{ConfigValue, GateValue}
use Rattle.link_node.specs.Event.{EventValue, Rx, Tick, App, Audio, End, audio_after}
use Rattle.link_script.specs.ReplayScript.{AreEventLines, AreSayable, IsEventKind, IsHead, IsHexIn, IsHexOf, commit_words, ended, event_line, event_words, gate_line, gate_lines, group_line, head_lines, hex_of, hex_word, node_line, quantum_line, quantum_words, start_words, timeline_words, to_line, version_line, written_script_of}

-- no byte is a line feed or below it
abbrev pub AreAbove : List ℕ → Type 0
AreAbove line = All (λ c. 10 < c) line

-- a line that holds no line feed, isn't empty and doesn't begin with `#`
pub record IsLine (line : List ℕ) : Type 0 where
  pub above : AreAbove line
  pub counts : is_passed line ≡ false

-- ---- lines

-- a line and its line feed are a line of its own
pub lines_of-ended : (line rest : List ℕ) → AreAbove line → lines_of (line ++ 10 ∷ rest) ≡ line ∷ lines_of rest
unfolding lines_of
lines_of-ended [] rest h = refl
lines_of-ended (c ∷ line) rest h =
    let ih = lines_of-ended line rest (All-tail (λ c. 10 < c) c line h) in
    let first : 10 < c = All-head (λ c. 10 < c) c line h in
    let other : (c == 10) ≡ false = grind (arith, nat_tests) in
    ap (λ (b : Bool). if b then [] ∷ lines_of (line ++ 10 ∷ rest) else onto_first c (lines_of (line ++ 10 ∷ rest))) other
    ∙ ap (onto_first c) ih

-- the lines that were put together
pub lines_are_read : (lines : List (List ℕ)) → All IsLine lines → counting_in (lines_of (flat_map ended lines)) ≡ lines
unfolding lines_of
lines_are_read [] h = refl
lines_are_read (line ∷ lines) h =
    let first = All-head IsLine line lines h in
    let ih = lines_are_read lines (All-tail IsLine line lines h) in
    let split = flat_map-cons ended line lines ∙ append_assoc line (10 ∷ []) (flat_map ended lines) in
    ap (λ (text : List ℕ). counting_in (lines_of text)) split
    ∙ ap counting_in (lines_of-ended line (flat_map ended lines) first.above)
    ∙ cond-true (not (is_passed line)) (line ∷ counting_in (lines_of (flat_map ended lines))) (counting_in (lines_of (flat_map ended lines))) (ap not first.counts)
    ∙ ap (λ (ls : List (List ℕ)). line ∷ ls) ih

-- ---- words

abbrev AreAllAbove : List (List ℕ) → Type 0
AreAllAbove words = AllByRecursion AreAbove words

-- words that are above stay so when they are joined
joined-above : (words : List (List ℕ)) → AreAllAbove words → AreAbove (joined words)
joined-above [] h = All-nil (λ c. 10 < c)
joined-above (word ∷ []) h = h.0
joined-above (word ∷ next ∷ words) h =
    All-append (λ c. 10 < c) word (32 ∷ joined (next ∷ words)) h.0
    (All-cons (λ c. 10 < c) 32 (joined (next ∷ words)) (omega arith) (joined-above (next ∷ words) h.1))

both-above : (words more : List (List ℕ)) → AreAllAbove words → AreAllAbove more → AreAllAbove (words ++ more)
both-above [] more h k = k
both-above (word ∷ words) more h k = (h.0, both-above words more h.1 k)

digits_onto-above : (k n : ℕ) (acc : List ℕ) → AreAbove acc → AreAbove (digits_onto k 10 false n acc)
digits_onto-above zero n acc h = h
digits_onto-above (suc k) n acc h =
    let glyph : 10 < digit_glyph false (n % 10) = grind (arith, nat_tests) in
    let more = All-cons (λ c. 10 < c) (digit_glyph false (n % 10)) acc glyph h in
    cond_both (n / 10 == 0) (digit_glyph false (n % 10) ∷ acc) (digits_onto k 10 false (n / 10) (digit_glyph false (n % 10) ∷ acc)) AreAbove
    (λ _. more) (λ _. digits_onto-above k (n / 10) (digit_glyph false (n % 10) ∷ acc) more)

pub decimal-above : (n : ℕ) → AreAbove (decimal n)
unfolding digits
decimal-above n = digits_onto-above 64 n [] (All-nil (λ c. 10 < c))

pub signed-above : (z : ℤ) → AreAbove (signed_decimal z)
signed-above (pos n) = decimal-above n
signed-above (negsuc n) = All-cons (λ c. 10 < c) 45 (decimal (suc n)) (omega arith) (decimal-above (suc n))

pub truth-above : (b : Bool) → AreAbove (truth_text_of b)
unfolding truth_text_of
truth-above true = All-cons (λ c. 10 < c) 49 [] (omega arith) (All-nil (λ c. 10 < c))
truth-above false = All-cons (λ c. 10 < c) 48 [] (omega arith) (All-nil (λ c. 10 < c))

-- two words with a byte between them
between-above : (a b : List ℕ) (c : ℕ) → 10 < c → AreAbove a → AreAbove b → AreAbove (a ++ c ∷ b)
between-above a b c h ha hb = All-append (λ c. 10 < c) a (c ∷ b) ha (All-cons (λ c. 10 < c) c b h hb)

pub endpoint-above : (e : Endpoint) → AreAbove (endpoint_text_of e)
unfolding endpoint_text_of dotted
endpoint-above e =
    between-above _ _ 46 (omega arith) (decimal-above (e.addr / 256 ^ 3))
    (between-above _ _ 46 (omega arith) (decimal-above (e.addr / 256 ^ 2 % 256))
    (between-above _ _ 46 (omega arith) (decimal-above (e.addr / 256 % 256))
    (between-above _ _ 58 (omega arith) (decimal-above (e.addr % 256)) (decimal-above e.port))))

-- the test of a word that computes
abbrev all_above : List ℕ → Bool
all_above [] = true
all_above (c ∷ line) = nat_lt 10 c && all_above line

literal-above : (line : List ℕ) → all_above line ≡ true → AreAbove line
literal-above [] h = All-nil (λ c. 10 < c)
literal-above (c ∷ line) h =
    let parts = and_parts (nat_lt 10 c) (all_above line) h in
    let first : 10 < c = grind (arith, nat_tests, parts.0) in
    All-cons (λ c. 10 < c) c line first (literal-above line parts.1)

digits-above : AreAbove lower_digits
digits-above = literal-above lower_digits refl

hex-above : (bytes : List ℕ) → AreBytes bytes → AreAbove (encode_lower bytes)
unfolding encode_with
hex-above [] h = All-nil (λ c. 10 < c)
hex-above (b ∷ bytes) h =
    let byte : b < 256 = h 0 in
    let high : b / 16 < 16 = omega arith in
    let low : b % 16 < 16 = omega arith in
    All-cons (λ c. 10 < c) (slice_index lower_digits (b / 16)) (slice_index lower_digits (b % 16) ∷ encode_lower bytes) (digits-above (b / 16) 0 high)
    (All-cons (λ c. 10 < c) (slice_index lower_digits (b % 16)) (encode_lower bytes) (digits-above (b % 16) 0 low) (hex-above bytes (λ i. h (suc i))))

hex_word-above : (bytes : List ℕ) → AreBytes bytes → AreAbove (hex_word bytes)
hex_word-above [] h = literal-above (45 ∷ []) refl
hex_word-above (b ∷ bytes) h = hex-above (b ∷ bytes) h

-- ---- the head

version-line : IsLine (version_line 2)
version-line = record {
  above = joined-above (codes "replay" ∷ decimal 2 ∷ []) (literal-above (codes "replay") refl, (decimal-above 2, tt));
  counts = refl;
}

node-line : (config : ConfigValue) (now : ℤ) → IsHead config now → IsLine (node_line config now)
node-line config now head =
    let characters = All-weaker (λ c. (33 ≤ c) × (c ≤ 126)) (λ c. 10 < c) (λ c h. omega (arith, h.0)) config.id.0 head.id.visible in
    record {
      above = joined-above (codes "node" ∷ config.id.0 ∷ decimal config.seed ∷ signed_decimal config.mpb ∷ truth_text_of config.sync ∷ signed_decimal now ∷ [])
          (literal-above (codes "node") refl, (characters, (decimal-above config.seed, (signed-above config.mpb, (truth-above config.sync, (signed-above now, tt))))));
      counts = refl;
    }

group-line : (group : ℕ) → IsLine (group_line group)
group-line group = record {
  above = joined-above (codes "group" ∷ decimal group ∷ []) (literal-above (codes "group") refl, (decimal-above group, tt));
  counts = refl;
}

quantum-line : (quantum : ℤ) → IsLine (quantum_line quantum)
quantum-line quantum = record {
  above = joined-above (codes "quantum" ∷ signed_decimal quantum ∷ []) (literal-above (codes "quantum") refl, (signed-above quantum, tt));
  counts = refl;
}

gate-line : (e : Endpoint) → IsLine (gate_line e)
gate-line e = record {
  above = joined-above (codes "gate" ∷ endpoint_text_of e ∷ []) (literal-above (codes "gate") refl, (endpoint-above e, tt));
  counts = refl;
}

to-line : (e : Endpoint) → IsLine (to_line e)
to-line e = record {
  above = joined-above (codes "to" ∷ endpoint_text_of e ∷ []) (literal-above (codes "to") refl, (endpoint-above e, tt));
  counts = refl;
}

gate-lines : (gates : List GateValue) → All IsLine (flat_map gate_lines gates)
gate-lines [] = All-nil IsLine
gate-lines (gate ∷ gates) =
    All-same IsLine (flat_map gate_lines (gate ∷ gates)) (gate_lines gate ++ flat_map gate_lines gates) (flat_map-cons gate_lines gate gates)
    (All-append IsLine (gate_lines gate) (flat_map gate_lines gates)
    (All-cons IsLine (gate_line gate.local) (map to_line gate.destinations) (gate-line gate.local)
    (All-map IsLine to_line gate.destinations (λ k d lt. to-line (get_or gate.destinations k d))))
    (gate-lines gates))

head-lines : (config : ConfigValue) (now : ℤ) → IsHead config now → All IsLine (head_lines 2 config now)
unfolding head_lines
head-lines config now head =
    let gates = flat_map gate_lines config.gates in
    let group = group_line config.group in
    let quantum = quantum_line config.quantum in
    All-cons IsLine (version_line 2) (node_line config now ∷ group ∷ quantum ∷ gates) version-line
    (All-cons IsLine (node_line config now) (group ∷ quantum ∷ gates) (node-line config now head)
    (All-cons IsLine group (quantum ∷ gates) (group-line config.group)
    (All-cons IsLine quantum gates (quantum-line config.quantum) (gate-lines config.gates))))

-- ---- the events

timeline-above : (tl : Option Timeline) → AreAllAbove (timeline_words tl)
timeline-above None = tt
timeline-above (Some tl) = (literal-above (codes "t") refl, (signed-above tl.mpb, (signed-above tl.beat, (signed-above tl.time, tt))))

start-above : (start : Option ClientStart) → AreAllAbove (start_words start)
start-above None = tt
start-above (Some start) = (literal-above (codes "s") refl, (truth-above start.playing, (signed-above start.time, (signed-above start.stamp, tt))))

quantum-above : (quantum : Option ℤ) → AreAllAbove (quantum_words quantum)
quantum-above None = tt
quantum-above (Some quantum) = (literal-above (codes "q") refl, (signed-above quantum, tt))

commit-above : (commit : Commit) → AreAllAbove (commit_words commit)
commit-above commit = (
  signed-above commit.at,
  both-above (timeline_words commit.timeline) (start_words commit.start ++ quantum_words commit.quantum) (timeline-above commit.timeline)
      (both-above (start_words commit.start) (quantum_words commit.quantum) (start-above commit.start) (quantum-above commit.quantum)),
)

event-above : (gates audio : ℕ) (e : EventValue) → IsEventKind gates audio e → AreAllAbove (event_words (hex_of e) e)
unfolding event_words
event-above gates audio (Rx gate from bytes now) h =
    (literal-above (codes "rx") refl, (signed-above now, (decimal-above gate.0, (endpoint-above from, (hex_word-above bytes h.2, tt)))))
event-above gates audio (Tick now) h = (literal-above (codes "tick") refl, (signed-above now, tt))
event-above gates audio (App commit now) h = (literal-above (codes "app") refl, (signed-above now, commit-above commit))
event-above gates audio (Audio number commit now) h = (literal-above (codes "audio") refl, (signed-above now, (decimal-above number, commit-above commit)))
event-above gates audio (End now) h = (literal-above (codes "end") refl, (signed-above now, tt))

event-counts : (e : EventValue) → is_passed (event_line e) ≡ false
unfolding event_words
event-counts (Rx gate from bytes now) = refl
event-counts (Tick now) = refl
event-counts (App commit now) = refl
event-counts (Audio number commit now) = refl
event-counts (End now) = refl

event-lines : (gates audio : ℕ) (es : List EventValue) → AreSayable gates audio es → All IsLine (map event_line es)
event-lines gates audio [] h = All-nil IsLine
event-lines gates audio (e ∷ es) h =
    All-cons IsLine (event_line e) (map event_line es)
    (record { above = joined-above (event_words (hex_of e) e) (event-above gates audio e h.0.1); counts = event-counts e })
    (event-lines gates (audio_after audio e) es h.1)

-- the bytes are what their digits say
hex-is : (bytes : List ℕ) → AreBytes bytes → IsHexOf (hex_word bytes) bytes
hex-is [] h = refl
hex-is (b ∷ bytes) h = decode_of-encode_lower (b ∷ bytes) h

hex-in : (gates audio : ℕ) (e : EventValue) → IsEventKind gates audio e → IsHexIn (hex_of e) e
hex-in gates audio (Rx gate from bytes now) h = hex-is bytes h.2
hex-in gates audio (Tick now) h = tt
hex-in gates audio (App commit now) h = tt
hex-in gates audio (Audio number commit now) h = tt
hex-in gates audio (End now) h = tt

-- each line says its event
pub events_are_said : (gates audio : ℕ) (es : List EventValue) → AreSayable gates audio es → AreEventLines gates audio (map event_line es) es
events_are_said gates audio [] h = tt
events_are_said gates audio (e ∷ es) h = (
  record { moment = h.0.0; kind = h.0.1; hex = hex_of e; hex_is = hex-in gates audio e h.0.1; said = refl },
  events_are_said gates (audio_after audio e) es h.1,
)

-- ---- the whole text

-- the lines that count are those of the head and of the events
pub script_is_read : (config : ConfigValue) (now : ℤ) (es : List EventValue) → IsHead config now → AreSayable (length config.gates) 0 es
    → counting_in (lines_of (written_script_of config now es)) ≡ head_lines 2 config now ++ map event_line es
unfolding written_script_of
script_is_read config now es head sayable =
    let head_text = flat_map ended (head_lines 2 config now) in
    let text = ap (λ (xs : List ℕ). head_text ++ xs) (sym (flat_map-map ended event_line es)) ∙ sym (flat_map-append ended (head_lines 2 config now) (map event_line es)) in
    ap (λ (xs : List ℕ). counting_in (lines_of xs)) text
    ∙ lines_are_read (head_lines 2 config now ++ map event_line es)
    (All-append IsLine (head_lines 2 config now) (map event_line es) (head-lines config now head) (event-lines (length config.gates) 0 es sayable))
