-- The record of a live run: what is written of it is a replay script of its node and its events.
use Rattle.std.proofs.Common.{◌≡◌, ◌≤◌, ◌<◌, ◌+◌, ◌/◌, ◌%◌, ◌^◌, ◌==◌, ◌&&◌, nat_lt, ◌++◌, ◌∷◌, [], zero, suc, length, map, take, get_or, List, ℕ, ℤ, pos, negsuc, Bool, true, false, if◌then◌else◌, ap, refl, sym, subst, ◌∙◌, arith, append_assoc, codes}
use Rattle.std.specs.Prelude.{All, slice_index}
use Rattle.std.specs.Fmt.{decimal, signed_decimal, digit_glyph, digits, digits_onto}
use Rattle.std.specs.List.{flat_map, onto_first}
use Rattle.std.proofs.lemmas.Bool.{and_parts, cond_both}
use Rattle.std.proofs.lemmas.Bool.Decides.{nat_tests}
use Rattle.std.proofs.lemmas.List.{map-append, take_all, take_more}
use Rattle.std.proofs.lemmas.List.Elements.{All-append, All-cons, All-head, All-nil, All-push, All-same, All-tail}
use Rattle.hex.specs.Hex.{encode_lower, encode_with, lower_digits}
use Rattle.lk_base.specs.Ranges.{IsMoment, IsQuantum}
use Rattle.client_state.specs.declared.state.State.{State}
use Rattle.link_node.specs.Config.{ConfigValue, IsConfig}
use Rattle.link_node.specs.Event.{EventValue, FitsKind, event_value, app_after, audio_after}
use Rattle.link_node.specs.Runs.{AreFitting}
use Rattle.link_node.specs.declared.event.Event.{Event}
use Rattle.link_lines.specs.Line.{line_of}
use Rattle.link_lines.specs.Lines.{lines_of, counting_in}
use Rattle.link_script.specs.LiveScript.{IsLiveHead}
use Rattle.link_script.specs.ReplayScript.{AreSayable, IsEventKind, IsGate, IsHead, IsScriptOf, written_script_of}
use Rattle.link_text.specs.ReplayText.{state_line_of}
use Rattle.link_lines.specs.Words.{joined, truth_text_of}
use Rattle.link_live.specs.Report.{ReportValue}
use Rattle.link_live_command.specs.ReportText.{last_state_text_of, live_line_of, live_text_of}

-- ---- the head

-- a node with the gates and the tempo of a live script, and a quantum in its range, can be opened
pub is_config : (config : ConfigValue) → IsLiveHead config.mpb config.gates → IsQuantum config.quantum → IsConfig config
is_config config head quantum = record {
  some_gate = head.some_gate;
  few_gates = head.few_gates;
  fastest = head.tempo.fastest;
  slowest = head.tempo.slowest;
  quantum = quantum;
}

pub is_head : (config : ConfigValue) (now : ℤ) → length config.id.0 ≡ 8 → All (λ c. (33 ≤ c) × (c ≤ 126)) config.id.0 → config.seed < 2 ^ 64
    → config.group < 2 ^ 16 → IsConfig config → All IsGate config.gates → IsMoment now → IsHead config now
is_head config now eight visible seed group opens gates moment = record {
  id = record { eight = eight; visible = visible };
  seed = seed;
  group = group;
  opens = opens;
  gates = gates;
  moment = moment;
}

-- ---- words without a line feed

abbrev IsNoFeed : ℕ → Type 0
IsNoFeed c = (c == 10) ≡ false

abbrev HasNoFeed : List ℕ → Type 0
HasNoFeed text = All IsNoFeed text

record LineWord : Type 0 where
  word : List ℕ
  no_feed : HasNoFeed word

abbrev words_in : List LineWord → List (List ℕ)
words_in words = map (λ w. w.word) words

joined-no_feed : (words : List LineWord) → HasNoFeed (joined (words_in words))
joined-no_feed [] = All-nil IsNoFeed
joined-no_feed (w ∷ []) = w.no_feed
joined-no_feed (w ∷ next ∷ words) =
    All-append IsNoFeed w.word (32 ∷ joined (words_in (next ∷ words))) w.no_feed
    (All-cons IsNoFeed 32 (joined (words_in (next ∷ words))) refl (joined-no_feed (next ∷ words)))

-- what is greater is none
above-no_feed : (c : ℕ) → 10 < c → IsNoFeed c
above-no_feed c above = grind (arith, nat_tests)

digits_onto-no_feed : (k n : ℕ) (acc : List ℕ) → HasNoFeed acc → HasNoFeed (digits_onto k 10 false n acc)
digits_onto-no_feed zero n acc h = h
digits_onto-no_feed (suc k) n acc h =
    let glyph : 10 < digit_glyph false (n % 10) = grind (arith, nat_tests) in
    let more = All-cons IsNoFeed (digit_glyph false (n % 10)) acc (above-no_feed (digit_glyph false (n % 10)) glyph) h in
    cond_both (n / 10 == 0) (digit_glyph false (n % 10) ∷ acc) (digits_onto k 10 false (n / 10) (digit_glyph false (n % 10) ∷ acc)) HasNoFeed
    (λ _. more) (λ _. digits_onto-no_feed k (n / 10) (digit_glyph false (n % 10) ∷ acc) more)

decimal-no_feed : (n : ℕ) → HasNoFeed (decimal n)
unfolding digits
decimal-no_feed n = digits_onto-no_feed 64 n [] (All-nil IsNoFeed)

signed-no_feed : (z : ℤ) → HasNoFeed (signed_decimal z)
signed-no_feed (pos n) = decimal-no_feed n
signed-no_feed (negsuc n) = All-cons IsNoFeed 45 (decimal (suc n)) refl (decimal-no_feed (suc n))

truth-no_feed : (b : Bool) → HasNoFeed (truth_text_of b)
unfolding truth_text_of
truth-no_feed true = All-cons IsNoFeed 49 [] refl (All-nil IsNoFeed)
truth-no_feed false = All-cons IsNoFeed 48 [] refl (All-nil IsNoFeed)

-- the test of a word that computes
abbrev all_above : List ℕ → Bool
all_above [] = true
all_above (c ∷ text) = nat_lt 10 c && all_above text

literal-no_feed : (text : List ℕ) → all_above text ≡ true → HasNoFeed text
literal-no_feed [] h = All-nil IsNoFeed
literal-no_feed (c ∷ text) h =
    let parts = and_parts (nat_lt 10 c) (all_above text) h in
    let first : 10 < c = grind (arith, nat_tests, parts.0) in
    All-cons IsNoFeed c text (above-no_feed c first) (literal-no_feed text parts.1)

-- a digit of a table, or 0 behind its end
digit-no_feed : (table : List ℕ) (i : ℕ) → HasNoFeed table → IsNoFeed (slice_index table i)
digit-no_feed [] i h = refl
digit-no_feed (c ∷ table) zero h = All-head IsNoFeed c table h
digit-no_feed (c ∷ table) (suc i) h = digit-no_feed table i (All-tail IsNoFeed c table h)

hex-no_feed : (bytes : List ℕ) → HasNoFeed (encode_lower bytes)
unfolding encode_with
hex-no_feed [] = All-nil IsNoFeed
hex-no_feed (b ∷ bytes) =
    let table : HasNoFeed lower_digits = literal-no_feed lower_digits refl in
    All-cons IsNoFeed (slice_index lower_digits (b / 16)) (slice_index lower_digits (b % 16) ∷ encode_lower bytes) (digit-no_feed lower_digits (b / 16) table)
    (All-cons IsNoFeed (slice_index lower_digits (b % 16)) (encode_lower bytes) (digit-no_feed lower_digits (b % 16) table) (hex-no_feed bytes))

abbrev literal_word : (text : List ℕ) → all_above text ≡ true → LineWord
literal_word text h = record { word = text; no_feed = literal-no_feed text h }

abbrev number_word : ℕ → LineWord
number_word n = record { word = decimal n; no_feed = decimal-no_feed n }

abbrev signed_word : ℤ → LineWord
signed_word z = record { word = signed_decimal z; no_feed = signed-no_feed z }

abbrev truth_word : Bool → LineWord
truth_word b = record { word = truth_text_of b; no_feed = truth-no_feed b }

abbrev hex_word : List ℕ → LineWord
hex_word bytes = record { word = encode_lower bytes; no_feed = hex-no_feed bytes }

-- ---- lines that are passed over

-- a line and its line feed are a line of its own
lines_of-ended : (line rest : List ℕ) → HasNoFeed line → lines_of (line ++ 10 ∷ rest) ≡ line ∷ lines_of rest
unfolding lines_of
lines_of-ended [] rest h = refl
lines_of-ended (c ∷ line) rest h =
    let ih = lines_of-ended line rest (All-tail IsNoFeed c line h) in
    ap (λ (b : Bool). if b then [] ∷ lines_of (line ++ 10 ∷ rest) else onto_first c (lines_of (line ++ 10 ∷ rest))) (All-head IsNoFeed c line h)
    ∙ ap (onto_first c) ih

line_of-joined : (words : List (List ℕ)) → line_of words ≡ joined words ++ 10 ∷ []
line_of-joined [] = refl
line_of-joined (word ∷ []) = refl
line_of-joined (word ∷ next ∷ words) =
    ap (λ (xs : List ℕ). word ++ 32 ∷ xs) (line_of-joined (next ∷ words))
    ∙ sym (append_assoc word (32 ∷ joined (next ∷ words)) (10 ∷ []))

-- words behind a `#` are passed over, and the lines that count are those of what follows
hash_passed : (words : List LineWord) (rest : List ℕ)
    → counting_in (lines_of (35 ∷ 32 ∷ (line_of (words_in words) ++ rest))) ≡ counting_in (lines_of rest)
hash_passed words rest =
    let line = joined (words_in words) in
    let spelled : line_of (words_in words) ++ rest ≡ line ++ 10 ∷ rest
    = ap (λ (xs : List ℕ). xs ++ rest) (line_of-joined (words_in words)) ∙ append_assoc line (10 ∷ []) rest in
    let no_feed : HasNoFeed (35 ∷ 32 ∷ line) = All-cons IsNoFeed 35 (32 ∷ line) refl (All-cons IsNoFeed 32 line refl (joined-no_feed words)) in
    ap (λ (xs : List ℕ). counting_in (lines_of (35 ∷ 32 ∷ xs))) spelled
    ∙ ap counting_in (lines_of-ended (35 ∷ 32 ∷ line) rest no_feed)

-- the line of how much there was
live_passed : (report : ReportValue) (rest : List ℕ) → counting_in (lines_of (live_line_of report ++ rest)) ≡ counting_in (lines_of rest)
unfolding live_line_of
live_passed report rest =
    hash_passed
    (literal_word (codes "live") refl ∷ number_word (length report.events) ∷ number_word (length report.published)
    ∷ number_word (length report.reads) ∷ number_word (length report.captures) ∷ number_word (length report.app_commits)
    ∷ number_word (length report.audio_commits) ∷ number_word (length report.plays)
    ∷ number_word (length (flat_map (λ clicks. clicks) report.plays)) ∷ [])
    rest

-- the line of a state with its session and quantum
one_passed : (number : ℕ) (state : State) (rest : List ℕ)
    → counting_in (lines_of ((codes "# " ++ state_line_of 2 number state) ++ rest)) ≡ counting_in (lines_of rest)
unfolding state_line_of
one_passed number state rest =
    hash_passed
    (literal_word (codes "state") refl ∷ number_word number
    ∷ signed_word state.timeline.mpb ∷ signed_word state.timeline.beat ∷ signed_word state.timeline.time
    ∷ truth_word state.start.playing ∷ signed_word state.start.time ∷ signed_word state.start.stamp
    ∷ truth_word state.sync ∷ number_word state.peers ∷ signed_word state.moment ∷ number_word state.app ∷ number_word state.audio
    ∷ hex_word state.session.0 ∷ signed_word state.quantum ∷ [])
    rest

-- that of the state published last
state_passed : (states : List State) (number : ℕ) (rest : List ℕ)
    → counting_in (lines_of (last_state_text_of number states ++ rest)) ≡ counting_in (lines_of rest)
state_passed [] number rest = refl
state_passed (state ∷ []) number rest = one_passed number state rest
state_passed (state ∷ next ∷ states) number rest = state_passed (next ∷ states) (number + 1) rest

-- all lines that count are those of the replay script
pub whole_record : (report : ReportValue)
    → IsScriptOf (written_script_of report.config report.now report.events) 2 report.config report.now report.events
    → IsScriptOf (live_text_of report true) 2 report.config report.now report.events
unfolding live_text_of
whole_record report script =
    let text = written_script_of report.config report.now report.events in
    let same : counting_in (lines_of ((live_line_of report ++ last_state_text_of 0 report.published) ++ text)) ≡ counting_in (lines_of text)
    = ap (λ (xs : List ℕ). counting_in (lines_of xs)) (append_assoc (live_line_of report) (last_state_text_of 0 report.published) text)
    ∙ live_passed report (last_state_text_of 0 report.published ++ text)
    ∙ state_passed report.published 0 text in
    record { known = script.known; head = script.head; rest = script.rest; said = same ∙ script.said; events = script.events; plain = script.plain }

-- ---- the events

-- what a node could take can be said, whatever was taken before
pub record IsSayable (e : EventValue) : Type 0 where
  pub kind : (gates app audio : ℕ) → FitsKind gates app audio e → IsEventKind gates audio e

-- one more of those that a journal holds
pub sayable_next : (events : List Event) (n : ℕ) (event : Event) → n < length events → event ≡ get_or events n event
    → ((gates app audio : ℕ) → FitsKind gates app audio (event_value event) → IsEventKind gates audio (event_value event))
    → All IsSayable (map event_value (take n events)) → All IsSayable (map event_value (take (n + 1) events))
sayable_next events n event h is kind before =
    let front = map event_value (take n events) in
    let more : map event_value (take (n + 1) events) ≡ front ++ event_value event ∷ []
    = ap (map event_value) (take_more events n event h)
    ∙ map-append event_value (take n events) (get_or events n event ∷ [])
    ∙ ap (λ (e : Event). front ++ event_value e ∷ []) (sym is) in
    All-same IsSayable _ _ more (All-push IsSayable front (event_value event) before (record { kind = kind }))

-- events one after the other
pub sayable : (gates app audio : ℕ) (es : List EventValue) → All IsSayable es → AreFitting gates app audio es → AreSayable gates audio es
sayable gates app audio [] each fit = tt
sayable gates app audio (e ∷ es) each fit = (
  (fit.0.0, (All-head IsSayable e es each).kind gates app audio fit.0.1),
  sayable gates (app_after app e) (audio_after audio e) es (All-tail IsSayable e es each) fit.1,
)

-- all events of a journal
pub all_sayable : (gates app audio : ℕ) (events : List Event) (n : ℕ) → length events ≤ n → All IsSayable (map event_value (take n events))
    → AreFitting gates app audio (map event_value events) → AreSayable gates audio (map event_value events)
all_sayable gates app audio events n all each fit =
    let same = take_all n events all in
    sayable gates app audio (map event_value events) (subst (λ (xs : List Event). All IsSayable (map event_value xs)) same each) fit
