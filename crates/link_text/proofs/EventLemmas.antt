-- The words of an event.
use Rattle.std.proofs.Common.{◌≡◌, ◌≢◌, ◌⊎◌, inl, inr, refl, sym, ◌∙◌, ap, subst, arith, ℤ, pos, negsuc, ◌≤ℤ◌, ℕ, zero, suc, ◌<◌, ◌≤◌, ◌^◌, ◌==◌, if◌then◌else◌, true, false, Bool, w64, to_z, of_z, List, [], ◌∷◌, ◌++◌, length, codes, get_or, Option, Some, None, IfSome, IfNone}
use Rattle.std.specs.List.{Contains, onto_first, slice_index}
use Rattle.std.specs.Fmt.{decimal, signed_decimal}
use Rattle.std.specs.Int.Signed.{mag}
use Rattle.std.specs.Option.{ForSome}
use Rattle.std.proofs.lemmas.Int.{ints}
use Rattle.std.proofs.lemmas.List.{get_or_default}
use Rattle.std.proofs.lemmas.Bool.{cases_eq}
use Rattle.std.proofs.lemmas.List.Elements.{Contains-append_cases}
use Rattle.std.proofs.lemmas.Fmt.{decimal_injective, signed_decimal_injective}
use Rattle.std.proofs.lemmas.Bool.Decides.{nat_tests}
use Rattle.hex.specs.Hex.{is_hex_digit}
use Rattle.hex.proofs.HexLemmas.{decode_of-ok}
use Rattle.lk_base.specs.Endpoint.{IsEndpoint}
use Rattle.lk_base.specs.Ranges.{IsMoment, IsQuantum, IsWithinLimit}
use Rattle.lk_base.specs.Timeline.{IsTidy}
use Rattle.lk_base.specs.declared.endpoint.Endpoint.{Endpoint}
use Rattle.lk_base.specs.declared.start.ClientStart.{ClientStart}
use Rattle.lk_base.specs.declared.timeline.Timeline.{Timeline}
use Rattle.client_state.specs.Commit.{IsTidyCommit, IsTidyStart}
use Rattle.client_state.specs.declared.commit.Commit.{Commit}
use Rattle.link_node.specs.Event.{EventValue, Rx, Tick, App, Audio, End, moment_of}
use Rattle.link_lines.specs.Words.{joined, dotted, truth_text_of, endpoint_text_of}
use Rattle.link_text.specs.EventDetails.{kind_of, details_of, SaysDetails}
use Rattle.link_lines.specs.LineWords.{words_of}
use Rattle.link_script.specs.ReplayScript.{event_words, commit_words, timeline_words, start_words, quantum_words, IsHexOf, IsHexIn, IsEventKind, IsEventLine}
use Rattle.link_text.specs.SaidEvent.{said_value}
use Rattle.link_text.specs.declared.said_event.SaidEvent.{SaidEvent}
use Rattle.link_lines.proofs.NumberLemmas.{decimal_lacks, stored}
use Rattle.link_lines.proofs.LineWordLemmas.{words_cut, words_last, words_some}

-- ---- words without a space

abbrev pub Lacks : List ℕ → Type 0
Lacks word = Contains word 32 → ⊥

abbrev pub AllLack : List (List ℕ) → Type 0
AllLack [] = Unit {0}
AllLack (w ∷ ws) = Lacks w × AllLack ws

pub lacks_nil : Lacks []
lacks_nil (k, within, same) = omega arith

pub lacks_cons : (b : ℕ) (bs : List ℕ) → (b ≡ 32 → ⊥) → Lacks bs → Lacks (b ∷ bs)
lacks_cons b bs other lacks (zero, within, same) = other same
lacks_cons b bs other lacks (suc k, within, same) = lacks (k, omega arith, same)

-- a test of each byte
abbrev pub no_space : List ℕ → Bool
no_space [] = true
no_space (b ∷ bs) = if b == 32 then false else no_space bs

by_test : (b : ℕ) (bs : List ℕ) → (b ≡ 32) ⊎ (b ≢ 32) → (if b == 32 then false else no_space bs) ≡ true
    → (b ≢ 32) × (no_space bs ≡ true)
by_test b bs (inl same) e =
    let closed : (if b == 32 then false else no_space bs) ≡ false = grind (arith, nat_tests) in
    cc (sym closed ∙ e)
by_test b bs (inr other) e =
    let opened : (if b == 32 then false else no_space bs) ≡ no_space bs = grind (arith, nat_tests) in
    (other, sym opened ∙ e)

pub lacks_by_test : (bs : List ℕ) → no_space bs ≡ true → Lacks bs
lacks_by_test [] e = lacks_nil
lacks_by_test (b ∷ bs) e =
    let parts = by_test b bs (cases_eq b 32) e in
    lacks_cons b bs parts.0 (lacks_by_test bs parts.1)

lacks_joined : (xs ys : List ℕ) (x : ℕ) → Lacks xs → (x ≡ 32 → ⊥) → Lacks ys → Lacks (xs ++ x ∷ ys)
lacks_joined xs ys x lacks_xs other lacks_ys found =
    elim (Contains-append_cases xs (x ∷ ys) 32 found) [ inl left ↦ lacks_xs left | inr right ↦ lacks_cons x ys other lacks_ys right ]

pub number_lacks : (n : ℕ) → n < 2 ^ 64 → Lacks (decimal n)
number_lacks n fits = decimal_lacks n 32 fits (inl (omega arith))

pub signed_lacks : (n : ℤ) → IsWithinLimit n → Lacks (signed_decimal n)
signed_lacks (pos n) small = number_lacks n (omega arith)
signed_lacks (negsuc n) small = lacks_cons 45 (decimal (suc n)) (omega arith) (number_lacks (suc n) (omega arith))

pub moment_within : (n : ℤ) → IsMoment n → IsWithinLimit n
moment_within (pos n) m = omega (arith, ints, m.1)
moment_within (negsuc n) m = absurd (omega (arith, ints, m.0))

pub tempo_within : (n : ℤ) → pos 60_060 ≤ℤ n → n ≤ℤ pos 3_000_000 → IsWithinLimit n
tempo_within (pos n) low high = omega (arith, ints)
tempo_within (negsuc n) low high = absurd (omega (arith, ints))

pub quantum_within : (n : ℤ) → IsQuantum n → IsWithinLimit n
quantum_within (pos n) is = omega (arith, ints, is.1)
quantum_within (negsuc n) is = absurd (omega (arith, ints, is.0))

pub truth_lacks : (t : Bool) → Lacks (truth_text_of t)
unfolding truth_text_of
truth_lacks true = lacks_cons 49 [] (omega arith) lacks_nil
truth_lacks false = lacks_cons 48 [] (omega arith) lacks_nil

pub endpoint_lacks : (e : Endpoint) → IsEndpoint e → Lacks (endpoint_text_of e)
unfolding endpoint_text_of dotted
endpoint_lacks e range =
    lacks_joined _ _ 46 (number_lacks _ (omega (arith, range.0))) (omega arith)
    (lacks_joined _ _ 46 (number_lacks _ (omega arith)) (omega arith)
    (lacks_joined _ _ 46 (number_lacks _ (omega arith)) (omega arith)
    (lacks_joined _ _ 58 (number_lacks _ (omega arith)) (omega arith)
    (number_lacks e.port (omega (arith, range.1))))))

space_no_digit : is_hex_digit 32 ≡ true → ⊥
space_no_digit e = cc

pub hex_lacks : (hex bytes : List ℕ) → IsHexOf hex bytes → Lacks hex
hex_lacks hex [] is = subst Lacks (sym is) (lacks_cons 45 [] (omega arith) lacks_nil)
hex_lacks hex (b ∷ bytes) is = λ found.
    let ok = decode_of-ok hex (b ∷ bytes) is in
    let digit : is_hex_digit (slice_index hex found.0) ≡ true = ok.1 found.0 0 found.1 in
    space_no_digit (ap is_hex_digit (sym (at_default hex found.0 found.1 found.2)) ∙ digit)
  where
    at_default : (xs : List ℕ) (k : ℕ) → k < length xs → get_or xs k 32 ≡ 32 → slice_index xs k ≡ 32
    at_default xs k within same = get_or_default xs k 0 32 within ∙ same

-- ---- a line and its words

pub words_joined : (w : List ℕ) (ws : List (List ℕ)) → AllLack (w ∷ ws) → words_of (joined (w ∷ ws)) ≡ w ∷ ws
words_joined w [] lack = words_last w lack.0
words_joined w (v ∷ ws) lack =
    words_cut w (joined (v ∷ ws)) lack.0 ∙ ap (λ (rest : List (List ℕ)). w ∷ rest) (words_joined v ws lack.1)

joined_onto : (b : ℕ) (ws : List (List ℕ)) → (ws ≡ [] → ⊥) → joined (onto_first b ws) ≡ b ∷ joined ws
joined_onto b [] some = absurd (some refl)
joined_onto b (w ∷ []) some = refl
joined_onto b (w ∷ v ∷ ws) some = refl

joined_empty : (ws : List (List ℕ)) → (ws ≡ [] → ⊥) → joined ([] ∷ ws) ≡ 32 ∷ joined ws
joined_empty [] some = absurd (some refl)
joined_empty (w ∷ ws) some = refl

joined_step : (b : ℕ) (line : List ℕ) → joined (words_of line) ≡ line → (b ≡ 32) ⊎ (b ≢ 32)
    → joined (if b == 32 then [] ∷ words_of line else onto_first b (words_of line)) ≡ b ∷ line
joined_step b line back (inl same) =
    let opened : (if b == 32 then [] ∷ words_of line else onto_first b (words_of line)) ≡ [] ∷ words_of line = grind (arith, nat_tests) in
    ap joined opened ∙ joined_empty (words_of line) (words_some line) ∙ cc (same, back)
joined_step b line back (inr other) =
    let opened : (if b == 32 then [] ∷ words_of line else onto_first b (words_of line)) ≡ onto_first b (words_of line) = grind (arith, nat_tests) in
    ap joined opened ∙ joined_onto b (words_of line) (words_some line) ∙ ap (λ (xs : List ℕ). b ∷ xs) back

pub joined_words : (line : List ℕ) → joined (words_of line) ≡ line
unfolding words_of
joined_words [] = refl
joined_words (b ∷ line) = joined_step b line (joined_words line) (cases_eq b 32)

-- ---- the words of an event have no space

timeline_lacks : (tl : Option Timeline) → ForSome tl IsTidy → AllLack (timeline_words tl)
timeline_lacks None tidy = tt
timeline_lacks (Some tl) tidy =
    let is = tidy tl refl in
    (lacks_by_test (codes "t") refl, (signed_lacks tl.mpb (tempo_within tl.mpb is.fastest is.slowest), (signed_lacks tl.beat is.beat, (signed_lacks tl.time is.time, tt))))

start_lacks : (start : Option ClientStart) → ForSome start IsTidyStart → AllLack (start_words start)
start_lacks None tidy = tt
start_lacks (Some start) tidy =
    let is = tidy start refl in
    (lacks_by_test (codes "s") refl, (truth_lacks start.playing, (signed_lacks start.time is.time, (signed_lacks start.stamp is.stamp, tt))))

quantum_word_lacks : (quantum : Option ℤ) → ForSome quantum IsQuantum → AllLack (quantum_words quantum)
quantum_word_lacks None tidy = tt
quantum_word_lacks (Some quantum) tidy = (lacks_by_test (codes "q") refl, (signed_lacks quantum (quantum_within quantum (tidy quantum refl)), tt))

append_lacks : (vs ws : List (List ℕ)) → AllLack vs → AllLack ws → AllLack (vs ++ ws)
append_lacks [] ws lack_v lack_w = lack_w
append_lacks (v ∷ vs) ws lack_v lack_w = (lack_v.0, append_lacks vs ws lack_v.1 lack_w)

commit_lacks : (commit : Commit) → IsTidyCommit commit → AllLack (commit_words commit)
commit_lacks commit tidy =
    let later = append_lacks (start_words commit.start) (quantum_words commit.quantum) (start_lacks commit.start tidy.start) (quantum_word_lacks commit.quantum tidy.quantum) in
    (signed_lacks commit.at tidy.at, append_lacks (timeline_words commit.timeline) (start_words commit.start ++ quantum_words commit.quantum) (timeline_lacks commit.timeline tidy.timeline) later)

pub words_are : (hex : List ℕ) (e : EventValue) → event_words hex e ≡ kind_of e ∷ signed_decimal (moment_of e) ∷ details_of hex e
unfolding event_words
words_are hex (Rx gate from bytes now) = refl
words_are hex (Tick now) = refl
words_are hex (App commit now) = refl
words_are hex (Audio number commit now) = refl
words_are hex (End now) = refl

kind_lacks : (e : EventValue) → Lacks (kind_of e)
kind_lacks (Rx gate from bytes now) = lacks_by_test (codes "rx") refl
kind_lacks (Tick now) = lacks_by_test (codes "tick") refl
kind_lacks (App commit now) = lacks_by_test (codes "app") refl
kind_lacks (Audio number commit now) = lacks_by_test (codes "audio") refl
kind_lacks (End now) = lacks_by_test (codes "end") refl

-- with at most 2^64 gates
details_lack : (gates audio : ℕ) (hex : List ℕ) (e : EventValue) → gates ≤ 2 ^ 64 → IsEventKind gates audio e → IsHexIn hex e → AllLack (details_of hex e)
details_lack gates audio hex (Rx gate from bytes now) few kind is =
    (number_lacks gate.0 (omega (arith, kind.0)), (endpoint_lacks from kind.1, (hex_lacks hex bytes is, tt)))
details_lack gates audio hex (Tick now) few kind is = tt
details_lack gates audio hex (App commit now) few kind is = commit_lacks commit kind
details_lack gates audio hex (Audio number commit now) few kind is =
    (number_lacks number (omega (arith, kind.2)), commit_lacks commit kind.0)
details_lack gates audio hex (End now) few kind is = tt

-- the words of a line that says an event
pub line_words : (gates audio : ℕ) (line : List ℕ) (e : EventValue) → gates ≤ 2 ^ 64 → (says : IsEventLine gates audio line e)
    → words_of line ≡ kind_of e ∷ signed_decimal (moment_of e) ∷ details_of says.hex e
line_words gates audio line e few says =
    ap words_of (says.said ∙ ap joined (words_are says.hex e))
    ∙ words_joined (kind_of e) (signed_decimal (moment_of e) ∷ details_of says.hex e)
    (kind_lacks e, (signed_lacks (moment_of e) (moment_within (moment_of e) says.moment), details_lack gates audio says.hex e few says.kind says.hex_is))

-- a line of these words says the event
pub says_event : (gates audio : ℕ) (line hex : List ℕ) (e : EventValue) → IsMoment (moment_of e) → IsEventKind gates audio e → IsHexIn hex e
    → words_of line ≡ kind_of e ∷ signed_decimal (moment_of e) ∷ details_of hex e → IsEventLine gates audio line e
says_event gates audio line hex e moment kind is words = record {
  moment = moment;
  kind = kind;
  hex = hex;
  hex_is = is;
  said = sym (joined_words line) ∙ ap joined (words ∙ sym (words_are hex e));
}

-- ---- what the readers of a line say of its details

pub of_line : (gates audio : ℕ) (line kind : List ℕ) (now : ℤ) (words : List (List ℕ)) (e : EventValue) → gates ≤ 2 ^ 64
    → words_of line ≡ kind ∷ signed_decimal now ∷ words → IsMoment now → IsEventLine gates audio line e
    → SaysDetails gates audio kind now words e
of_line gates audio line kind now words e few is moment says =
    let same = sym is ∙ line_words gates audio line e few says in
    record {
      kind_is = cc same;
      moment_is = signed_decimal_injective (moment_of e) now (mag_less (moment_of e) (moment_within (moment_of e) says.moment)) (mag_less now (moment_within now moment)) (cc same);
      range = says.kind;
      hex = says.hex;
      hex_is = says.hex_is;
      words_are = cc same;
    }
  where
    mag_less : (n : ℤ) → IsWithinLimit n → mag n < 2 ^ 63
    mag_less (pos n) h = omega arith
    mag_less (negsuc n) h = omega arith

-- no moment stands behind the kind of an event
pub no_moment : (gates audio : ℕ) (line kind : List ℕ) (words : List (List ℕ)) (e : EventValue) → gates ≤ 2 ^ 64
    → words_of line ≡ kind ∷ words → ((n : ℤ) (rest : List (List ℕ)) → IsMoment n → words ≡ signed_decimal n ∷ rest → ⊥)
    → IsEventLine gates audio line e → ⊥
no_moment gates audio line kind words e few is none says =
    let same = sym is ∙ line_words gates audio line e few says in
    none (moment_of e) (details_of says.hex e) says.moment (cc same)

pub to_line : (gates audio : ℕ) (line kind : List ℕ) (now : ℤ) (words : List (List ℕ)) (e : EventValue)
    → words_of line ≡ kind ∷ signed_decimal now ∷ words → IsMoment now → SaysDetails gates audio kind now words e
    → IsEventLine gates audio line e
to_line gates audio line kind now words e is moment says =
    says_event gates audio line says.hex e (subst IsMoment (sym says.moment_is) moment) says.range says.hex_is
    (is ∙ cc (says.kind_is, says.moment_is, says.words_are))

pub some_line : (gates audio : ℕ) (line kind wanted : List ℕ) (now : ℤ) (words left : List (List ℕ)) (r : Option SaidEvent)
    → words_of line ≡ kind ∷ left → left ≡ signed_decimal now ∷ words → IsMoment now → kind ≡ wanted
    → IfSome r (λ said. SaysDetails gates audio wanted now words (said_value said))
    → IfSome r (λ said. IsEventLine gates audio line (said_value said))
some_line gates audio line kind wanted now words left (Some said) is rest moment same says =
    to_line gates audio line wanted now words (said_value said) (cc (is, rest, same)) moment says
some_line gates audio line kind wanted now words left None is rest moment same says = tt

pub none_line : (gates audio : ℕ) (line kind wanted : List ℕ) (now : ℤ) (words left : List (List ℕ)) (r : Option SaidEvent) → gates ≤ 2 ^ 64
    → words_of line ≡ kind ∷ left → left ≡ signed_decimal now ∷ words → IsMoment now → kind ≡ wanted
    → IfNone r ((e : EventValue) → SaysDetails gates audio wanted now words e → ⊥)
    → IfNone r ((e : EventValue) → IsEventLine gates audio line e → ⊥)
none_line gates audio line kind wanted now words left (Some said) few is rest moment same none = tt
none_line gates audio line kind wanted now words left None few is rest moment same none = λ e says.
    none e (of_line gates audio line wanted now words e few (cc (is, rest, same)) moment says)

-- ---- kinds

-- only an audio commit is behind its word
pub no_low_audio : (gates last number : ℕ) (now : ℤ) (words left : List (List ℕ)) (e : EventValue)
    → words ≡ decimal number ∷ left → number < 2 ^ 64 → number ≤ last
    → SaysDetails gates last (codes "audio") now words e → ⊥
no_low_audio gates last number now words left (Rx gate from bytes at) is fits low says = cc says.kind_is
no_low_audio gates last number now words left (Tick at) is fits low says = cc says.kind_is
no_low_audio gates last number now words left (App commit at) is fits low says = cc says.kind_is
no_low_audio gates last number now words left (Audio more commit at) is fits low says =
    let same = decimal_injective more number (omega (arith, says.range.2)) fits (cc (says.words_are, is)) in
    omega (arith, same, says.range.1)
no_low_audio gates last number now words left (End at) is fits low says = cc says.kind_is

-- words follow only the moments of three kinds
pub no_more_words : (gates audio : ℕ) (kind : List ℕ) (now : ℤ) (words : List (List ℕ)) (e : EventValue)
    → (kind ≡ codes "rx" → ⊥) → (kind ≡ codes "app" → ⊥) → (kind ≡ codes "audio" → ⊥) → (words ≡ [] → ⊥)
    → SaysDetails gates audio kind now words e → ⊥
no_more_words gates audio kind now words (Rx gate from bytes at) rx app sound some says = rx says.kind_is
no_more_words gates audio kind now words (Tick at) rx app sound some says = some says.words_are
no_more_words gates audio kind now words (App commit at) rx app sound some says = app says.kind_is
no_more_words gates audio kind now words (Audio number commit at) rx app sound some says = sound says.kind_is
no_more_words gates audio kind now words (End at) rx app sound some says = some says.words_are

-- there are five kinds
pub no_kind : (gates audio : ℕ) (kind : List ℕ) (now : ℤ) (words : List (List ℕ)) (e : EventValue)
    → (kind ≡ codes "rx" → ⊥) → (kind ≡ codes "app" → ⊥) → (kind ≡ codes "audio" → ⊥) → (kind ≡ codes "tick" → ⊥) → (kind ≡ codes "end" → ⊥)
    → SaysDetails gates audio kind now words e → ⊥
no_kind gates audio kind now words (Rx gate from bytes at) rx app sound tick last says = rx says.kind_is
no_kind gates audio kind now words (Tick at) rx app sound tick last says = tick says.kind_is
no_kind gates audio kind now words (App commit at) rx app sound tick last says = app says.kind_is
no_kind gates audio kind now words (Audio number commit at) rx app sound tick last says = sound says.kind_is
no_kind gates audio kind now words (End at) rx app sound tick last says = last says.kind_is

pub only_tick : (gates audio : ℕ) (kind : List ℕ) (now : ℤ) (words : List (List ℕ)) → kind ≡ codes "tick" → words ≡ []
    → SaysDetails gates audio kind now words (Tick now)
only_tick gates audio kind now words is none =
    record { kind_is = is; moment_is = refl; range = tt; hex = []; hex_is = tt; words_are = none }

pub only_end : (gates audio : ℕ) (kind : List ℕ) (now : ℤ) (words : List (List ℕ)) → kind ≡ codes "end" → words ≡ []
    → SaysDetails gates audio kind now words (End now)
only_end gates audio kind now words is none =
    record { kind_is = is; moment_is = refl; range = tt; hex = []; hex_is = tt; words_are = none }

-- a moment is what is stored of it
pub moment_stored : (n : ℤ) → IsMoment n → to_z w64 (of_z w64 n) ≡ n
moment_stored n m = stored n (2 ^ 55) m.0 m.1 (omega arith)

-- what is said for every number is said for one
pub some_at : {A : Type 0} (P : A → SaidEvent → Type 0) (a : A) (r : Option SaidEvent) → IfSome r (λ said. (x : A) → P x said) → IfSome r (P a)
some_at P a (Some said) h = h a
some_at P a None h = tt

pub none_at : {A : Type 0} (P : A → Type 0) (a : A) (r : Option SaidEvent) → IfNone r ((x : A) → P x) → IfNone r (P a)
none_at P a (Some said) h = tt
none_at P a None h = h a
