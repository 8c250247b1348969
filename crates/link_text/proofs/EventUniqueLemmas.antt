-- A line says one event at most.
use Rattle.std.proofs.Common.{◌≡◌, refl, sym, ◌∙◌, ap, subst, arith, ℤ, ℕ, ◌≤◌, ◌^◌, Bool, List, [], ◌∷◌, ◌++◌, codes, Option, Some, None, Ok}
use Rattle.std.specs.Fmt.{decimal, signed_decimal}
use Rattle.std.specs.List.{AllByRecursion}
use Rattle.std.specs.Option.{ForSome}
use Rattle.std.proofs.lemmas.Fmt.{decimal_injective, signed_decimal_injective}
use Rattle.hex.specs.Hex.{decode_of}
use Rattle.hex.proofs.HexLemmas.{decode_of-same, decode_of-ok}
use Rattle.lk_base.specs.Ranges.{IsQuantum, IsWithinLimit}
use Rattle.lk_base.specs.Timeline.{IsTidy}
use Rattle.lk_base.specs.declared.endpoint.Endpoint.{Endpoint}
use Rattle.lk_base.specs.declared.endpoint.Gate.{Gate}
use Rattle.lk_base.specs.declared.start.ClientStart.{ClientStart}
use Rattle.lk_base.specs.declared.timeline.Timeline.{Timeline}
use Rattle.client_state.specs.Commit.{IsTidyCommit, IsTidyStart}
use Rattle.client_state.specs.declared.commit.Commit.{Commit}
use Rattle.link_node.specs.Event.{EventValue, Rx, Tick, App, Audio, End, moment_of, audio_after}
use Rattle.link_lines.specs.Words.{truth_text_of, endpoint_text_of}
use Rattle.link_text.specs.EventDetails.{kind_of, details_of}
use Rattle.link_text.specs.Places.{audio_of, AreOfVersion, IsOfVersion}
use Rattle.link_script.specs.ReplayScript.{commit_words, timeline_words, start_words, quantum_words, IsHexOf, IsHexIn, IsEventKind, IsEventLine, AreEventLines, IsWithoutQuantum}
use Rattle.link_text.proofs.CommitLemmas.{no_s, no_t}
use Rattle.link_text.proofs.EventLemmas.{line_words, moment_within, quantum_within, tempo_within}
use Rattle.link_text.proofs.HeadLemmas.{endpoint_one, truth_one, mag_less, first_differs}

pub signed_one : (m n : ℤ) → IsWithinLimit m → IsWithinLimit n → signed_decimal m ≡ signed_decimal n → m ≡ n
signed_one m n small_m small_n same = signed_decimal_injective m n (mag_less m small_m) (mag_less n small_n) same

-- ---- commits

abbrev timeline_from : ℤ → ℤ → ℤ → Timeline
timeline_from mpb beat time = record { mpb = mpb; beat = beat; time = time }

timeline_same : (a b : Timeline) → a.mpb ≡ b.mpb → a.beat ≡ b.beat → a.time ≡ b.time → a ≡ b
timeline_same a b mpb beat time =
    ap (λ (z : ℤ). timeline_from z a.beat a.time) mpb ∙ ap (λ (z : ℤ). timeline_from b.mpb z a.time) beat ∙ ap (λ (z : ℤ). timeline_from b.mpb b.beat z) time

abbrev start_from : Bool → ℤ → ℤ → ClientStart
start_from playing time stamp = record { playing = playing; time = time; stamp = stamp }

start_same : (a b : ClientStart) → a.playing ≡ b.playing → a.time ≡ b.time → a.stamp ≡ b.stamp → a ≡ b
start_same a b playing time stamp =
    ap (λ (t : Bool). start_from t a.time a.stamp) playing ∙ ap (λ (z : ℤ). start_from b.playing z a.stamp) time ∙ ap (λ (z : ℤ). start_from b.playing b.time z) stamp

timeline_one : (a b : Timeline) (xs ys : List (List ℕ)) → IsTidy a → IsTidy b → timeline_words (Some a) ++ xs ≡ timeline_words (Some b) ++ ys → (a ≡ b) × (xs ≡ ys)
timeline_one a b xs ys tidy_a tidy_b same =
    let mpbs : signed_decimal a.mpb ≡ signed_decimal b.mpb = cc same in
    let beats : signed_decimal a.beat ≡ signed_decimal b.beat = cc same in
    let times : signed_decimal a.time ≡ signed_decimal b.time = cc same in (
      timeline_same a b (signed_one a.mpb b.mpb (tempo_within a.mpb tidy_a.fastest tidy_a.slowest) (tempo_within b.mpb tidy_b.fastest tidy_b.slowest) mpbs)
          (signed_one a.beat b.beat tidy_a.beat tidy_b.beat beats) (signed_one a.time b.time tidy_a.time tidy_b.time times),
      cc same,
    )

start_one : (a b : ClientStart) (xs ys : List (List ℕ)) → IsTidyStart a → IsTidyStart b → start_words (Some a) ++ xs ≡ start_words (Some b) ++ ys → (a ≡ b) × (xs ≡ ys)
start_one a b xs ys tidy_a tidy_b same =
    let plays : truth_text_of a.playing ≡ truth_text_of b.playing = cc same in
    let times : signed_decimal a.time ≡ signed_decimal b.time = cc same in
    let stamps : signed_decimal a.stamp ≡ signed_decimal b.stamp = cc same in (
      start_same a b (truth_one a.playing b.playing plays) (signed_one a.time b.time tidy_a.time tidy_b.time times)
          (signed_one a.stamp b.stamp tidy_a.stamp tidy_b.stamp stamps),
      cc same,
    )

quantum_word_one : (p q : Option ℤ) → ForSome p IsQuantum → ForSome q IsQuantum → quantum_words p ≡ quantum_words q → p ≡ q
quantum_word_one None None tidy_p tidy_q same = refl
quantum_word_one None (Some q) tidy_p tidy_q same = cc
quantum_word_one (Some p) None tidy_p tidy_q same = cc
quantum_word_one (Some p) (Some q) tidy_p tidy_q same =
    ap (λ (z : ℤ). Some z) (signed_one p q (quantum_within p (tidy_p p refl)) (quantum_within q (tidy_q q refl)) (cc same))

-- a start and a quantum
later_one : (s t : Option ClientStart) (p q : Option ℤ) → ForSome s IsTidyStart → ForSome t IsTidyStart → ForSome p IsQuantum → ForSome q IsQuantum
    → start_words s ++ quantum_words p ≡ start_words t ++ quantum_words q → (s ≡ t) × (p ≡ q)
later_one None None p q tidy_s tidy_t tidy_p tidy_q same = (refl, quantum_word_one p q tidy_p tidy_q same)
later_one None (Some t) p q tidy_s tidy_t tidy_p tidy_q same = absurd (no_s p _ same)
later_one (Some s) None p q tidy_s tidy_t tidy_p tidy_q same = absurd (no_s q _ (sym same))
later_one (Some s) (Some t) p q tidy_s tidy_t tidy_p tidy_q same =
    let one = start_one s t (quantum_words p) (quantum_words q) (tidy_s s refl) (tidy_t t refl) same in
    (ap (λ (start : ClientStart). Some start) one.0, quantum_word_one p q tidy_p tidy_q one.1)

-- all parts
parts_one : (a b : Option Timeline) (s t : Option ClientStart) (p q : Option ℤ)
    → ForSome a IsTidy → ForSome b IsTidy → ForSome s IsTidyStart → ForSome t IsTidyStart → ForSome p IsQuantum → ForSome q IsQuantum
    → timeline_words a ++ (start_words s ++ quantum_words p) ≡ timeline_words b ++ (start_words t ++ quantum_words q) → (a ≡ b) × (s ≡ t) × (p ≡ q)
parts_one None None s t p q tidy_a tidy_b tidy_s tidy_t tidy_p tidy_q same =
    let later = later_one s t p q tidy_s tidy_t tidy_p tidy_q same in
    (refl, later.0, later.1)
parts_one None (Some b) s t p q tidy_a tidy_b tidy_s tidy_t tidy_p tidy_q same = absurd (no_t s p _ same)
parts_one (Some a) None s t p q tidy_a tidy_b tidy_s tidy_t tidy_p tidy_q same = absurd (no_t t q _ (sym same))
parts_one (Some a) (Some b) s t p q tidy_a tidy_b tidy_s tidy_t tidy_p tidy_q same =
    let one = timeline_one a b (start_words s ++ quantum_words p) (start_words t ++ quantum_words q) (tidy_a a refl) (tidy_b b refl) same in
    let later = later_one s t p q tidy_s tidy_t tidy_p tidy_q one.1 in
    (ap (λ (tl : Timeline). Some tl) one.0, later.0, later.1)

abbrev commit_from : Option Timeline → Option ClientStart → Option ℤ → ℤ → Commit
commit_from timeline start quantum at = record { timeline = timeline; start = start; quantum = quantum; at = at }

pub commit_one : (a b : Commit) → IsTidyCommit a → IsTidyCommit b → commit_words a ≡ commit_words b → a ≡ b
commit_one a b tidy_a tidy_b same =
    let ats : signed_decimal a.at ≡ signed_decimal b.at = cc same in
    let rests : timeline_words a.timeline ++ (start_words a.start ++ quantum_words a.quantum) ≡ timeline_words b.timeline ++ (start_words b.start ++ quantum_words b.quantum)
    = cc same in
    let parts = parts_one a.timeline b.timeline a.start b.start a.quantum b.quantum tidy_a.timeline tidy_b.timeline tidy_a.start tidy_b.start tidy_a.quantum tidy_b.quantum rests in
    ap (λ (tl : Option Timeline). commit_from tl a.start a.quantum a.at) parts.0
    ∙ ap (λ (s : Option ClientStart). commit_from b.timeline s a.quantum a.at) parts.1
    ∙ ap (λ (q : Option ℤ). commit_from b.timeline b.start q a.at) parts.2
    ∙ ap (λ (z : ℤ). commit_from b.timeline b.start b.quantum z) (signed_one a.at b.at tidy_a.at tidy_b.at ats)

-- ---- bytes

no_hyphen : (b : ℕ) (bytes : List ℕ) → decode_of (45 ∷ []) ≡ Ok (b ∷ bytes) → ⊥
no_hyphen b bytes same =
    let ok = decode_of-ok (45 ∷ []) (b ∷ bytes) same in
    omega (arith, ok.2)

pub bytes_one : (hex word xs ys : List ℕ) → IsHexOf hex xs → IsHexOf word ys → hex ≡ word → xs ≡ ys
bytes_one hex word [] [] is_x is_y same = refl
bytes_one hex word [] (y ∷ ys) is_x is_y same = absurd (no_hyphen y ys (ap decode_of (sym is_x ∙ same) ∙ is_y))
bytes_one hex word (x ∷ xs) [] is_x is_y same = absurd (no_hyphen x xs (ap decode_of (sym is_y ∙ sym same) ∙ is_x))
bytes_one hex word (x ∷ xs) (y ∷ ys) is_x is_y same = decode_of-same hex (x ∷ xs) (y ∷ ys) is_x (ap decode_of same ∙ is_y)

-- ---- events

abbrev gate_from : ℕ → Gate
gate_from n = record { 0 = n }

app_is_no_end : codes "app" ≡ codes "end" → ⊥
app_is_no_end same = first_differs (codes "app") (codes "end") 97 101 refl refl (omega arith) same

details_one : (g h a b : ℕ) (hex word : List ℕ) (e f : EventValue) → g ≤ 2 ^ 64 → h ≤ 2 ^ 64 → moment_of e ≡ moment_of f → IsEventKind g a e → IsEventKind h b f
    → IsHexIn hex e → IsHexIn word f → kind_of e ≡ kind_of f → details_of hex e ≡ details_of word f → e ≡ f
details_one g h a b hex word (Rx gate from bytes now) (Rx gate' from' bytes' now') few_g few_h moment range_e range_f is_e is_f kinds same =
    let gates : decimal gate.0 ≡ decimal gate'.0 = cc same in
    let froms : endpoint_text_of from ≡ endpoint_text_of from' = cc same in
    let words : hex ≡ word = cc same in
    let gate_is = decimal_injective gate.0 gate'.0 (omega (arith, range_e.0)) (omega (arith, range_f.0)) gates in
    let from_is = endpoint_one from from' range_e.1 range_f.1 froms in
    let bytes_are = bytes_one hex word bytes bytes' is_e is_f words in
    ap (λ (n : ℕ). Rx (gate_from n) from bytes now) gate_is ∙ ap (λ (x : Endpoint). Rx gate' x bytes now) from_is
    ∙ ap (λ (xs : List ℕ). Rx gate' from' xs now) bytes_are ∙ ap (λ (z : ℤ). Rx gate' from' bytes' z) moment
details_one g h a b hex word (Tick now) (Tick now') few_g few_h moment range_e range_f is_e is_f kinds same = ap (λ (z : ℤ). Tick z) moment
details_one g h a b hex word (App commit now) (App commit' now') few_g few_h moment range_e range_f is_e is_f kinds same =
    ap (λ (x : Commit). App x now) (commit_one commit commit' range_e range_f same) ∙ ap (λ (z : ℤ). App commit' z) moment
details_one g h a b hex word (Audio number commit now) (Audio number' commit' now') few_g few_h moment range_e range_f is_e is_f kinds same =
    let numbers : decimal number ≡ decimal number' = cc same in
    let commits : commit_words commit ≡ commit_words commit' = cc same in
    ap (λ (n : ℕ). Audio n commit now) (decimal_injective number number' (omega (arith, range_e.2)) (omega (arith, range_f.2)) numbers)
    ∙ ap (λ (x : Commit). Audio number' x now) (commit_one commit commit' range_e.0 range_f.0 commits) ∙ ap (λ (z : ℤ). Audio number' commit' z) moment
details_one g h a b hex word (End now) (End now') few_g few_h moment range_e range_f is_e is_f kinds same = ap (λ (z : ℤ). End z) moment
details_one g h a b hex word (Rx gate from bytes now) (Tick now') few_g few_h moment range_e range_f is_e is_f kinds same = cc kinds
details_one g h a b hex word (Rx gate from bytes now) (App commit' now') few_g few_h moment range_e range_f is_e is_f kinds same = cc kinds
details_one g h a b hex word (Rx gate from bytes now) (Audio number' commit' now') few_g few_h moment range_e range_f is_e is_f kinds same = cc kinds
details_one g h a b hex word (Rx gate from bytes now) (End now') few_g few_h moment range_e range_f is_e is_f kinds same = cc kinds
details_one g h a b hex word (Tick now) (Rx gate' from' bytes' now') few_g few_h moment range_e range_f is_e is_f kinds same = cc kinds
details_one g h a b hex word (Tick now) (App commit' now') few_g few_h moment range_e range_f is_e is_f kinds same = cc kinds
details_one g h a b hex word (Tick now) (Audio number' commit' now') few_g few_h moment range_e range_f is_e is_f kinds same = cc kinds
details_one g h a b hex word (Tick now) (End now') few_g few_h moment range_e range_f is_e is_f kinds same = cc kinds
details_one g h a b hex word (App commit now) (Rx gate' from' bytes' now') few_g few_h moment range_e range_f is_e is_f kinds same = cc kinds
details_one g h a b hex word (App commit now) (Tick now') few_g few_h moment range_e range_f is_e is_f kinds same = cc kinds
details_one g h a b hex word (App commit now) (Audio number' commit' now') few_g few_h moment range_e range_f is_e is_f kinds same = cc kinds
details_one g h a b hex word (App commit now) (End now') few_g few_h moment range_e range_f is_e is_f kinds same = absurd (app_is_no_end kinds)
details_one g h a b hex word (Audio number commit now) (Rx gate' from' bytes' now') few_g few_h moment range_e range_f is_e is_f kinds same = cc kinds
details_one g h a b hex word (Audio number commit now) (Tick now') few_g few_h moment range_e range_f is_e is_f kinds same = cc kinds
details_one g h a b hex word (Audio number commit now) (App commit' now') few_g few_h moment range_e range_f is_e is_f kinds same = cc kinds
details_one g h a b hex word (Audio number commit now) (End now') few_g few_h moment range_e range_f is_e is_f kinds same = cc kinds
details_one g h a b hex word (End now) (Rx gate' from' bytes' now') few_g few_h moment range_e range_f is_e is_f kinds same = cc kinds
details_one g h a b hex word (End now) (Tick now') few_g few_h moment range_e range_f is_e is_f kinds same = cc kinds
details_one g h a b hex word (End now) (App commit' now') few_g few_h moment range_e range_f is_e is_f kinds same = absurd (app_is_no_end (sym kinds))
details_one g h a b hex word (End now) (Audio number' commit' now') few_g few_h moment range_e range_f is_e is_f kinds same = cc kinds

pub event_one : (g h a b : ℕ) (line : List ℕ) (e f : EventValue) → g ≤ 2 ^ 64 → h ≤ 2 ^ 64 → IsEventLine g a line e → IsEventLine h b line f → e ≡ f
event_one g h a b line e f few_g few_h says_e says_f =
    let words = sym (line_words g a line e few_g says_e) ∙ line_words h b line f few_h says_f in
    let kinds : kind_of e ≡ kind_of f = cc words in
    let moments : signed_decimal (moment_of e) ≡ signed_decimal (moment_of f) = cc words in
    let details : details_of says_e.hex e ≡ details_of says_f.hex f = cc words in
    details_one g h a b says_e.hex says_f.hex e f few_g few_h
    (signed_one (moment_of e) (moment_of f) (moment_within (moment_of e) says_e.moment) (moment_within (moment_of f) says_f.moment) moments)
    says_e.kind says_f.kind says_e.hex_is says_f.hex_is kinds details

-- lines of events say one list of them
pub events_one : (g h a b : ℕ) (lines : List (List ℕ)) (es fs : List EventValue) → g ≤ 2 ^ 64 → h ≤ 2 ^ 64
    → AreEventLines g a lines es → AreEventLines h b lines fs → es ≡ fs
events_one g h a b [] [] [] few_g few_h are_e are_f = refl
events_one g h a b [] (e ∷ es) fs few_g few_h are_e are_f = absurd are_e
events_one g h a b [] [] (f ∷ fs) few_g few_h are_e are_f = absurd are_f
events_one g h a b (line ∷ lines) [] fs few_g few_h are_e are_f = absurd are_e
events_one g h a b (line ∷ lines) (e ∷ es) [] few_g few_h are_e are_f = absurd are_f
events_one g h a b (line ∷ lines) (e ∷ es) (f ∷ fs) few_g few_h are_e are_f =
    let one = event_one g h a b line e f few_g few_h are_e.0 are_f.0 in
    let rest = events_one g h (audio_after a e) (audio_after b f) lines es fs few_g few_h are_e.1 are_f.1 in
    cc (one, rest)

-- a line that says no event of a version behind some isn't among lines of its events
pub event_among : (version gates audio : ℕ) (said : List (List ℕ)) (es : List EventValue) (line : List ℕ) (more : List (List ℕ)) (fs : List EventValue)
    → gates ≤ 2 ^ 64 → AreEventLines gates audio said es → AreEventLines gates audio (said ++ line ∷ more) fs → AreOfVersion version fs
    → ((e : EventValue) → IsEventLine gates (audio_of audio es) line e → IsOfVersion version e → ⊥) → ⊥
event_among version gates audio [] [] line more [] few are all plain none = all
event_among version gates audio [] [] line more (f ∷ fs) few are all plain none = none f all.0 (λ one. (plain one).0)
event_among version gates audio [] (e ∷ es) line more fs few are all plain none = are
event_among version gates audio (l ∷ said) [] line more fs few are all plain none = are
event_among version gates audio (l ∷ said) (e ∷ es) line more [] few are all plain none = all
event_among version gates audio (l ∷ said) (e ∷ es) line more (f ∷ fs) few are all plain none =
    let one = event_one gates gates audio audio l f e few few all.0 are.0 in
    event_among version gates (audio_after audio e) said es line more fs few are.1
    (subst (λ (x : EventValue). AreEventLines gates (audio_after audio x) (said ++ line ∷ more) fs) one all.1) (λ first. (plain first).1) none

-- what a line says is no event of version 1 where it has a quantum
pub no_plain : (version gates audio : ℕ) (line : List ℕ) (e : EventValue) → gates ≤ 2 ^ 64 → version ≡ 1 → IsEventLine gates audio line e
    → (IsWithoutQuantum e → ⊥) → (f : EventValue) → IsEventLine gates audio line f → IsOfVersion version f → ⊥
no_plain version gates audio line e few one says has f other plain =
    has (subst IsWithoutQuantum (event_one gates gates audio audio line f e few few other says) (plain one))

-- one line of an event more
pub events_push : (gates audio : ℕ) (lines : List (List ℕ)) (es : List EventValue) (line : List ℕ) (e : EventValue)
    → AreEventLines gates audio lines es → IsEventLine gates (audio_of audio es) line e → AreEventLines gates audio (lines ++ line ∷ []) (es ++ e ∷ [])
events_push gates audio [] [] line e are says = (says, tt)
events_push gates audio [] (f ∷ es) line e are says = absurd are
events_push gates audio (l ∷ lines) [] line e are says = absurd are
events_push gates audio (l ∷ lines) (f ∷ es) line e are says = (are.0, events_push gates (audio_after audio f) lines es line e are.1 says)

pub plain_push : (version : ℕ) (es : List EventValue) (e : EventValue) → AreOfVersion version es → IsOfVersion version e → AreOfVersion version (es ++ e ∷ [])
plain_push version es e are is = λ one. push es (are one) (is one)
  where
    push : (es : List EventValue) → AllByRecursion IsWithoutQuantum es → IsWithoutQuantum e → AllByRecursion IsWithoutQuantum (es ++ e ∷ [])
    push [] are is = (is, tt)
    push (f ∷ es) are is = (are.0, push es are.1 is)

pub audio_push : (audio : ℕ) (es : List EventValue) (e : EventValue) → audio_of audio (es ++ e ∷ []) ≡ audio_after (audio_of audio es) e
audio_push audio [] e = refl
audio_push audio (f ∷ es) e = audio_push (audio_after audio f) es e
