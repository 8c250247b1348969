-- The text of a live run's report, piece by piece.
use Rattle.std.proofs.Common.{◌≡◌, ◌≤◌, ◌<◌, ◌+◌, ◌-◌, ◌++◌, ◌∷◌, [], zero, suc, length, take, map, get_or, codes, List, ℕ, ℤ, Bool, true, false, Option, Some, Result, Ok, Err, refl, ap, sym, ◌∙◌, subst, arith, append_assoc}
use Rattle.std.specs.Prelude.{slice_get}
use Rattle.std.specs.List.{flat_map}
use Rattle.std.specs.Fmt.{decimal}
use Rattle.std.specs.Result.{OnOk, OnErr}
use Rattle.std.proofs.lemmas.List.{take_all, append-nil}
use Rattle.std.proofs.lemmas.Option.{same_Some, slice_get-get_or, slice_get_within}
use Rattle.client_state.specs.declared.state.State.{State}
use Rattle.link_node.specs.Config.{ConfigValue, config_value, gate_value}
use Rattle.link_node.specs.declared.config.Config.{Config}
use Rattle.link_node.specs.declared.config.GateSetup.{GateSetup}
use Rattle.link_node.specs.Event.{EventValue}
use Rattle.link_script.specs.ReplayScript.{ended, event_line, gate_lines, head_lines, written_script_of}
use Rattle.link_text.specs.ReplayText.{state_line_of}
use Rattle.link_commands.specs.Outlet.{HandsOver, HandsPart}
use Rattle.link_live.specs.Report.{ReportValue}
use Rattle.link_live_command.specs.ReportText.{last_state_text_of, live_line_of, live_text_of}
use Rattle.link_commands.proofs.OutletLemmas.{hands_both, part_after, part_of_more}
use Rattle.link_commands.proofs.ReplayLemmas.{HasHandedEach, each_next, each_part}

-- ---- how many there are in all

-- how many there are in the first n
abbrev pub count_of : {A B C : Type 0} (g : B → List C) (f : A → B) (xs : List A) (n : ℕ) → ℕ
count_of g f xs n = length (flat_map g (map f (take n xs)))

-- all lines of a head of version 2
pub head_lines_are : (config : Config) (gates : List GateSetup) (now : ℤ) (n : ℕ) → gates ≡ config.gates.items → length gates ≤ n
    → 4 + count_of gate_lines gate_value gates n ≡ length (head_lines 2 (config_value config) now)
unfolding head_lines
head_lines_are config gates now n are all =
    let all_of_them : take n gates ≡ config.gates.items = take_all n gates all ∙ are in
    omega (arith, ap (λ (gs : List GateSetup). length (flat_map gate_lines (map gate_value gs))) all_of_them)

-- ---- the first line

-- eight amounts behind what begins it
abbrev pub amounts : List ℕ → ℕ → ℕ → ℕ → ℕ → ℕ → ℕ → ℕ → ℕ → List ℕ
amounts front a b c d e f g h =
    ((((((((front ++ 32 ∷ decimal a) ++ 32 ∷ decimal b) ++ 32 ∷ decimal c) ++ 32 ∷ decimal d) ++ 32 ∷ decimal e) ++ 32 ∷ decimal f) ++ 32 ∷ decimal g) ++ 32 ∷ decimal h) ++ 10 ∷ []

amounts_are : (report : ReportValue)
    → amounts (codes "# live") (length report.events) (length report.published) (length report.reads) (length report.captures) (length report.app_commits) (length report.audio_commits) (length report.plays) (length (flat_map (λ clicks. clicks) report.plays))
    ≡ live_line_of report
unfolding live_line_of
amounts_are report = simp append_assoc

pub live_line_is : (report : ReportValue) (front line : List ℕ) (a b c d e f g h : ℕ)
    → line ≡ amounts front a b c d e f g h → front ≡ codes "# live"
    → a ≡ length report.events → b ≡ length report.published → c ≡ length report.reads → d ≡ length report.captures
    → e ≡ length report.app_commits → f ≡ length report.audio_commits → g ≡ length report.plays
    → h ≡ length (flat_map (λ clicks. clicks) report.plays)
    → line ≡ live_line_of report
live_line_is report front line a b c d e f g h is begins a_is b_is c_is d_is e_is f_is g_is h_is =
    is ∙ rw (begins, a_is, b_is, c_is, d_is, e_is, f_is, g_is, h_is) (amounts_are report)

-- ---- what a call answered

pub where_ok : {T E P Q : Type 0} (result : Result T E) → (P → Q) → OnOk result P → OnOk result Q
where_ok (Ok value) leads holds = leads holds
where_ok (Err failure) leads holds = tt

pub where_err : {T E P Q : Type 0} (result : Result T E) → (P → Q) → OnErr result P → OnErr result Q
where_err (Ok value) leads holds = tt
where_err (Err failure) leads holds = leads holds

-- ---- the state published last

pub last_text : (n i : ℕ) (states : List State) (last : State) → slice_get states i ≡ Some last → i + 1 ≡ length states
    → codes "# " ++ state_line_of 2 (n + i) last ≡ last_state_text_of n states
last_text n i [] last e len = absurd (omega (arith, len))
last_text n zero (state ∷ []) last e len =
    let number : n + 0 ≡ n = omega arith in
    ap (λ (k : ℕ). codes "# " ++ state_line_of 2 k last) number ∙ ap (λ (s : State). codes "# " ++ state_line_of 2 n s) (sym (same_Some _ _ e))
last_text n (suc i) (state ∷ []) last e len = absurd (omega (arith, len))
last_text n zero (state ∷ next ∷ states) last e len = absurd (omega (arith, len))
last_text n (suc i) (state ∷ next ∷ states) last e len =
    let number : n + suc i ≡ n + 1 + i = omega arith in
    ap (λ (k : ℕ). codes "# " ++ state_line_of 2 k last) number ∙ last_text (n + 1) i (next ∷ states) last e (omega (arith, len))

-- the same where the last one is known as such
last_text_at : (states : List State) (number : ℕ) (last : State) → Some last ≡ slice_get states (length states - 1) → number ≡ length states - 1
    → codes "# " ++ state_line_of 2 number last ≡ last_state_text_of 0 states
last_text_at states number last is at =
    let within : length states - 1 < length states = slice_get_within states (length states - 1) last (sym is) in
    let same : number ≡ 0 + number = omega arith in
    ap (λ (k : ℕ). codes "# " ++ state_line_of 2 k last) same
    ∙ last_text 0 number states last (ap (slice_get states) at ∙ sym is) (omega (arith, within, at))

-- all of it is handed over
pub last_over : (states : List State) (number : ℕ) (last : State) (before told after : Option (List ℕ)) (kept kept' kept'' : List ℕ)
    → Some last ≡ slice_get states (length states - 1) → number ≡ length states - 1
    → HandsOver (codes "# ") before kept told kept' → HandsOver (state_line_of 2 number last) told kept' after kept''
    → HandsOver (last_state_text_of 0 states) before kept after kept''
last_over states number last before told after kept kept' kept'' is at one two =
    subst (λ (text : List ℕ). HandsOver text before kept after kept'') (last_text_at states number last is at)
    (hands_both before told after kept kept' kept'' _ _ one two)

-- the sink failed at the mark, or at the state
pub last_part_mark : (states : List State) (last : State) (before after : Option (List ℕ)) (kept : List ℕ)
    → Some last ≡ slice_get states (length states - 1) → HandsPart (codes "# ") before kept after
    → HandsPart (last_state_text_of 0 states) before kept after
last_part_mark states last before after kept is part =
    subst (λ (text : List ℕ). HandsPart text before kept after) (last_text_at states (length states - 1) last is refl)
    (part_of_more before after kept (codes "# ") (state_line_of 2 (length states - 1) last) part)

pub last_part_state : (states : List State) (number : ℕ) (last : State) (before told after : Option (List ℕ)) (kept kept' : List ℕ)
    → Some last ≡ slice_get states (length states - 1) → number ≡ length states - 1
    → HandsOver (codes "# ") before kept told kept' → HandsPart (state_line_of 2 number last) told kept' after
    → HandsPart (last_state_text_of 0 states) before kept after
last_part_state states number last before told after kept kept' is at one part =
    subst (λ (text : List ℕ). HandsPart text before kept after) (last_text_at states number last is at)
    (part_after before told after kept kept' _ _ one part)

-- ---- the head's lines

-- what was put is the line at the place
line_put : (lines : List (List ℕ)) (k : ℕ) (bytes : List ℕ) (P : Type 0) → k < length lines
    → ((l : List ℕ) → slice_get lines k ≡ Some l → P × (bytes ≡ ended l)) → bytes ≡ ended (get_or lines k [])
line_put lines k bytes P within put = (put (get_or lines k []) (slice_get-get_or lines k [] within)).1

same_line : (lines : List (List ℕ)) (k : ℕ) → k < length lines → get_or lines k [] ≡ get_or lines k (get_or lines k [])
same_line lines k within =
    same_Some _ _ (sym (slice_get-get_or lines k [] within) ∙ slice_get-get_or lines k (get_or lines k []) within)

-- one line more is handed over
pub head_next : (lines : List (List ℕ)) (k : ℕ) (bytes handed : List ℕ) (P : Type 0) (before now after : Option (List ℕ)) (kept kept' kept'' : List ℕ)
    → k < length lines → ((l : List ℕ) → slice_get lines k ≡ Some l → P × (bytes ≡ ended l)) → handed ≡ bytes
    → HasHandedEach ended lines k before kept now kept' → HandsOver handed now kept' after kept''
    → HasHandedEach ended lines (k + 1) before kept after kept''
head_next lines k bytes handed P before now after kept kept' kept'' within put is has over =
    each_next ended lines k (get_or lines k []) before kept now kept' after kept'' within (same_line lines k within) has
    (subst (λ (text : List ℕ). HandsOver text now kept' after kept'') (is ∙ line_put lines k bytes P within put) over)

-- the sink failed at that line
pub head_part : (lines : List (List ℕ)) (k : ℕ) (bytes handed : List ℕ) (P : Type 0) (before now after : Option (List ℕ)) (kept kept' : List ℕ)
    → k < length lines → ((l : List ℕ) → slice_get lines k ≡ Some l → P × (bytes ≡ ended l)) → handed ≡ bytes
    → HasHandedEach ended lines k before kept now kept' → HandsPart handed now kept' after
    → HandsPart (flat_map ended lines) before kept after
head_part lines k bytes handed P before now after kept kept' within put is has part =
    each_part ended lines k (get_or lines k []) before kept now kept' after within (same_line lines k within) has
    (subst (λ (text : List ℕ). HandsPart text now kept' after) (is ∙ line_put lines k bytes P within put) part)

-- ---- the record

pub record_over : (config : ConfigValue) (now : ℤ) (es : List EventValue) (before told after : Option (List ℕ)) (kept kept' kept'' : List ℕ)
    → HandsOver (flat_map ended (head_lines 2 config now)) before kept told kept'
    → HandsOver (flat_map (λ e. ended (event_line e)) es) told kept' after kept''
    → HandsOver (written_script_of config now es) before kept after kept''
unfolding written_script_of
record_over config now es before told after kept kept' kept'' one two = hands_both before told after kept kept' kept'' _ _ one two

pub record_part_head : (config : ConfigValue) (now : ℤ) (es : List EventValue) (before after : Option (List ℕ)) (kept : List ℕ)
    → HandsPart (flat_map ended (head_lines 2 config now)) before kept after
    → HandsPart (written_script_of config now es) before kept after
unfolding written_script_of
record_part_head config now es before after kept part = part_of_more before after kept _ _ part

pub record_part_events : (config : ConfigValue) (now : ℤ) (es : List EventValue) (before told after : Option (List ℕ)) (kept kept' : List ℕ)
    → HandsOver (flat_map ended (head_lines 2 config now)) before kept told kept'
    → HandsPart (flat_map (λ e. ended (event_line e)) es) told kept' after
    → HandsPart (written_script_of config now es) before kept after
unfolding written_script_of
record_part_events config now es before told after kept kept' one part = part_after before told after kept kept' _ _ one part

-- ---- the whole report

pub live_over : (report : ReportValue) (before told after : Option (List ℕ)) (kept kept' kept'' : List ℕ)
    → HandsOver (live_line_of report) before kept told kept' → HandsOver (last_state_text_of 0 report.published) told kept' after kept''
    → HandsOver (live_text_of report false) before kept after kept''
unfolding live_text_of
live_over report before told after kept kept' kept'' one two =
    subst (λ (text : List ℕ). HandsOver text before kept after kept'') (sym (append-nil (live_line_of report ++ last_state_text_of 0 report.published)))
    (hands_both before told after kept kept' kept'' _ _ one two)

pub recorded_over : (report : ReportValue) (before told then_ after : Option (List ℕ)) (kept kept' kept'' last : List ℕ)
    → HandsOver (live_line_of report) before kept told kept' → HandsOver (last_state_text_of 0 report.published) told kept' then_ kept''
    → HandsOver (written_script_of report.config report.now report.events) then_ kept'' after last
    → HandsOver (live_text_of report true) before kept after last
unfolding live_text_of
recorded_over report before told then_ after kept kept' kept'' last one two three =
    hands_both before then_ after kept kept'' last _ _ (hands_both before told then_ kept kept' kept'' _ _ one two) three

-- the sink failed at the first line, at the state, or at the record
pub live_part_counts : (report : ReportValue) (recorded : Bool) (before after : Option (List ℕ)) (kept : List ℕ)
    → HandsPart (live_line_of report) before kept after → HandsPart (live_text_of report recorded) before kept after
unfolding live_text_of
live_part_counts report recorded before after kept part =
    part_of_more before after kept _ _ (part_of_more before after kept (live_line_of report) (last_state_text_of 0 report.published) part)

pub live_part_state : (report : ReportValue) (recorded : Bool) (before told after : Option (List ℕ)) (kept kept' : List ℕ)
    → HandsOver (live_line_of report) before kept told kept' → HandsPart (last_state_text_of 0 report.published) told kept' after
    → HandsPart (live_text_of report recorded) before kept after
unfolding live_text_of
live_part_state report recorded before told after kept kept' one part =
    part_of_more before after kept _ _ (part_after before told after kept kept' (live_line_of report) (last_state_text_of 0 report.published) one part)

pub live_part_record : (report : ReportValue) (before told then_ after : Option (List ℕ)) (kept kept' kept'' : List ℕ)
    → HandsOver (live_line_of report) before kept told kept' → HandsOver (last_state_text_of 0 report.published) told kept' then_ kept''
    → HandsPart (written_script_of report.config report.now report.events) then_ kept'' after
    → HandsPart (live_text_of report true) before kept after
unfolding live_text_of
live_part_record report before told then_ after kept kept' kept'' one two part =
    part_after before then_ after kept kept'' _ _ (hands_both before told then_ kept kept' kept'' _ _ one two) part
