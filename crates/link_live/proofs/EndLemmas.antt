-- What the last turn adds to a live run.
use Rattle.std.proofs.Common.{◌≡◌, ℕ, ℤ, length-append, ◌<◌, ◌≤ℤ◌, ◌||◌, Bool, true, false, if◌then◌else◌, List, [], ◌∷◌, ◌++◌, length, nat_lt, refl, sym, ap, subst, ◌∙◌, append-nil, true≢false, arith}
use Rattle.std.proofs.lemmas.Bool.Decides.{nat_tests}
use Rattle.audio_handoff.specs.Cell.{Pair}
use Rattle.client_state.specs.Words.{commit_of_words}
use Rattle.client_state.specs.declared.commit.Commit.{Commit}
use Rattle.link_node.specs.Event.{EventValue, App, Audio, End, moment_of}
use Rattle.link_node.specs.Machine.{Machine}
use Rattle.link_node.specs.Runs.{machine_after}
use Rattle.link_shared.specs.Ending.{app_events}
use Rattle.link_shared.specs.Hub.{read_events}
use Rattle.link_live.specs.Journal.{MayFollow, MayFollowKind, AreInOrder, AreAt, datagram_events_in, has_ended}
use Rattle.link_live.specs.Running.{RunLaws}
use Rattle.link_live.proofs.GoneLemmas.{reached_by}
use Rattle.link_live.proofs.JournalLemmas.{all-append, datagram_events_in-append, has_ended-append}

-- the events of the last turn
abbrev pub last_events : ℤ → ℕ → Pair → List Commit → List EventValue
last_events now held last rest = (read_events now held last ++ app_events now rest) ++ End now ∷ []

-- ---- they carry its moment, and no datagram or end is among the commits

pub record AreCommits (now : ℤ) (es : List EventValue) : Type 0 where
  pub at : AreAt now es
  pub datagrams : datagram_events_in es ≡ []
  pub goes_on : has_ended es ≡ false

commits-append : (now : ℤ) (es fs : List EventValue) → AreCommits now es → AreCommits now fs → AreCommits now (es ++ fs)
commits-append now es fs first second = record {
  at = all-append (λ e. moment_of e ≡ now) es fs first.at second.at;
  datagrams = datagram_events_in-append es fs ∙ ap (λ l. l ++ datagram_events_in fs) first.datagrams ∙ second.datagrams;
  goes_on = has_ended-append es fs ∙ ap (λ b. b || has_ended fs) first.goes_on ∙ second.goes_on;
}

read_commits : (now : ℤ) (held : ℕ) (last : Pair) → AreCommits now (read_events now held last)
read_commits now held last = by_test (nat_lt held last.0)
  where
    by_test : (later : Bool) → AreCommits now (if later then Audio last.0 (commit_of_words last.1) now ∷ [] else [])
    by_test false = record { at = tt; datagrams = refl; goes_on = refl }
    by_test true = record { at = (refl, tt); datagrams = refl; goes_on = refl }

app_commits : (now : ℤ) (rest : List Commit) → AreCommits now (app_events now rest)
app_commits now [] = record { at = tt; datagrams = refl; goes_on = refl }
app_commits now (commit ∷ rest) = let later = app_commits now rest in record { at = (refl, later.at); datagrams = later.datagrams; goes_on = later.goes_on }

pub last_commits : (now : ℤ) (held : ℕ) (last : Pair) (rest : List Commit) → AreCommits now (read_events now held last ++ app_events now rest)
last_commits now held last rest = commits-append now (read_events now held last) (app_events now rest) (read_commits now held last) (app_commits now rest)

pub last_at : (now : ℤ) (held : ℕ) (last : Pair) (rest : List Commit) → AreAt now (last_events now held last rest)
last_at now held last rest =
    all-append (λ e. moment_of e ≡ now) (read_events now held last ++ app_events now rest) (End now ∷ []) (last_commits now held last rest).at (refl, tt)

pub last_datagrams : (now : ℤ) (held : ℕ) (last : Pair) (rest : List Commit) → datagram_events_in (last_events now held last rest) ≡ []
last_datagrams now held last rest =
    datagram_events_in-append (read_events now held last ++ app_events now rest) (End now ∷ [])
    ∙ ap (λ l. l ++ []) (last_commits now held last rest).datagrams

pub last_ends : (now : ℤ) (held : ℕ) (last : Pair) (rest : List Commit) (journal : List EventValue) → has_ended (journal ++ last_events now held last rest) ≡ true
last_ends now held last rest journal =
    has_ended-append journal (last_events now held last rest)
    ∙ ap (λ b. has_ended journal || b) (has_ended-append (read_events now held last ++ app_events now rest) (End now ∷ []) ∙ or_true (has_ended (read_events now held last ++ app_events now rest)))
    ∙ or_true (has_ended journal)
  where
    or_true : (b : Bool) → (b || true) ≡ true
    or_true false = refl
    or_true true = refl

-- ---- they may follow

-- none of the events so far is past the moment, and they haven't ended
record IsOpenTo (opening : Machine) (now : ℤ) (es : List EventValue) : Type 0 where
  reached : (machine_after opening es).moment ≤ℤ now
  goes_on : has_ended es ≡ false

may : (opening : Machine) (now : ℤ) (before : List EventValue) (e : EventValue) → IsOpenTo opening now before → moment_of e ≡ now → MayFollowKind opening before e → MayFollow opening before e
may opening now before e up at kind = record {
  moment = subst (λ (n : ℤ). (machine_after opening before).moment ≤ℤ n) (sym at) up.reached;
  goes_on = up.goes_on;
  kind = kind;
}

still_to : (laws : RunLaws) (opening : Machine) (now : ℤ) (before : List EventValue) (e : EventValue) → IsOpenTo opening now before → moment_of e ≡ now → has_ended (e ∷ []) ≡ false
    → IsOpenTo opening now (before ++ e ∷ [])
still_to laws opening now before e up at still = record {
  reached = reached_by laws opening now before e up.reached at;
  goes_on = has_ended-append before (e ∷ []) ∙ ap (λ b. b || has_ended (e ∷ [])) up.goes_on ∙ still;
}

apps_follow : (laws : RunLaws) (opening : Machine) (now : ℤ) (before : List EventValue) (rest : List Commit) → IsOpenTo opening now before
    → AreInOrder opening before (app_events now rest ++ End now ∷ [])
apps_follow laws opening now before [] up = (may opening now before (End now) up refl tt, tt)
apps_follow laws opening now before (commit ∷ rest) up =
    (may opening now before (App commit now) up refl tt, apps_follow laws opening now (before ++ App commit now ∷ []) rest (still_to laws opening now before (App commit now) up refl refl))

pub last_follow : (laws : RunLaws) (opening : Machine) (now : ℤ) (before : List EventValue) (last : Pair) (rest : List Commit)
    → (machine_after opening before).moment ≤ℤ now → has_ended before ≡ false
    → AreInOrder opening before (last_events now (machine_after opening before).audio last rest)
last_follow laws opening now before last rest reached goes_on = by_test (nat_lt (machine_after opening before).audio last.0) refl
  where
    up : IsOpenTo opening now before
    up = record { reached = reached; goes_on = goes_on }

    by_test : (later : Bool) → nat_lt (machine_after opening before).audio last.0 ≡ later
        → AreInOrder opening before (((if later then Audio last.0 (commit_of_words last.1) now ∷ [] else []) ++ app_events now rest) ++ End now ∷ [])
    by_test false test = apps_follow laws opening now before rest up
    by_test true test =
        let e : EventValue = Audio last.0 (commit_of_words last.1) now in
        let rises : (machine_after opening before).audio < last.0 = grind (arith, nat_tests) in
        (may opening now before e up refl rises, apps_follow laws opening now (before ++ e ∷ []) rest (still_to laws opening now before e up refl refl))

-- ---- nothing is missing

pub all_taken : (es taken refused : List EventValue) → es ≡ taken ++ refused → refused ≡ [] → taken ≡ es
all_taken es taken refused split none = sym (append-nil taken) ∙ ap (λ l. taken ++ l) (sym none) ∙ sym split

-- ---- a full journal

-- what was taken of the last turn's events, where some were refused, has no end among it
pub not_ended : (now : ℤ) (es taken refused : List EventValue) → has_ended es ≡ false → es ++ End now ∷ [] ≡ taken ++ refused → 0 < length refused → has_ended taken ≡ false
not_ended now es [] refused goes_on split left = refl
not_ended now [] (x ∷ taken) refused goes_on split left =
    let later : [] ≡ taken ++ refused = cc split in absurd (omega (arith, left, ap length later, length-append taken refused))
not_ended now (e ∷ es) (x ∷ taken) refused goes_on split left =
    let same : e ≡ x = cc split in let later : es ++ End now ∷ [] ≡ taken ++ refused = cc split in
    let parts : (has_ended (e ∷ []) || has_ended es) ≡ false = sym (has_ended-append (e ∷ []) es) ∙ goes_on in
    has_ended-append (x ∷ []) taken
    ∙ (λ i. has_ended (sym same i ∷ []) || has_ended taken)
    ∙ ap (λ b. b || has_ended taken) (first_false (has_ended (e ∷ [])) (has_ended es) parts)
    ∙ not_ended now es taken refused (second_false (has_ended (e ∷ [])) (has_ended es) parts) later left
  where
    first_false : (a b : Bool) → (a || b) ≡ false → a ≡ false
    first_false false b e = refl
    first_false true b e = absurd (true≢false e)

    second_false : (a b : Bool) → (a || b) ≡ false → b ≡ false
    second_false false b e = e
    second_false true b e = absurd (true≢false e)
