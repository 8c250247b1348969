-- What is known when a link has ended.
use Rattle.std.proofs.Common.{◌≡◌, ℕ, ℤ, zero, suc, ◌-◌, ◌<◌, ◌≤◌, ◌⊎◌, Bool, true, false, List, [], ◌∷◌, ◌++◌, length, map, take, drop, Some, slice_get, refl, sym, ap, ◌∙◌, subst, inl, inr, ⊎_elim, append_assoc, append-nil, length-append, arith, nat_lt, if◌then◌else◌}
use Rattle.std.proofs.Props.{props}
use Rattle.std.proofs.lemmas.Bool.Decides.{nat_tests}
use Rattle.std.proofs.lemmas.List.{take-append-drop}
use Rattle.std.proofs.lemmas.Option.{none-some, slice_get_within}
use mathlib.Core.Logic.{∥∥₁_elim}
use mathlib.Core.Option.{some, some-injective, some-ne-none}
use lib.ListN.{get_elem?}
use Rattle.audio_handoff.specs.Cell.{Pair, Grows, IsMade, WereMade}
use Rattle.client_state.specs.Words.{commit_of_words}
use Rattle.client_state.specs.declared.commit.Commit.{Commit}
use Rattle.link_node.specs.Event.{EventValue, Rx, Tick, App, Audio, End, SendingValue, Fits, app_after, audio_after}
use Rattle.link_node.specs.Machine.{Machine}
use Rattle.link_node.specs.Runs.{AreFitting}
use Rattle.link_shared.specs.Ending.{app_events}
use Rattle.link_shared.specs.Hub.{read_events}
use Rattle.link_shared.specs.Journal.{IsOffered, AreCarried, app_commits_in, last_audio_in}
use Rattle.link_shared.specs.Keeper.{AreFirstOf, IsReadAs, WereRead}
use Rattle.link_shared.proofs.JournalLemmas.{app_commits_in-append, last_audio_in-append}

-- ---- whether events fit is a proposition

fits_prop : (gates app audio : ℕ) (e : EventValue) → IsProp (Fits gates app audio e)
fits_prop gates app audio (Rx gate from bytes now) = hlevel props
fits_prop gates app audio (Tick now) = hlevel props
fits_prop gates app audio (App commit now) = hlevel props
fits_prop gates app audio (Audio number commit now) = hlevel props
fits_prop gates app audio (End now) = hlevel props

fitting_prop : (gates app audio : ℕ) (es : List EventValue) → IsProp (AreFitting gates app audio es)
fitting_prop gates app audio [] = hlevel props
fitting_prop gates app audio (e ∷ es) = hlevel (props, fits_prop gates app audio e, fitting_prop gates (app_after app e) (audio_after audio e) es)

pub fitting_of : (gates : ℕ) (es : List EventValue) → ∥ AreFitting gates 0 0 es ∥₁ → AreFitting gates 0 0 es
fitting_of gates es fitting = ∥∥₁_elim fitting (fitting_prop gates 0 0 es) (λ f. f)

-- ---- places in lists

stands_in : {A : Type 0} (xs ys : List A) (y : A) (k : ℕ) → slice_get (xs ++ ys) k ≡ Some y → (slice_get xs k ≡ Some y) ⊎ ((j : ℕ) × (slice_get ys j ≡ Some y))
stands_in [] ys y k e = inr (k, e)
stands_in (x ∷ xs) ys y zero e = inl e
stands_in (x ∷ xs) ys y (suc k) e = stands_in xs ys y k e

stays_there : {A : Type 0} (xs ys : List A) (y : A) (k : ℕ) → slice_get xs k ≡ Some y → slice_get (xs ++ ys) k ≡ Some y
stays_there [] ys y k e = absurd (none-some y e)
stays_there (x ∷ xs) ys y zero e = e
stays_there (x ∷ xs) ys y (suc k) e = stays_there xs ys y k e

-- ---- each audio commit is one that was made

-- as `AreCarried`, of numbers from 1 on
abbrev AreMadeAs : List Commit → List EventValue → Type 0
AreMadeAs made es =
    (k number : ℕ) (commit : Commit) (now : ℤ) → slice_get es k ≡ Some (Audio number commit now) → 1 ≤ number → slice_get made (number - 1) ≡ Some commit

made_as-append : (made : List Commit) (es fs : List EventValue) → AreMadeAs made es → AreMadeAs made fs → AreMadeAs made (es ++ fs)
made_as-append made es fs first second k number commit now e from_one =
    ⊎_elim (λ (t : slice_get es k ≡ Some (Audio number commit now)). first k number commit now t from_one)
    (λ (t : (j : ℕ) × (slice_get fs j ≡ Some (Audio number commit now))). second t.0 number commit now t.1 from_one)
    (stands_in es fs (Audio number commit now) k e)

made_as-first : (made : List Commit) (es fs : List EventValue) → AreMadeAs made (es ++ fs) → AreMadeAs made es
made_as-first made es fs all k number commit now e from_one = all k number commit now (stays_there es fs (Audio number commit now) k e) from_one

no_audio_in : (made : List Commit) (now : ℤ) (commits : List Commit) → AreMadeAs made (app_events now commits)
no_audio_in made now [] k number commit at e from_one = absurd (none-some (Audio number commit at) e)
no_audio_in made now (c ∷ cs) zero number commit at e from_one = cc
no_audio_in made now (c ∷ cs) (suc k) number commit at e from_one = no_audio_in made now cs k number commit at e from_one

end_is_no_audio : (made : List Commit) (now : ℤ) → AreMadeAs made (End now ∷ [])
end_is_no_audio made now zero number commit at e from_one = cc
end_is_no_audio made now (suc k) number commit at e from_one = absurd (none-some (Audio number commit at) e)

-- the commit of a row stands at the row's place
row_at : (rows : List (List ℕ)) (j : ℕ) (row : List ℕ) → get_elem? rows j ≡ some row → slice_get (map commit_of_words rows) j ≡ Some (commit_of_words row)
row_at [] j row e = absurd (some-ne-none row (sym e))
row_at (r ∷ rows) zero row e = ap (λ l. Some (commit_of_words l)) (some-injective r row e)
row_at (r ∷ rows) (suc j) row e = row_at rows j row e

-- the opening row is no commit
pub made_at : (rows : List (List ℕ)) (number : ℕ) (row : List ℕ) → IsMade rows number row → 1 ≤ number → slice_get (map commit_of_words (drop 1 rows)) (number - 1) ≡ Some (commit_of_words row)
made_at [] number row e from_one = absurd (some-ne-none row (sym e))
made_at (r ∷ rows) zero row e from_one = absurd (omega arith)
made_at (r ∷ rows) (suc n) row e from_one =
    let less : suc n - 1 ≡ n = omega arith in
    subst (λ (j : ℕ). slice_get (map commit_of_words rows) j ≡ Some (commit_of_words row)) (sym less) (row_at rows n row e)

one_at : (made : List Commit) (k : ℕ) (commit : Commit) → IsProp (slice_get made k ≡ Some commit)
one_at made k commit = hlevel props

reads_were_made : (rows : List (List ℕ)) (reads : List Pair) (es : List EventValue) → WereMade rows reads → WereRead reads es → AreMadeAs (map commit_of_words (drop 1 rows)) es
reads_were_made rows reads es made read k number commit now e from_one =
    ∥∥₁_elim (read k number commit now e) (one_at (map commit_of_words (drop 1 rows)) (number - 1) commit)
    (λ (r : IsReadAs reads number commit). made_at rows number r.row (made r.at (number, r.row) r.there) from_one ∙ ap Some (sym r.commit_is))

-- one event, if the test holds
event_if : (made : List Commit) (test : Bool) (number : ℕ) (commit : Commit) (now : ℤ) → (1 ≤ number → slice_get made (number - 1) ≡ Some commit) → AreMadeAs made (if test then Audio number commit now ∷ [] else [])
event_if made true number commit now there zero n c at e from_one =
    let same : (number ≡ n) × (commit ≡ c) = (cc, cc) in
    subst (λ (d : Commit). slice_get made (n - 1) ≡ Some d) same.1 (subst (λ (j : ℕ). slice_get made (j - 1) ≡ Some commit) same.0 (there (omega arith)))
event_if made true number commit now there (suc k) n c at e from_one = absurd (none-some (Audio n c at) e)
event_if made false number commit now there k n c at e from_one = absurd (none-some (Audio n c at) e)

-- an audio commit that fits counts from 1
from_one_on : (gates app audio : ℕ) (es : List EventValue) → AreFitting gates app audio es → (k number : ℕ) (commit : Commit) (now : ℤ) → slice_get es k ≡ Some (Audio number commit now) → 1 ≤ number
from_one_on gates app audio [] fitting k number commit now e = absurd (none-some (Audio number commit now) e)
from_one_on gates app audio (d ∷ es) fitting zero number commit now e =
    let same : d ≡ Audio number commit now = cc in
    let fits : Fits gates app audio (Audio number commit now) = subst (λ (x : EventValue). Fits gates app audio x) same fitting.0 in
    omega (arith, fits.1.1)
from_one_on gates app audio (d ∷ es) fitting (suc k) number commit now e = from_one_on gates (app_after app d) (audio_after audio d) es fitting.1 k number commit now e

pub carried_of : (opening : Machine) (most gates taken : ℕ) (now : ℤ) (last : Pair) (rest : List Commit) (before events : List EventValue) (sends : List SendingValue) (full : Bool) (rows : List (List ℕ)) (reads : List Pair)
    → IsOffered opening most ((read_events now taken last ++ app_events now rest) ++ End now ∷ []) before events [] sends full
    → AreFitting gates 0 0 events → WereMade rows reads → WereRead reads before → IsMade rows last.0 last.1 → AreCarried (map commit_of_words (drop 1 rows)) events
carried_of opening most gates taken now last rest before events sends full rows reads offered fitting made read is_made k number commit at e =
    let list : List Commit = map commit_of_words (drop 1 rows) in
    let from_one : 1 ≤ number = from_one_on gates 0 0 events fitting k number commit at e in
    let one : AreMadeAs list (read_events now taken last) = event_if list (nat_lt taken last.0) last.0 (commit_of_words last.1) now (made_at rows last.0 last.1 is_made) in
    let all : AreMadeAs list ((read_events now taken last ++ app_events now rest) ++ End now ∷ []) =
    made_as-append list (read_events now taken last ++ app_events now rest) (End now ∷ [])
    (made_as-append list (read_events now taken last) (app_events now rest) one (no_audio_in list now rest)) (end_is_no_audio list now) in
    let some_of : AreMadeAs list offered.taken = made_as-first list offered.taken offered.refused (subst (AreMadeAs list) offered.split all) in
    let whole : AreMadeAs list events = subst (AreMadeAs list) (sym offered.journal) (made_as-append list before offered.taken (reads_were_made rows reads before made read) some_of) in
    (from_one, whole k number commit at e from_one)

-- ---- the last audio commit

further : (e : EventValue) (es : List EventValue) (held : ℕ) → (last_audio_in held es ≡ held) ⊎ ((k : ℕ) × (commit : Commit) × (now : ℤ) × (slice_get es k ≡ Some (Audio (last_audio_in held es) commit now)))
    → (last_audio_in held es ≡ held) ⊎ ((k : ℕ) × (commit : Commit) × (now : ℤ) × (slice_get (e ∷ es) k ≡ Some (Audio (last_audio_in held es) commit now)))
further e es held (inl t) = inl t
further e es held (inr t) = inr (suc t.0, t.1, t.2, t.3)

-- the last number is the one held, or that of an audio commit in the list
last_stands : (held : ℕ) (es : List EventValue) → (last_audio_in held es ≡ held) ⊎ ((k : ℕ) × (commit : Commit) × (now : ℤ) × (slice_get es k ≡ Some (Audio (last_audio_in held es) commit now)))
last_stands held [] = inl refl
last_stands held (Rx gate from bytes now ∷ es) = further (Rx gate from bytes now) es held (last_stands held es)
last_stands held (Tick now ∷ es) = further (Tick now) es held (last_stands held es)
last_stands held (App commit now ∷ es) = further (App commit now) es held (last_stands held es)
last_stands held (Audio number commit now ∷ es) = ⊎_elim (λ (t : last_audio_in number es ≡ number). inr (0, commit, now, ap (λ (n : ℕ). Some (Audio n commit now)) (sym t)))
    (λ (t : (k : ℕ) × (c : Commit) × (at : ℤ) × (slice_get es k ≡ Some (Audio (last_audio_in number es) c at))). inr (suc t.0, t.1, t.2, t.3))
    (last_stands number es)
last_stands held (End now ∷ es) = further (End now) es held (last_stands held es)

last_of_apps : (held : ℕ) (now : ℤ) (commits : List Commit) → last_audio_in held (app_events now commits) ≡ held
last_of_apps held now [] = refl
last_of_apps held now (c ∷ cs) = last_of_apps held now cs

-- the greater of both numbers, where the test tells which it is
last_if : (test : Bool) (held number : ℕ) (commit : Commit) (now : ℤ) → last_audio_in held (if test then Audio number commit now ∷ [] else []) ≡ (if test then number else held)
last_if true held number commit now = refl
last_if false held number commit now = refl

-- no number is greater than that of the last commit made
no_greater : (made : List Commit) (es : List EventValue) → AreCarried made es → last_audio_in 0 es ≤ length made
no_greater made es carried = ⊎_elim (λ (t : last_audio_in 0 es ≡ 0). omega (arith, t))
    (λ (t : (k : ℕ) × (commit : Commit) × (now : ℤ) × (slice_get es k ≡ Some (Audio (last_audio_in 0 es) commit now))).
    let there = carried t.0 (last_audio_in 0 es) t.1 t.2 t.3 in
    let within = slice_get_within made (last_audio_in 0 es - 1) t.1 there.1 in
    omega (arith, within, there.0))
    (last_stands 0 es)

either_way : (taken number made : ℕ) → taken ≤ made → number ≡ made → (if nat_lt taken number then number else taken) ≡ made
either_way taken number made below same = grind (arith, nat_tests)

carried_before : (made : List Commit) (before taken events : List EventValue) → events ≡ before ++ taken → AreCarried made events → AreCarried made before
carried_before made before taken events grown carried k number commit now e =
    carried k number commit now (subst (λ (es : List EventValue). slice_get es k ≡ Some (Audio number commit now)) (sym grown) (stays_there before taken (Audio number commit now) k e))

pub last_taken_of : (opening : Machine) (most taken : ℕ) (now : ℤ) (last : Pair) (rest : List Commit) (before events : List EventValue) (sends : List SendingValue) (full : Bool) (made : List Commit)
    → IsOffered opening most ((read_events now taken last ++ app_events now rest) ++ End now ∷ []) before events [] sends full
    → taken ≡ last_audio_in 0 before → AreCarried made events → last.0 ≡ length made → full ≡ false → last_audio_in 0 events ≡ length made
last_taken_of opening most taken now last rest before events sends full made offered counted carried last_is all =
    let read : List EventValue = read_events now taken last in
    let greatest : last_audio_in 0 before ≤ length made = no_greater made before (carried_before made before offered.taken events offered.journal carried) in
    let whole : offered.taken ≡ (read ++ app_events now rest) ++ End now ∷ [] = sym (offered.split ∙ ap (λ l. offered.taken ++ l) (offered.all all) ∙ append-nil offered.taken) in
    let by_taken : last_audio_in 0 events ≡ last_audio_in taken ((read ++ app_events now rest) ++ End now ∷ []) =
    ap (last_audio_in 0) offered.journal ∙ last_audio_in-append 0 before offered.taken ∙ ap (λ (l : List EventValue). last_audio_in (last_audio_in 0 before) l) whole
    ∙ ap (λ (n : ℕ). last_audio_in n ((read ++ app_events now rest) ++ End now ∷ [])) (sym counted) in
    let by_read : last_audio_in taken ((read ++ app_events now rest) ++ End now ∷ []) ≡ last_audio_in taken read =
    last_audio_in-append taken (read ++ app_events now rest) (End now ∷ []) ∙ last_audio_in-append taken read (app_events now rest) ∙ last_of_apps (last_audio_in taken read) now rest in
    let by_test : last_audio_in taken read ≡ (if nat_lt taken last.0 then last.0 else taken) = last_if (nat_lt taken last.0) taken last.0 (commit_of_words last.1) now in
    by_taken ∙ by_read ∙ by_test ∙ either_way taken last.0 (length made) (omega (arith, greatest, counted)) last_is

-- ---- the applications' commits

commits_of_apps : (now : ℤ) (commits : List Commit) → app_commits_in (app_events now commits) ≡ commits
commits_of_apps now [] = refl
commits_of_apps now (c ∷ cs) = ap (λ l. c ∷ l) (commits_of_apps now cs)

none_of_read : (test : Bool) (number : ℕ) (commit : Commit) (now : ℤ) → app_commits_in (if test then Audio number commit now ∷ [] else []) ≡ []
none_of_read true number commit now = refl
none_of_read false number commit now = refl

commits_offered : (taken : ℕ) (now : ℤ) (last : Pair) (rest : List Commit) → app_commits_in ((read_events now taken last ++ app_events now rest) ++ End now ∷ []) ≡ rest
commits_offered taken now last rest =
    app_commits_in-append (read_events now taken last ++ app_events now rest) (End now ∷ [])
    ∙ append-nil (app_commits_in (read_events now taken last ++ app_events now rest))
    ∙ app_commits_in-append (read_events now taken last) (app_events now rest)
    ∙ ap (λ l. l ++ app_commits_in (app_events now rest)) (none_of_read (nat_lt taken last.0) last.0 (commit_of_words last.1) now)
    ∙ commits_of_apps now rest

-- a beginning of a list, and what follows it
first_grows : {A : Type 0} (n : ℕ) (xs ys : List A) → Grows (take n xs) (xs ++ ys)
first_grows n xs ys = (drop n xs ++ ys, ap (λ l. l ++ ys) (sym (take-append-drop n xs)) ∙ append_assoc (take n xs) (drop n xs) ys)

-- while an event is taken, all commits popped before stand in the journal
begin_by : (most : ℕ) (before taken refused events : List EventValue) (popped rest : List Commit) → AreFirstOf most (length before) (app_commits_in before) popped
    → events ≡ before ++ taken → length events ≤ most → app_commits_in taken ++ app_commits_in refused ≡ rest → Grows (app_commits_in events) (popped ++ rest)
begin_by most before [] refused events popped rest first grown fits split =
    subst (λ (l : List Commit). Grows l (popped ++ rest)) (sym (ap app_commits_in (grown ∙ append-nil before) ∙ first.first)) (first_grows (length (app_commits_in before)) popped rest)
begin_by most before (t ∷ ts) refused events popped rest first grown fits split =
    let all : app_commits_in before ≡ popped = first.all (omega (arith, length-append before (t ∷ ts), ap length grown, fits)) in
    let whole : app_commits_in events ≡ popped ++ app_commits_in (t ∷ ts) = ap app_commits_in grown ∙ app_commits_in-append before (t ∷ ts) ∙ ap (λ l. l ++ app_commits_in (t ∷ ts)) all in (
      app_commits_in refused,
      ap (λ l. popped ++ l) (sym split) ∙ sym (append_assoc popped (app_commits_in (t ∷ ts)) (app_commits_in refused)) ∙ ap (λ l. l ++ app_commits_in refused) (sym whole),
    )

pub taken_begin_of : (opening : Machine) (most taken : ℕ) (now : ℤ) (last : Pair) (popped rest : List Commit) (before events : List EventValue) (sends : List SendingValue) (full : Bool)
    → IsOffered opening most ((read_events now taken last ++ app_events now rest) ++ End now ∷ []) before events [] sends full
    → AreFirstOf most (length before) (app_commits_in before) popped → Grows (app_commits_in events) (popped ++ rest)
taken_begin_of opening most taken now last popped rest before events sends full offered first =
    begin_by most before offered.taken offered.refused events popped rest first offered.journal offered.fits
    (sym (app_commits_in-append offered.taken offered.refused) ∙ ap app_commits_in (sym offered.split) ∙ commits_offered taken now last rest)

pub all_taken_of : (opening : Machine) (most taken : ℕ) (now : ℤ) (last : Pair) (popped rest : List Commit) (before events : List EventValue) (sends : List SendingValue) (full : Bool)
    → IsOffered opening most ((read_events now taken last ++ app_events now rest) ++ End now ∷ []) before events [] sends full
    → AreFirstOf most (length before) (app_commits_in before) popped → full ≡ false → app_commits_in events ≡ popped ++ rest
all_taken_of opening most taken now last popped rest before events sends full offered first all =
    let some : List EventValue = read_events now taken last ++ app_events now rest in
    let whole : offered.taken ≡ some ++ End now ∷ [] = sym (offered.split ∙ ap (λ l. offered.taken ++ l) (offered.all all) ∙ append-nil offered.taken) in
    let room : length before < most = omega (arith, length-append before offered.taken, length-append some (End now ∷ []), ap length offered.journal, ap length whole, offered.fits) in
    ap app_commits_in offered.journal ∙ app_commits_in-append before offered.taken ∙ ap (λ l. l ++ app_commits_in offered.taken) (first.all room)
    ∙ ap (λ (l : List EventValue). popped ++ app_commits_in l) whole ∙ ap (λ l. popped ++ l) (commits_offered taken now last rest)
