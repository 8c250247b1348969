-- One pass after the other is heard, the last first, and all their shares at once.
use Rattle.std.proofs.Common.{◌≡◌, ℕ, ◌+◌, ◌<◌, ◌≤◌, List, [], ◌∷◌, ◌++◌, length, map, All, nat_eq, sym, ap, ◌∙◌, subst, arith, length-append}
use Rattle.std.proofs.lemmas.Bool.Decides.{nat_tests}
use Rattle.std.proofs.lemmas.List.{length-map, map_push}
use Rattle.std.proofs.lemmas.List.Elements.{All-nil, All-cons, All-head, All-tail, All-push, All-weaker, All-map}
use Rattle.std.proofs.lemmas.List.Sums.{sum_by-cons, sum_by_push}
use Rattle.atomic_table.specs.Seated.{TableId}
use Rattle.audio_handoff.specs.Cell.{Pair}
use Rattle.client_state.specs.declared.commit.Commit.{Commit}
use Rattle.link_shared.specs.Draining.{WasHeard}
use Rattle.link_shared.specs.Hub.{HubView}
use Rattle.link_shared.specs.Passes.{AppView}
use Rattle.link_shared.specs.Handed.{HandedView, app_view_of, parts_of, made_of, IsOf, AreHanded, WasTold}

-- ---- each pass

-- where those before the last pass were told, all were, as what was read and pushed has stayed
pub told_more : (seen seen' : List Pair) (pushed pushed' : List Commit) (before after : List HandedView) (pass : HandedView) → seen' ≡ seen → pushed' ≡ pushed
    → before ≡ after ++ pass ∷ [] → WasTold seen' pushed' pass → All (WasTold seen pushed) after → All (WasTold seen pushed) before
told_more seen seen' pushed pushed' before after pass same_seen same_pushed split told all =
    subst (All (WasTold seen pushed)) (sym split)
    (All-push (WasTold seen pushed) after pass all
    (subst (λ (x : List Pair × List Commit). WasTold x.0 x.1 pass) (λ k. (same_seen k, same_pushed k)) told))

first_of : (cell queue : TableId) (after : List HandedView) (pass : HandedView) → All (IsOf cell queue) (after ++ pass ∷ []) → All (IsOf cell queue) after
first_of cell queue [] pass all = All-nil (IsOf cell queue)
first_of cell queue (x ∷ xs) pass all =
    All-cons (IsOf cell queue) x xs (All-head (IsOf cell queue) x (xs ++ pass ∷ []) all) (first_of cell queue xs pass (All-tail (IsOf cell queue) x (xs ++ pass ∷ []) all))

pub handed_before : (cell queue : TableId) (before after : List HandedView) (pass : HandedView) → before ≡ after ++ pass ∷ [] → All (IsOf cell queue) before → All (IsOf cell queue) after
handed_before cell queue before after pass split all = first_of cell queue after pass (subst (All (IsOf cell queue)) split all)

last_of : (cell queue : TableId) (after : List HandedView) (pass : HandedView) → All (IsOf cell queue) (after ++ pass ∷ []) → IsOf cell queue pass
last_of cell queue [] pass all = All-head (IsOf cell queue) pass [] all
last_of cell queue (x ∷ xs) pass all = last_of cell queue xs pass (All-tail (IsOf cell queue) x (xs ++ pass ∷ []) all)

pub last_handed : (cell queue : TableId) (before after : List HandedView) (pass : HandedView) → before ≡ after ++ pass ∷ [] → All (IsOf cell queue) before → IsOf cell queue pass
last_handed cell queue before after pass split all = last_of cell queue after pass (subst (All (IsOf cell queue)) split all)

pub fewer_left : (before after : List HandedView) (pass : HandedView) → before ≡ after ++ pass ∷ [] → length after < length before
fewer_left before after pass split =
    let longer = ap length split ∙ length-append after (pass ∷ []) in
    omega (arith, longer)

-- ---- the merged share

-- each pass's parts are among all
each_within : (passes : List HandedView) → All (λ (pass : HandedView). pass.room + 1 ≤ parts_of passes) passes
each_within [] = All-nil (λ (pass : HandedView). pass.room + 1 ≤ 0)
each_within (x ∷ xs) =
    let sum = sum_by-cons (λ (pass : HandedView). pass.room + 1) x xs in
    All-cons (λ (pass : HandedView). pass.room + 1 ≤ parts_of (x ∷ xs)) x xs (omega (arith, sum))
    (All-weaker (λ (pass : HandedView). pass.room + 1 ≤ parts_of xs) (λ (pass : HandedView). pass.room + 1 ≤ parts_of (x ∷ xs)) (λ pass le. omega (arith, sum, le)) xs (each_within xs))

-- the first pass made all, where its parts are all
first_made : (whole : ℕ) (x : HandedView) (xs : List HandedView) → parts_of (x ∷ xs) ≤ whole → x.room + 1 ≡ whole → (x.made ≡ made_of (x ∷ xs)) × (parts_of (x ∷ xs) ≡ whole)
first_made whole x [] within all = (omega arith, omega arith)
first_made whole x (y ∷ ys) within all =
    let one = sum_by-cons (λ (pass : HandedView). pass.room + 1) x (y ∷ ys) in
    let two = sum_by-cons (λ (pass : HandedView). pass.room + 1) y ys in
    absurd (omega (arith, one, two))

-- a pass with all parts is the only one, and made all
only_made : (whole total : ℕ) (passes : List HandedView) → parts_of passes ≤ whole → (parts_of passes ≡ whole → made_of passes ≡ total)
    → All (λ (pass : HandedView). pass.room + 1 ≡ whole → pass.made ≡ total) passes
only_made whole total [] within counted = All-nil (λ (pass : HandedView). pass.room + 1 ≡ whole → pass.made ≡ total)
only_made whole total (x ∷ xs) within counted =
    let sum = sum_by-cons (λ (pass : HandedView). pass.room + 1) x xs in
    All-cons (λ (pass : HandedView). pass.room + 1 ≡ whole → pass.made ≡ total) x xs
    (λ all. let first = first_made whole x xs within all in first.0 ∙ counted first.1)
    (All-weaker (λ (pass : HandedView). pass.room + 1 ≤ parts_of xs) (λ (pass : HandedView). pass.room + 1 ≡ whole → pass.made ≡ total)
    (λ pass le all. absurd (omega (arith, sum, le, all, within))) xs (each_within xs))

heard_by : (whole total : ℕ) (seen : List Pair) (pushed : List Commit) (pass : HandedView) → WasTold seen pushed pass → (pass.room + 1 ≡ whole → pass.made ≡ total)
    → WasHeard seen pushed total (app_view_of whole pass)
heard_by whole total seen pushed pass told made = record {
  seen_begins = told.seen_begins;
  pushed_begins = told.pushed_begins;
  sole_made = λ sole. made (grind (arith, nat_tests, sole));
}

pub all_heard_of : (cell queue : TableId) (whole parts total : ℕ) (passes : List HandedView) (share amount : ℕ) (seen : List Pair) (pushed : List Commit)
    → AreHanded cell queue whole parts passes share amount → (share ≡ parts → amount ≡ total) → All (WasTold seen pushed) passes
    → All (WasHeard seen pushed total) (map (app_view_of whole) passes)
all_heard_of cell queue whole parts total passes share amount seen pushed handed counted told =
    let share_is = handed.share_is in
    let whole_is = handed.whole_is in
    let within = handed.within in
    let few : parts_of passes ≤ whole = omega (arith, share_is, whole_is, within) in
    let made = only_made whole total passes few (λ all. sym handed.amount_is ∙ counted (share_is ∙ all ∙ whole_is)) in
    All-map (WasHeard seen pushed total) (app_view_of whole) passes (λ k d lt. heard_by whole total seen pushed _ (told k d lt) (made k d lt))

-- ---- a further pass

pub handed_more : (cell queue : TableId) (whole parts : ℕ) (passes passes' : List HandedView) (pass : HandedView) (share share' more amount amount' made : ℕ)
    → AreHanded cell queue whole parts passes share amount → length passes ≤ 15 → passes' ≡ passes ++ pass ∷ [] → IsOf cell queue pass
    → share' ≡ share + more → more ≡ pass.room + 1 → amount' ≡ amount + made → made ≡ pass.made → share' ≤ parts
    → AreHanded cell queue whole parts passes' share' amount'
handed_more cell queue whole parts passes passes' pass share share' more amount amount' made handed few passes_are is share_is more_is amount_is made_is within =
    let parts_were = handed.share_is in
    let made_was = handed.amount_is in
    let sum = sum_by_push (λ (p : HandedView). p.room + 1) passes pass in
    let sum' = sum_by_push (λ (p : HandedView). p.made) passes pass in
    let longer = length-append passes (pass ∷ []) in
    subst (λ (l : List HandedView). AreHanded cell queue whole parts l share' amount') (sym passes_are)
    (record {
      few = omega (arith, longer, few);
      each = All-push (IsOf cell queue) passes pass handed.each is;
      whole_is = handed.whole_is;
      within = within;
      share_is = omega (arith, sum, parts_were, share_is, more_is);
      amount_is = omega (arith, sum', made_was, amount_is, made_is);
    })

pub few_handed : (whole : ℕ) (passes : List HandedView) (handed : List AppView) → map (app_view_of whole) passes ≡ handed → length handed < 16 → length passes ≤ 15
few_handed whole passes handed same few =
    let long = sym (length-map passes (app_view_of whole)) ∙ ap length same in
    omega (arith, long, few)

pub room_for_one : (count places : ℕ) (passes : List HandedView) → count ≡ length passes → length passes ≤ 15 → 16 ≤ places → count < places
room_for_one count places passes counted few room = omega (arith, counted, few, room)

-- the pass that it was, by its share
abbrev by_share : ℕ → HandedView → ℕ → ℕ → AppView
by_share whole pass made parts = record { seen = pass.seen; pushed = pass.pushed; made = made; own = pass.own; room = pass.room; sole = nat_eq parts whole }

app_view_as : (whole : ℕ) (pass : HandedView) (made parts : ℕ) (view : AppView) → made ≡ pass.made → parts ≡ pass.room + 1 → by_share whole pass made parts ≡ view → app_view_of whole pass ≡ view
app_view_as whole pass made parts view made_is parts_is same =
    ap (λ (x : ℕ × ℕ). by_share whole pass x.0 x.1) (λ k. (sym made_is k, sym parts_is k)) ∙ same

pub hub_of_more : (whole : ℕ) (hub hub' : HubView) (passes passes' : List HandedView) (pass : HandedView) (made parts : ℕ) (view : AppView) → hub ≡ hub' → hub.handed ≡ map (app_view_of whole) passes
    → passes' ≡ passes ++ pass ∷ [] → made ≡ pass.made → parts ≡ pass.room + 1 → by_share whole pass made parts ≡ view → record hub { handed = map (app_view_of whole) passes' } ≡ record hub' { handed = hub'.handed ++ view ∷ [] }
hub_of_more whole hub hub' passes passes' pass made parts view same handed_is split made_is parts_is by_share_is =
    let more : map (app_view_of whole) passes' ≡ hub.handed ++ view ∷ [] =
    ap (λ (l : List HandedView). map (app_view_of whole) l) split ∙ map_push (app_view_of whole) passes pass
    ∙ ap (λ (x : AppView). map (app_view_of whole) passes ++ x ∷ []) (app_view_as whole pass made parts view made_is parts_is by_share_is) ∙ ap (λ (l : List AppView). l ++ view ∷ []) (sym handed_is) in
    ap (λ (l : List AppView). record hub { handed = l }) more ∙ ap (λ (h : HubView). record h { handed = h.handed ++ view ∷ [] }) same

-- none was handed in yet
pub none_handed : (cell queue : TableId) (whole parts : ℕ) (passes : List HandedView) (share amount : ℕ) → passes ≡ [] → whole ≡ parts → share ≡ 0 → amount ≡ 0
    → AreHanded cell queue whole parts passes share amount
none_handed cell queue whole parts passes share amount none whole_is share_is amount_is =
    subst (λ (l : List HandedView). AreHanded cell queue whole parts l share amount) (sym none)
    (record { few = omega arith; each = All-nil (IsOf cell queue); whole_is = whole_is; within = omega arith; share_is = share_is; amount_is = amount_is })
