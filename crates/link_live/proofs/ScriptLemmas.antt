-- A script's commands are taken one after another.
use Rattle.std.proofs.Common.{if◌then◌else◌, ◌≡◌, ℕ, ℤ, zero, suc, ◌<◌, ◌≤◌, ◌+◌, ◌-◌, ◌⊎◌, Bool, true, false, List, [], ◌∷◌, ◌++◌, length, get_or, Option, Some, None, slice_get, refl, sym, ap, subst, ◌∙◌, inl, inr, ⊎_elim, true≢false, arith, append_assoc, append-nil, length-append}
use Rattle.std.specs.Prelude.{All}
use Rattle.std.specs.List.{AllByRecursion}
use Rattle.std.proofs.lemmas.List.{map-append, nil_from_length}
use Rattle.std.proofs.lemmas.List.Elements.{All-nil, All-push, All-weaker, All-from_recursion, recursion_from_All}
use mathlib.Core.Option.{some, some-injective, some-ne-none}
use lib.ListN.{get_elem?}
use Rattle.audio_handoff.specs.Cell.{Pair, NumbersNeverFall}
use Rattle.client_state.specs.Shown.{shown_over}
use Rattle.client_state.specs.Words.{state_of_words}
use Rattle.client_state.specs.declared.commit.Commit.{Commit}
use Rattle.client_state.specs.declared.state.State.{State}
use Rattle.lk_outside.specs.Pace.{IsPaced}
use Rattle.link_shared.specs.Audio.{last_of}
use Rattle.link_shared.specs.Passes.{AppView, HasCaptured, HasCommitted}
use Rattle.link_shared.specs.declared.capture.Capture.{Capture}
use Rattle.link_node.specs.Config.{GateValue}
use Rattle.link_script.specs.LiveScript.{Command, app, block, IsCommand, IsLiveText, apps_in, blocks_in}
use Rattle.link_script.specs.declared.live_script.AppCommand.{AppCommand}
use Rattle.link_script.specs.declared.live_script.BlockCommand.{BlockCommand}
use Rattle.link_live.specs.Clients.{capture_of, commit_of_act, apps_taken}
use Rattle.link_live.specs.ScriptRun.{AreAmong, Taken, ArePaced, IsScriptRun, is_look, commits_of_command, commands_captures, commands_commits, pairs_of}
use Rattle.link_live.specs.TakingRun.{IsCommandAt, IsIn, IsTaking}
use Rattle.link_live.proofs.AmongLemmas.{among_more, last_among}

-- ---- elements by their places

module _ {A : Type 0} where
  at_place : (l : List A) (k : ℕ) (fallback : A) → k < length l → get_elem? l k ≡ some (get_or l k fallback)
  at_place [] k fallback less = absurd (omega (arith, less))
  at_place (x ∷ xs) zero fallback less = refl
  at_place (x ∷ xs) (suc k) fallback less = at_place xs k fallback (omega (arith, less))

  at_longer : (l rest : List A) (k : ℕ) (a : A) → get_elem? l k ≡ some a → get_elem? (l ++ rest) k ≡ some a
  at_longer [] rest k a e = absurd (some-ne-none a (sym e))
  at_longer (x ∷ xs) rest zero a e = e
  at_longer (x ∷ xs) rest (suc k) a e = at_longer xs rest k a e

  at_end : (l : List A) (a : A) → get_elem? (l ++ a ∷ []) (length l) ≡ some a
  at_end [] a = refl
  at_end (x ∷ xs) a = at_end xs a

  below_length : (l : List A) (k : ℕ) (a : A) → get_elem? l k ≡ some a → k < length l
  below_length [] k a e = absurd (some-ne-none a (sym e))
  below_length (x ∷ xs) zero a e = omega arith
  below_length (x ∷ xs) (suc k) a e = let h = below_length xs k a e in omega arith

  at_more : (l : List A) (a b : A) (k : ℕ) → get_elem? (l ++ a ∷ []) k ≡ some b → (get_elem? l k ≡ some b) ⊎ ((k ≡ length l) × (a ≡ b))
  at_more [] a b zero e = inr (refl, some-injective a b e)
  at_more [] a b (suc k) e = absurd (some-ne-none b (sym e))
  at_more (x ∷ xs) a b zero e = inl e
  at_more (x ∷ xs) a b (suc k) e = ⊎_elim inl (λ (t : (k ≡ length xs) × (a ≡ b)). inr (ap suc t.0, t.1)) (at_more xs a b k e)

  all_at : (P : A → Type 0) (l : List A) (k : ℕ) (a : A) → AllByRecursion P l → get_elem? l k ≡ some a → P a
  all_at P [] k a all e = absurd (some-ne-none a (sym e))
  all_at P (x ∷ xs) zero a all e = subst P (some-injective x a e) all.0
  all_at P (x ∷ xs) (suc k) a all e = all_at P xs k a all.1 e

  slice_get_end : (l : List A) (a : A) → slice_get (l ++ a ∷ []) (length l) ≡ Some a
  slice_get_end [] a = refl
  slice_get_end (x ∷ xs) a = slice_get_end xs a

-- ---- what is captured and committed

none_captured : (made : List Commit) (commands : List AppCommand) → commands_captures made commands [] ≡ []
unfolding commands_captures
none_captured made [] = refl
none_captured made (command ∷ commands) = refl

none_committed : (made : List Commit) (commands : List AppCommand) → commands_commits made commands [] ≡ []
unfolding commands_commits
none_committed made [] = refl
none_committed made (command ∷ commands) = refl

commits_more : (made : List Commit) (commands : List AppCommand) (taken : List Taken) (command : AppCommand) (one : Taken) → IsCommandAt commands (length taken) command
    → commands_commits made commands (taken ++ one ∷ []) ≡ commands_commits made commands taken ++ commits_of_command (made ++ commands_commits made commands taken) command one
unfolding commands_commits
commits_more made [] taken command one e = absurd (some-ne-none command (sym e))
commits_more made (c ∷ cs) [] command one e =
    ap (λ l. commits_of_command made c one ++ l) (none_committed (made ++ commits_of_command made c one) cs)
    ∙ append-nil (commits_of_command made c one)
    ∙ ap (λ c. commits_of_command made c one) (some-injective c command e)
    ∙ ap (λ l. commits_of_command l command one) (sym (append-nil made))
commits_more made (c ∷ cs) (t ∷ ts) command one e =
    let first = commits_of_command made c t in
    let rest = commands_commits (made ++ first) cs ts in
    ap (λ l. first ++ l) (commits_more (made ++ first) cs ts command one e)
    ∙ sym (append_assoc first rest (commits_of_command ((made ++ first) ++ rest) command one))
    ∙ ap (λ l. (first ++ rest) ++ commits_of_command l command one) (append_assoc made first rest)

captures_more : (made : List Commit) (commands : List AppCommand) (taken : List Taken) (command : AppCommand) (one : Taken) → IsCommandAt commands (length taken) command
    → commands_captures made commands (taken ++ one ∷ []) ≡ commands_captures made commands taken ++ capture_of apps_taken (made ++ commands_commits made commands taken) one.pair ∷ []
unfolding commands_captures commands_commits
captures_more made [] taken command one e = absurd (some-ne-none command (sym e))
captures_more made (c ∷ cs) [] command one e =
    ap (λ l. capture_of apps_taken made one.pair ∷ l) (none_captured (made ++ commits_of_command made c one) cs)
    ∙ ap (λ l. capture_of apps_taken l one.pair ∷ []) (sym (append-nil made))
captures_more made (c ∷ cs) (t ∷ ts) command one e =
    let first = commits_of_command made c t in
    let rest = commands_commits (made ++ first) cs ts in
    let before = commands_captures (made ++ first) cs ts in
    ap (λ l. capture_of apps_taken made t.pair ∷ l)
    (captures_more (made ++ first) cs ts command one e
    ∙ ap (λ l. before ++ capture_of apps_taken l one.pair ∷ []) (append_assoc made first rest))

paced_more : (late : Option ℤ) (commands : List AppCommand) (taken : List Taken) (command : AppCommand) (one : Taken) → IsCommandAt commands (length taken) command
    → ArePaced late commands taken → IsPaced late command.at one.at → ArePaced late commands (taken ++ one ∷ [])
paced_more late [] taken command one e so_far paced = absurd (some-ne-none command (sym e))
paced_more late (c ∷ cs) [] command one e so_far paced = (subst (λ (x : AppCommand). IsPaced late x.at one.at) (sym (some-injective c command e)) paced, none_paced late cs)
  where
    none_paced : (late : Option ℤ) (commands : List AppCommand) → ArePaced late commands []
    none_paced late [] = tt
    none_paced late (c ∷ cs) = tt
paced_more late (c ∷ cs) (t ∷ ts) command one e so_far paced = (so_far.0, paced_more late cs ts command one e so_far.1 paced)

is_capture : (own : Option (ℕ × Commit)) (commits : List Commit) (capture : Capture) (row : List ℕ) → capture.state ≡ state_of_words row → capture.shown ≡ shown_over own capture.state.app capture.state
    → own ≡ last_of commits → capture ≡ capture_of apps_taken commits (capture.number, row)
unfolding capture_of
is_capture own commits capture row state shown own_is = λ k. record { number = capture.number; state = state k; shown = shown_is k }
  where
    shown_is : capture.shown ≡ shown_over (last_of commits) (state_of_words row).app (state_of_words row)
    shown_is = shown ∙ ap (λ (s : State). shown_over own s.app s) state ∙ ap (λ (o : Option (ℕ × Commit)). shown_over o (state_of_words row).app (state_of_words row)) own_is

-- ---- what the pass knows

-- the pairs of before are known after a capture, and none is newer than the one that it adds
module _ (seen between after : List Pair) (last : Pair) (is : after ≡ (seen ++ between) ++ last ∷ []) (never_falls : NumbersNeverFall after) where
  still_in : (pair : Pair) → IsIn seen pair → IsIn after pair
  still_in pair known = (known.0, subst (λ (l : List Pair). get_elem? l known.0 ≡ some pair) (sym is) (at_longer (seen ++ between) (last ∷ []) known.0 pair (at_longer seen between known.0 pair known.1)))

  last_in : IsIn after last
  last_in = (length (seen ++ between), subst (λ (l : List Pair). get_elem? l (length (seen ++ between)) ≡ some last) (sym is) (at_end (seen ++ between) last))

  none_is_newer : (pair : Pair) → IsIn seen pair → pair.0 ≤ last.0
  unfolding still_in last_in
  none_is_newer pair known =
      let before = below_length (seen ++ between) known.0 pair (at_longer seen between known.0 pair known.1) in
      never_falls known.0 (length (seen ++ between)) pair last (omega (arith, before)) (still_in pair known).1 last_in.1

never_fall_more : (pairs : List Pair) (last : Pair) → NumbersNeverFall pairs → All (λ (pair : Pair). pair.0 ≤ last.0) pairs → NumbersNeverFall (pairs ++ last ∷ [])
never_fall_more pairs last falls all j k first second le e f =
    ⊎_elim
    (λ (g : get_elem? pairs k ≡ some second). ⊎_elim
    (λ (d : get_elem? pairs j ≡ some first). falls j k first second le d g)
    (λ (t : (j ≡ length pairs) × (last ≡ first)). let a = below_length pairs k second g in let b = t.0 in absurd (omega (arith, a, b, le)))
    (at_more pairs last first j e))
    (λ (t : (k ≡ length pairs) × (last ≡ second)).
    ⊎_elim
    (λ (d : get_elem? pairs j ≡ some first). subst (λ (x : Pair). first.0 ≤ x.0) t.1 (all_at (λ (pair : Pair). pair.0 ≤ last.0) pairs j first (recursion_from_All (λ (pair : Pair). pair.0 ≤ last.0) pairs all) d))
    (λ (u : (j ≡ length pairs) × (last ≡ first)). subst (λ (x : Pair × Pair). x.0.0 ≤ x.1.0) (λ i. (u.1 i, t.1 i)) (omega arith))
    (at_more pairs last first j e))
    (at_more pairs last second k f)

last_more : (commits : List Commit) (commit : Commit) → last_of (commits ++ commit ∷ []) ≡ Some (length commits + 1, commit)
last_more commits commit =
    let more : length (commits ++ commit ∷ []) ≡ length commits + 1 = length-append commits (commit ∷ []) in
    let at : length (commits ++ commit ∷ []) - 1 ≡ length commits = omega arith in
    rw (at, slice_get_end commits commit, more)

-- what a commit leaves of a pass that knew just its own
record KnowsOwn (view : AppView) (commits : List Commit) : Type 0 where
  pushed : view.pushed ≡ commits
  made : view.made ≡ length commits
  sole : view.sole ≡ true
  own : view.own ≡ last_of commits

knows_more : (before after : AppView) (commits : List Commit) (commit : Commit) (number : ℕ) → KnowsOwn before commits → HasCommitted before after commit number → KnowsOwn after (commits ++ commit ∷ [])
knows_more before after commits commit number knows done = record {
  pushed = pushed_is;
  made = ap (λ (v : AppView). v.made) done.others_stay ∙ ap (λ n. n + 1) knows.made ∙ sym (length-append commits (commit ∷ []));
  sole = ap (λ (v : AppView). v.sole) done.others_stay ∙ knows.sole;
  own = ap (λ (v : AppView). v.own) done.others_stay ∙ ap (λ (n : ℕ). Some (n, commit)) (sym counted ∙ ap (λ n. n + 1) knows.made) ∙ sym (last_more commits commit);
}
  where
    counted : before.made + 1 ≡ number
    counted = done.sole_made knows.sole

    none_between : done.between ≡ []
    none_between =
        let a = ap length done.pushed in
        let b = length-append (before.pushed ++ done.between) (commit ∷ []) in
        let c = length-append before.pushed done.between in
        let d = ap length knows.pushed in
        let e = knows.made in
        let f = counted in
        let g = done.number_is in
        nil_from_length done.between (omega (arith, a, b, c, d, e, f, g))

    pushed_is : after.pushed ≡ commits ++ commit ∷ []
    pushed_is = done.pushed ∙ ap (λ l. (before.pushed ++ l) ++ commit ∷ []) none_between ∙ ap (λ l. l ++ commit ∷ []) (append-nil before.pushed) ∙ ap (λ l. l ++ commit ∷ []) knows.pushed

-- ---- the run

pub nothing_taken : (late : Option ℤ) (commands : List AppCommand) (now : AppView) (captures : List Capture) (commits : List Commit)
    → (now.sole ≡ true) × (now.made ≡ 0) × (now.own ≡ None) × (now.pushed ≡ []) → (captures ≡ []) × (commits ≡ []) → IsTaking late commands 0 now captures commits
nothing_taken late commands now captures commits sole empty = record {
  taken = [];
  count_is = refl;
  paced = none_paced late commands;
  captures_are = empty.0 ∙ sym (none_captured [] commands);
  commits_are = empty.1 ∙ sym (none_committed [] commands);
  among = tt;
  seen = All-nil (IsIn now.seen);
  never_falls = λ j k first second le e f. absurd (some-ne-none first (sym e));
  pushed = sole.3 ∙ sym empty.1;
  made = sole.1 ∙ ap length (sym empty.1);
  sole = sole.0;
  own = sole.2 ∙ ap last_of (sym empty.1);
}
  where
    none_paced : (late : Option ℤ) (commands : List AppCommand) → ArePaced late commands []
    none_paced late [] = tt
    none_paced late (c ∷ cs) = tt

-- a command is taken at the moment that the pace answers, with the pair that is captured, and what it commits is committed
taken_more : (late : Option ℤ) (commands : List AppCommand) (count : ℕ) (command : AppCommand) (at : ℤ) (before between after : AppView) (captures : List Capture) (commits made : List Commit) (capture : Capture)
    → IsCommandAt commands count command → IsPaced late command.at at → (captured : HasCaptured before between capture.number capture.state capture.shown)
    → made ≡ commits_of_command commits command (record { at = at; pair = (capture.number, captured.row) })
    → after.seen ≡ between.seen → KnowsOwn after (commits ++ made)
    → IsTaking late commands count before captures commits → IsTaking late commands (count + 1) after (captures ++ capture ∷ []) (commits ++ made)
taken_more late commands count command at before between after captures commits made capture comes paced captured made_is seen knows run = record {
  taken = run.taken ++ one ∷ [];
  count_is = length-append run.taken (one ∷ []) ∙ ap (λ n. n + 1) run.count_is;
  paced = paced_more late commands run.taken command one comes_then run.paced paced;
  captures_are =
      ap (λ l. l ++ capture ∷ []) run.captures_are
      ∙ ap (λ c. commands_captures [] commands run.taken ++ c ∷ []) (is_capture before.own commits capture captured.row captured.state_is captured.shown_is run.own)
      ∙ ap (λ l. commands_captures [] commands run.taken ++ capture_of apps_taken l one.pair ∷ []) run.commits_are
      ∙ sym (captures_more [] commands run.taken command one comes_then);
  commits_are =
      ap (λ l. commits ++ l) made_is ∙ ap (λ l. l ++ commits_of_command l command one) run.commits_are
      ∙ sym (commits_more [] commands run.taken command one comes_then);
  among = subst (λ (l : List Pair). AreAmong l after.seen) (sym pairs_are)
      (subst (λ (l : List Pair). AreAmong (pairs_of run.taken ++ one.pair ∷ []) l)
      (sym (append_assoc before.seen captured.between (one.pair ∷ [])) ∙ sym seen_is)
      (among_more before.seen (captured.between ++ one.pair ∷ []) (pairs_of run.taken) (one.pair ∷ []) run.among (last_among captured.between one.pair)));
  seen = subst (λ (l : List Pair). All (IsIn after.seen) l) (sym pairs_are)
      (All-push (IsIn after.seen) (pairs_of run.taken) one.pair
      (All-weaker (IsIn before.seen) (IsIn after.seen) (λ pair known. still_in before.seen captured.between after.seen one.pair seen_is falls pair known) (pairs_of run.taken) run.seen)
      (last_in before.seen captured.between after.seen one.pair seen_is falls));
  never_falls = subst NumbersNeverFall (sym pairs_are)
      (never_fall_more (pairs_of run.taken) one.pair run.never_falls
      (All-weaker (IsIn before.seen) (λ (pair : Pair). pair.0 ≤ one.pair.0) (λ pair known. none_is_newer before.seen captured.between after.seen one.pair seen_is falls pair known) (pairs_of run.taken) run.seen));
  pushed = knows.pushed;
  made = knows.made;
  sole = knows.sole;
  own = knows.own;
}
  where
    one : Taken
    one = record { at = at; pair = (capture.number, captured.row) }

    comes_then : IsCommandAt commands (length run.taken) command
    comes_then = subst (λ (n : ℕ). IsCommandAt commands n command) (sym run.count_is) comes

    seen_is : after.seen ≡ (before.seen ++ captured.between) ++ one.pair ∷ []
    seen_is = seen ∙ captured.seen

    falls : NumbersNeverFall after.seen
    falls = subst NumbersNeverFall (sym seen) captured.never_falls

    pairs_are : pairs_of (run.taken ++ one ∷ []) ≡ pairs_of run.taken ++ one.pair ∷ []
    pairs_are = map-append (λ (t : Taken). t.pair) run.taken (one ∷ [])

knows_captured : (late : Option ℤ) (commands : List AppCommand) (count : ℕ) (before after : AppView) (captures : List Capture) (commits : List Commit) (capture : Capture)
    → IsTaking late commands count before captures commits → HasCaptured before after capture.number capture.state capture.shown → KnowsOwn after commits
knows_captured late commands count before after captures commits capture run captured = record {
  pushed = ap (λ (v : AppView). v.pushed) captured.others_stay ∙ run.pushed;
  made = ap (λ (v : AppView). v.made) captured.others_stay ∙ run.made;
  sole = ap (λ (v : AppView). v.sole) captured.others_stay ∙ run.sole;
  own = ap (λ (v : AppView). v.own) captured.others_stay ∙ run.own;
}

-- a look
pub look_taken : (late : Option ℤ) (commands : List AppCommand) (count : ℕ) (command : AppCommand) (moment at : ℤ) (before after : AppView) (captures captures_then : List Capture) (commits : List Commit) (capture : Capture)
    → is_look command.act ≡ true → moment ≡ command.at → IsPaced late moment at → HasCaptured before after capture.number capture.state capture.shown → captures_then ≡ captures ++ capture ∷ []
    → IsCommandAt commands count command → IsTaking late commands count before captures commits → IsTaking late commands (count + 1) after captures_then commits
unfolding commits_of_command
look_taken late commands count command moment at before after captures captures_then commits capture looks moment_is paced captured captures_are comes run =
    subst (λ (x : List Capture × List Commit). IsTaking late commands (count + 1) after x.0 x.1) (λ k. (sym captures_are k, append-nil commits k))
    (taken_more late commands count command at before after after captures commits [] capture comes (subst (λ (z : ℤ). IsPaced late z at) moment_is paced) captured (commits_none (is_look command.act) _ looks) refl
    (subst (λ (l : List Commit). KnowsOwn after l) (sym (append-nil commits)) (knows_captured late commands count before after captures commits capture run captured)) run)
  where
    commits_none : (b : Bool) (commit : Commit) → b ≡ true → [] ≡ (if b then [] else commit ∷ [])
    commits_none true commit e = refl
    commits_none false commit e = absurd (true≢false (sym e))

-- any other act
pub act_taken : (late : Option ℤ) (commands : List AppCommand) (count : ℕ) (command : AppCommand) (moment at at_then : ℤ) (before between after : AppView) (captures captures_then : List Capture) (commits commits_then : List Commit) (capture : Capture) (commit : Commit) (number : ℕ)
    → is_look command.act ≡ false → moment ≡ command.at → at_then ≡ at → IsPaced late moment at → HasCaptured before between capture.number capture.state capture.shown
    → commit ≡ commit_of_act command.act at_then capture → HasCommitted between after commit number → captures_then ≡ captures ++ capture ∷ [] → commits_then ≡ commits ++ commit ∷ []
    → IsCommandAt commands count command → IsTaking late commands count before captures commits → IsTaking late commands (count + 1) after captures_then commits_then
unfolding commits_of_command
act_taken late commands count command moment at at_then before between after captures captures_then commits commits_then capture commit number acts moment_is at_is paced captured commit_is committed captures_are commits_are comes run =
    subst (λ (x : List Capture × List Commit). IsTaking late commands (count + 1) after x.0 x.1) (λ k. (sym captures_are k, sym commits_are k))
    (taken_more late commands count command at before between after captures commits (commit ∷ []) capture comes (subst (λ (z : ℤ). IsPaced late z at) moment_is paced) captured
    (ap (λ c. c ∷ []) (commit_is ∙ ap (λ (z : ℤ). commit_of_act command.act z capture) at_is ∙ ap (λ c. commit_of_act command.act at c) (is_capture before.own commits capture captured.row captured.state_is captured.shown_is run.own)) ∙ commits_one (is_look command.act) _ acts)
    (ap (λ (v : AppView). v.seen) committed.others_stay)
    (knows_more between after commits commit number (knows_captured late commands count before between captures commits capture run captured) committed) run)
  where
    commits_one : (b : Bool) (one : Commit) → b ≡ false → one ∷ [] ≡ (if b then [] else one ∷ [])
    commits_one false one e = refl
    commits_one true one e = absurd (true≢false e)

-- the command at a place, from what its call promises
pub one_taken : (late late_then : Option ℤ) (commands : List AppCommand) (count : ℕ) (fallback : AppCommand) (before after : AppView) (captures captures_then : List Capture) (commits commits_then : List Commit) (all more : Bool)
    → late_then ≡ late → count < length commands → all ≡ more
    → ((cs : List AppCommand) (n : ℕ) → IsCommandAt cs n (get_or commands count fallback) → IsTaking late_then cs n before captures commits
    → IsTaking late_then cs (if all then n + 1 else n) after captures_then commits_then)
    → IsTaking late commands count before captures commits → IsTaking late commands (if more then count + 1 else count) after captures_then commits_then
one_taken late late_then commands count fallback before after captures captures_then commits commits_then all more late_is less is takes run =
    subst (λ (x : Option ℤ × Bool). IsTaking x.0 commands (if x.1 then count + 1 else count) after captures_then commits_then) (λ k. (late_is k, is k))
    (takes commands count (at_place commands count fallback less)
    (subst (λ (o : Option ℤ). IsTaking o commands count before captures commits) (sym late_is) run))

-- the run, where so many commands were taken
pub has_run : (late : Option ℤ) (commands : List AppCommand) (count : ℕ) (after : AppView) (captures : List Capture) (commits : List Commit) (all : Bool)
    → (all ≡ true → count ≡ length commands) → IsTaking late commands count after captures commits → IsScriptRun late commands after captures commits all
has_run late commands count after captures commits all all_taken run = record {
  taken = run.taken;
  all_taken = λ e. run.count_is ∙ all_taken e;
  paced = run.paced;
  captures_are = run.captures_are;
  commits_are = run.commits_are;
  seen = run.among;
  never_falls = run.never_falls;
  pushed = run.pushed;
  made = run.made;
  sole = run.sole;
}

-- ---- what a script says

-- what holds of each command of a script holds of those of the application
pub are_commands : (text : List ℕ) (mpb : ℤ) (sync : Bool) (gates : List GateValue) (apps : List AppCommand) (blocks : List BlockCommand)
    → IsLiveText text mpb sync gates apps blocks → All (λ (command : AppCommand). IsCommand (app command)) apps
are_commands text mpb sync gates apps blocks told =
    subst (λ (l : List AppCommand). All (λ (command : AppCommand). IsCommand (app command)) l) told.apps_are
    (All-from_recursion (λ (command : AppCommand). IsCommand (app command)) (apps_in told.commands) (those told.commands (recursion_from_All IsCommand told.commands told.script.each)))
  where
    those : (commands : List Command) → AllByRecursion IsCommand commands → AllByRecursion (λ (command : AppCommand). IsCommand (app command)) (apps_in commands)
    those [] all = tt
    those (app command ∷ commands) all = (all.0, those commands all.1)
    those (block command ∷ commands) all = those commands all.1

-- and so of those of the audio thread
pub are_block_commands : (text : List ℕ) (mpb : ℤ) (sync : Bool) (gates : List GateValue) (apps : List AppCommand) (blocks : List BlockCommand)
    → IsLiveText text mpb sync gates apps blocks → All (λ (command : BlockCommand). IsCommand (block command)) blocks
are_block_commands text mpb sync gates apps blocks told =
    subst (λ (l : List BlockCommand). All (λ (command : BlockCommand). IsCommand (block command)) l) told.blocks_are
    (All-from_recursion (λ (command : BlockCommand). IsCommand (block command)) (blocks_in told.commands) (those told.commands (recursion_from_All IsCommand told.commands told.script.each)))
  where
    those : (commands : List Command) → AllByRecursion IsCommand commands → AllByRecursion (λ (command : BlockCommand). IsCommand (block command)) (blocks_in commands)
    those [] all = tt
    those (app command ∷ commands) all = those commands all.1
    those (block command ∷ commands) all = (all.0, those commands all.1)
