-- The commits of a block's commands, one after another.
use Rattle.std.proofs.Common.{◌≡◌, ℕ, suc, ◌+◌, ◌-◌, ◌≤◌, ◌<◌, ℤ, nat_eq, false, List, [], ◌∷◌, ◌++◌, length, map, take, drop, get_or, inl, inr, Option, Some, slice_get, refl, sym, ap, subst, ◌∙◌, append_assoc, append-nil, length-append, arith}
use Rattle.std.proofs.lemmas.List.{map-append, take_more, take_all, drop_more, take-append-drop}
use Rattle.std.proofs.lemmas.Bool.{eq-eqb}
use Rattle.std.proofs.lemmas.Bool.Decides.{eqb_tells}
use Rattle.std.proofs.lemmas.List.Elements.{filter-append}
use Rattle.std.specs.Prelude.{filter}
use Rattle.client_state.specs.Commit.{commit_between}
use Rattle.client_state.specs.Shown.{shown_over}
use Rattle.client_state.specs.declared.commit.Commit.{Commit}
use Rattle.client_state.specs.declared.state.State.{State}
use Rattle.client_state.specs.Words.{state_of_words}
use Rattle.audio_handoff.specs.Cell.{Pair}
use Rattle.link_shared.specs.Audio.{AudioView, last_of}
use Rattle.link_shared.specs.declared.capture.Capture.{Capture}
use Rattle.link_script.specs.declared.live_script.Act.{Act}
use Rattle.link_script.specs.declared.live_script.BlockCommand.{BlockCommand}
use Rattle.link_live.specs.AudioRun.{acts_in, act_commits}
use Rattle.link_live.specs.Clients.{capture_of, commit_of_act, audio_taken, edited_of}
use Rattle.link_live.specs.PlayingRun.{HasCommitted, IsShownWith, commits_on, one_commit, commands_before, shown_with}

-- ---- what is to be done in a block

pub acts-append : (number : ℕ) (xs ys : List BlockCommand) → acts_in number (xs ++ ys) ≡ acts_in number xs ++ acts_in number ys
unfolding acts_in
acts-append number xs ys =
    ap (map (λ (command : BlockCommand). command.act)) (filter-append (λ (command : BlockCommand). nat_eq command.block number) xs ys)
    ∙ map-append (λ (command : BlockCommand). command.act) (filter (λ (command : BlockCommand). nat_eq command.block number) xs) (filter (λ (command : BlockCommand). nat_eq command.block number) ys)

pub one_act : (number : ℕ) (command : BlockCommand) → command.block ≡ number → acts_in number (command ∷ []) ≡ command.act ∷ []
unfolding acts_in
one_act number command is = rw (eq-eqb command.block number is) refl

not_equal : (a b : ℕ) → (a ≡ b → ⊥) → nat_eq a b ≡ false
not_equal a b isnt = elim (eqb_tells a b) [ inl is ↦ absurd (isnt is.1) | inr is ↦ is.0 ]

pub no_act : (number : ℕ) (command : BlockCommand) → (command.block ≡ number → ⊥) → acts_in number (command ∷ []) ≡ []
unfolding acts_in
no_act number command isnt = rw (not_equal command.block number isnt) refl

pub no_acts : (number : ℕ) → acts_in number [] ≡ []
unfolding acts_in
no_acts number = refl

-- the acts of the first commands, and that of the next one, are among them all
pub acts_fit : (number : ℕ) (commands : List BlockCommand) (n : ℕ) (d : BlockCommand) → n < length commands
    → length (acts_in number (take n commands)) + length (acts_in number (get_or commands n d ∷ [])) ≤ length (acts_in number commands)
acts_fit number commands n d less =
    let front = acts-append number (take n commands) (drop n commands) in
    let back = acts-append number (get_or commands n d ∷ []) (drop (n + 1) commands) in
    let all : length (acts_in number commands) ≡ length (acts_in number (take n commands)) + length (acts_in number (drop n commands)) =
    ap (λ (l : List BlockCommand). length (acts_in number l)) (sym (take-append-drop n commands)) ∙ ap length front ∙ length-append (acts_in number (take n commands)) (acts_in number (drop n commands)) in
    let two : length (acts_in number (drop n commands)) ≡ length (acts_in number (get_or commands n d ∷ [])) + length (acts_in number (drop (n + 1) commands)) =
    ap (λ (l : List BlockCommand). length (acts_in number l)) (drop_more commands n d less) ∙ ap length back ∙ length-append (acts_in number (get_or commands n d ∷ [])) (acts_in number (drop (n + 1) commands)) in
    omega arith

-- ---- their commits

pub commits_on-append : (start : ℤ) (state : State) (made : List Commit) (xs ys : List Act)
    → commits_on start state made (xs ++ ys) ≡ commits_on start state made xs ++ commits_on start state (made ++ commits_on start state made xs) ys
unfolding commits_on
commits_on-append start state made [] ys = ap (λ (l : List Commit). commits_on start state l ys) (sym (append-nil made))
commits_on-append start state made (act ∷ xs) ys =
    let commit = one_commit start state made act in
    ap (λ (l : List Commit). commit ∷ l) (commits_on-append start state (made ++ commit ∷ []) xs ys
    ∙ ap (λ (l : List Commit). commits_on start state (made ++ commit ∷ []) xs ++ commits_on start state l ys) (append_assoc made (commit ∷ []) (commits_on start state (made ++ commit ∷ []) xs)))

pub length-commits_on : (start : ℤ) (state : State) (made : List Commit) (acts : List Act) → length (commits_on start state made acts) ≡ length acts
unfolding commits_on
length-commits_on start state made [] = refl
length-commits_on start state made (act ∷ acts) = ap suc (length-commits_on start state (made ++ one_commit start state made act ∷ []) acts)

pub no_commits : (start : ℤ) (state : State) (made : List Commit) → commits_on start state made [] ≡ []
unfolding commits_on
no_commits start state made = refl

pub one_commit_on : (start : ℤ) (state : State) (made : List Commit) (act : Act) → commits_on start state made (act ∷ []) ≡ one_commit start state made act ∷ []
unfolding commits_on
one_commit_on start state made act = refl

-- they are those of the pair that was captured
pub commits_of_pair : (start : ℤ) (pair : Pair) (made : List Commit) (acts : List Act) → act_commits start pair made acts ≡ commits_on start (state_of_words pair.1) made acts
unfolding act_commits commits_on one_commit commit_of_act capture_of
commits_of_pair start pair made [] = refl
commits_of_pair start pair made (act ∷ acts) =
    ap (λ (l : List Commit). commit_of_act act start (capture_of audio_taken made pair) ∷ l)
    (commits_of_pair start pair (made ++ commit_of_act act start (capture_of audio_taken made pair) ∷ []) acts)

-- ---- the loop over the commands

pub committed_none : (start : ℤ) (number : ℕ) (state : State) (view : AudioView) (commits : List Commit) → HasCommitted start number [] state view view commits commits
committed_none start number state view commits = record {
  seen = refl;
  looks = refl;
  made_are = sym (ap (λ (l : List Commit). view.made ++ l) none ∙ append-nil view.made);
  commits_are = sym (ap (λ (l : List Commit). commits ++ l) none ∙ append-nil commits);
}
  where
    none : commits_on start state view.made (acts_in number []) ≡ []
    none = ap (commits_on start state view.made) (no_acts number) ∙ no_commits start state view.made

-- a command of another block
pub committed_other : (start : ℤ) (number : ℕ) (command : BlockCommand) (state : State) (view : AudioView) (commits : List Commit) → (command.block ≡ number → ⊥)
    → HasCommitted start number (command ∷ []) state view view commits commits
committed_other start number command state view commits isnt = record {
  seen = refl;
  looks = refl;
  made_are = sym (ap (λ (l : List Commit). view.made ++ l) none ∙ append-nil view.made);
  commits_are = sym (ap (λ (l : List Commit). commits ++ l) none ∙ append-nil commits);
}
  where
    none : commits_on start state view.made (acts_in number (command ∷ [])) ≡ []
    none = ap (commits_on start state view.made) (no_act number command isnt) ∙ no_commits start state view.made

-- a command of this block
pub committed_one : (start : ℤ) (number : ℕ) (command : BlockCommand) (state : State) (before after : AudioView) (commits commits_then : List Commit) (commit : Commit)
    → command.block ≡ number → commit ≡ one_commit start state before.made command.act
    → after ≡ record before { made = before.made ++ commit ∷ [] } → commits_then ≡ commits ++ commit ∷ []
    → HasCommitted start number (command ∷ []) state before after commits commits_then
committed_one start number command state before after commits commits_then commit is commit_is after_is then_is = record {
  seen = ap (λ (v : AudioView). v.seen) after_is;
  looks = ap (λ (v : AudioView). v.looks) after_is;
  made_are = ap (λ (v : AudioView). v.made) after_is ∙ ap (λ (l : List Commit). before.made ++ l) (sym one);
  commits_are = then_is ∙ ap (λ (l : List Commit). commits ++ l) (sym one);
}
  where
    one : commits_on start state before.made (acts_in number (command ∷ [])) ≡ commit ∷ []
    one = ap (commits_on start state before.made) (one_act number command is) ∙ one_commit_on start state before.made command.act ∙ ap (λ (c : Commit). c ∷ []) (sym commit_is)

pub committed_then : (start : ℤ) (number : ℕ) (xs ys : List BlockCommand) (state : State) (before between after : AudioView) (commits commits_between commits_then : List Commit)
    → HasCommitted start number xs state before between commits commits_between → HasCommitted start number ys state between after commits_between commits_then
    → HasCommitted start number (xs ++ ys) state before after commits commits_then
committed_then start number xs ys state before between after commits commits_between commits_then one two = record {
  seen = two.seen ∙ one.seen;
  looks = two.looks ∙ one.looks;
  made_are = two.made_are ∙ ap (λ (l : List Commit). l ++ later between.made) one.made_are ∙ append_assoc before.made first (later between.made) ∙ ap (λ (l : List Commit). before.made ++ l) (sym both);
  commits_are = two.commits_are ∙ ap (λ (l : List Commit). l ++ later between.made) one.commits_are ∙ append_assoc commits first (later between.made) ∙ ap (λ (l : List Commit). commits ++ l) (sym both);
}
  where
    first : List Commit
    first = commits_on start state before.made (acts_in number xs)

    later : List Commit → List Commit
    later made = commits_on start state made (acts_in number ys)

    both : commits_on start state before.made (acts_in number (xs ++ ys)) ≡ commits_on start state before.made (acts_in number xs) ++ commits_on start state between.made (acts_in number ys)
    both = ap (commits_on start state before.made) (acts-append number xs ys) ∙ commits_on-append start state before.made (acts_in number xs) (acts_in number ys)
        ∙ ap (λ (l : List Commit). commits_on start state before.made (acts_in number xs) ++ commits_on start state l (acts_in number ys)) (sym one.made_are)

-- one command more of a list
pub committed_more : (start : ℤ) (number : ℕ) (commands : List BlockCommand) (n : ℕ) (d : BlockCommand) (state state_then : State) (before between after : AudioView) (commits commits_between commits_then : List Commit)
    → n < length commands → state_then ≡ state → HasCommitted start number (take n commands) state before between commits commits_between
    → HasCommitted start number (get_or commands n d ∷ []) state_then between after commits_between commits_then → HasCommitted start number (take (n + 1) commands) state before after commits commits_then
committed_more start number commands n d state state_then before between after commits commits_between commits_then less stays one two =
    subst (λ (l : List BlockCommand). HasCommitted start number l state before after commits commits_then) (sym (take_more commands n d less))
    (committed_then start number (take n commands) (get_or commands n d ∷ []) state before between after commits commits_between commits_then one
    (subst (λ (s : State). HasCommitted start number (get_or commands n d ∷ []) s between after commits_between commits_then) stays two))

-- all of a list; the moment is told as it is stored
pub committed_all : (start start_stored : ℤ) (number : ℕ) (commands : List BlockCommand) (n : ℕ) (state : State) (before after : AudioView) (commits commits_then : List Commit)
    → start_stored ≡ start → length commands ≤ n
    → HasCommitted start_stored number (take n commands) state before after commits commits_then → HasCommitted start number commands state before after commits commits_then
committed_all start start_stored number commands n state before after commits commits_then start_is past h =
    subst (λ (at : ℤ). HasCommitted at number commands state before after commits commits_then) start_is
    (subst (λ (l : List BlockCommand). HasCommitted start_stored number l state before after commits commits_then) (take_all n commands past) h)

-- how many were made
pub made_by : (start : ℤ) (number : ℕ) (commands : List BlockCommand) (state : State) (before after : AudioView) (commits commits_then : List Commit) → HasCommitted start number commands state before after commits commits_then
    → (length after.made ≡ length before.made + length (acts_in number commands)) × (length commits_then ≡ length commits + length (acts_in number commands))
made_by start number commands state before after commits commits_then h =
    let count = length-commits_on start state before.made (acts_in number commands) in (
      ap length h.made_are ∙ length-append before.made (commits_on start state before.made (acts_in number commands)) ∙ ap (λ n. length before.made + n) count,
      ap length h.commits_are ∙ length-append commits (commits_on start state before.made (acts_in number commands)) ∙ ap (λ n. length commits + n) count,
    )

-- ---- how many there are before a block

-- those of a block are told apart from those before it
pub before-next : (number : ℕ) (commands : List BlockCommand) → length (commands_before (number + 1) commands) ≡ length (commands_before number commands) + length (acts_in number commands)
unfolding acts_in
before-next number [] = refl
before-next number (command ∷ commands) = grind (arith, before-next number commands)

pub few_before : (number : ℕ) (commands : List BlockCommand) → length (commands_before number commands) ≤ length commands
few_before number [] = omega arith
few_before number (command ∷ commands) = grind (arith, few_before number commands)

-- ---- room

pub room_for_one : (number : ℕ) (command : BlockCommand) (n most : ℕ) → command.block ≡ number → n + length (acts_in number (command ∷ [])) ≤ most → n + 1 ≤ most
room_for_one number command n most is fits = let one = ap length (one_act number command is) in omega (arith, one, fits)

-- what is left for a command, where there is room for all
pub room_at : (start : ℤ) (number : ℕ) (commands : List BlockCommand) (n : ℕ) (d : BlockCommand) (state : State) (before after : AudioView) (commits commits_then : List Commit)
    → n < length commands → HasCommitted start number (take n commands) state before after commits commits_then
    → (length after.made + length (acts_in number (get_or commands n d ∷ [])) ≤ length before.made + length (acts_in number commands))
    × (length commits_then + length (acts_in number (get_or commands n d ∷ [])) ≤ length commits + length (acts_in number commands))
room_at start number commands n d state before after commits commits_then less h =
    let made = made_by start number (take n commands) state before after commits commits_then h in
    let fit = acts_fit number commands n d less in (omega (arith, made.0, fit), omega (arith, made.1, fit))

-- ---- what is shown once a commit was made

at_end : (commits : List Commit) (commit : Commit) → slice_get (commits ++ commit ∷ []) (length commits) ≡ Some commit
at_end [] commit = refl
at_end (c ∷ cs) commit = at_end cs commit

last_pushed : (commits : List Commit) (commit : Commit) → last_of (commits ++ commit ∷ []) ≡ Some (length (commits ++ commit ∷ []), commit)
last_pushed commits commit =
    let more : length (commits ++ commit ∷ []) ≡ length commits + 1 = length-append commits (commit ∷ []) in
    let at : length (commits ++ commit ∷ []) - 1 ≡ length commits = omega arith in
    rw (at, at_end commits commit) refl

pub shown_then : (state shown : State) (before after : AudioView) (commit : Commit) (number : ℕ) → after ≡ record before { made = before.made ++ commit ∷ [] } → number ≡ length after.made
    → shown ≡ shown_over (Some (number, commit)) state.audio state → shown ≡ shown_with state after.made
shown_then state shown before after commit number after_is number_is is =
    is ∙ ap (λ (o : Option (ℕ × Commit)). shown_over o state.audio state) (ap (λ (n : ℕ). Some (n, commit)) (number_is ∙ ap length made_is) ∙ sym (last_pushed before.made commit) ∙ ap last_of (sym made_is))
  where
    made_is : after.made ≡ before.made ++ commit ∷ []
    made_is = ap (λ (v : AudioView). v.made) after_is

pub commit_is : (start start_stored : ℤ) (capture : Capture) (made : List Commit) (act : Act) → start_stored ≡ start → IsShownWith capture made
    → commit_of_act act start_stored capture ≡ one_commit start capture.state made act
unfolding commit_of_act one_commit
commit_is start start_stored capture made act start_is shown =
    ap (λ (at : ℤ). commit_of_act act at capture) start_is
    ∙ ap (λ (s : State). commit_between capture.state s (edited_of act start s) start) shown
