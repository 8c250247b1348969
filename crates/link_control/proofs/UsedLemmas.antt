-- What a pass did, with one capture or one commit more.
use Rattle.std.proofs.Common.{◌≡◌, refl, sym, ◌∙◌, ap, subst, arith, ℕ, ◌+◌, ◌-◌, true, List, [], ◌∷◌, ◌++◌, length, map, All, Option, Some, None, append_assoc, append-nil, length-append}
use Rattle.std.proofs.lemmas.List.{length-map, map-append, nil_from_length}
use Rattle.std.proofs.lemmas.List.Elements.{All-nil, All-push, All-weaker}
use mathlib.Core.Option.{some, some-ne-none}
use lib.ListN.{get_elem?}
use Rattle.audio_handoff.specs.Cell.{Pair}
use Rattle.client_state.specs.declared.commit.Commit.{Commit}
use Rattle.client_state.specs.declared.state.State.{State}
use Rattle.link_shared.specs.Passes.{AppView, HasCaptured, HasCommitted}
use Rattle.link_control.specs.Log.{AreCounted, Numbered, own_after, put_before}
use Rattle.link_live.specs.ScriptRun.{AreAmong}
use Rattle.link_control.specs.Serving.{HasUsed, StandsIn}
use Rattle.link_control.specs.ServingNow.{HasMade}
use Rattle.link_live.proofs.AmongLemmas.{among_behind, among_more, last_among}
use Rattle.link_control.proofs.AmongLemmas.{at_end, at_longer, counted_more, never_fall_among}

pub nothing_used : (pass : AppView) → HasUsed pass pass [] []
nothing_used pass = record {
  grown = [];
  seen = sym (append-nil pass.seen);
  among = tt;
  never_falls = λ j k first second le e f. absurd (some-ne-none first (sym e));
  not_older = λ some_pair. absurd (omega (arith, some_pair));
  pushed = ([], sym (append-nil pass.pushed));
  stand = All-nil (StandsIn pass.pushed);
  made = omega arith;
  room = refl;
  sole = refl;
  alone = λ sole made. (sym (append-nil pass.pushed), tt);
}

-- ---- a capture

pub used_captured : (before now after : AppView) (pairs : List Pair) (commits : List Numbered) (number : ℕ) (state shown : State)
    → HasUsed before now pairs commits → (captured : HasCaptured now after number state shown)
    → HasUsed before after (pairs ++ (number, captured.row) ∷ []) commits
used_captured before now after pairs commits number state shown used captured =
    subst (λ (v : AppView). HasUsed before v (pairs ++ (number, captured.row) ∷ []) commits) (sym captured.others_stay)
    (record {
      grown = used.grown ++ (captured.between ++ (number, captured.row) ∷ []);
      seen = seen_is;
      among = among_then;
      never_falls = never_fall_among after.seen (pairs ++ (number, captured.row) ∷ []) captured.never_falls
          (subst (λ (l : List Pair). AreAmong (pairs ++ (number, captured.row) ∷ []) l) (sym seen_is)
          (among_behind before.seen (used.grown ++ (captured.between ++ (number, captured.row) ∷ [])) (pairs ++ (number, captured.row) ∷ []) among_then));
      not_older = λ some_pair. captured.never_falls;
      pushed = used.pushed;
      stand = used.stand;
      made = used.made;
      room = used.room;
      sole = used.sole;
      alone = used.alone;
    })
  where
    seen_is : after.seen ≡ before.seen ++ (used.grown ++ (captured.between ++ (number, captured.row) ∷ []))
    seen_is =
        captured.seen
        ∙ ap (λ (l : List Pair). (l ++ captured.between) ++ (number, captured.row) ∷ []) used.seen
        ∙ append_assoc (before.seen ++ used.grown) captured.between ((number, captured.row) ∷ [])
        ∙ append_assoc before.seen used.grown (captured.between ++ (number, captured.row) ∷ [])

    among_then : AreAmong (pairs ++ (number, captured.row) ∷ []) (used.grown ++ (captured.between ++ (number, captured.row) ∷ []))
    among_then =
        among_more used.grown (captured.between ++ (number, captured.row) ∷ []) pairs ((number, captured.row) ∷ []) used.among
        (last_among captured.between (number, captured.row))

-- ---- a commit

stands_longer : (pushed more : List Commit) (commit : Numbered) → StandsIn pushed commit → StandsIn (pushed ++ more) commit
stands_longer pushed more commit stands = (stands.0, at_longer pushed more (commit.0 - 1) commit.1 stands.1)

module _ (before now after : AppView) (pairs : List Pair) (commits : List Numbered) (commit : Commit) (number : ℕ) (used : HasUsed before now pairs commits) (done : HasCommitted now after commit number) where
  behind_now : after.pushed ≡ now.pushed ++ (done.between ++ commit ∷ [])
  behind_now = done.pushed ∙ append_assoc now.pushed done.between (commit ∷ [])

  behind_before : after.pushed ≡ before.pushed ++ (used.pushed.0 ++ (done.between ++ commit ∷ []))
  behind_before =
      behind_now
      ∙ ap (λ (l : List Commit). l ++ (done.between ++ commit ∷ [])) used.pushed.1
      ∙ append_assoc before.pushed used.pushed.0 (done.between ++ commit ∷ [])

  pushed_length : length after.pushed ≡ length (now.pushed ++ done.between) + 1
  pushed_length = ap length done.pushed ∙ length-append (now.pushed ++ done.between) (commit ∷ [])

  last_stands : StandsIn after.pushed (number, commit)
  last_stands =
      let place : number - 1 ≡ length (now.pushed ++ done.between) = omega (arith, done.number_is, pushed_length) in (
        omega (arith, done.number_is, pushed_length),
        subst (λ (n : ℕ). get_elem? after.pushed n ≡ some commit) (sym place)
            (subst (λ (l : List Commit). get_elem? l (length (now.pushed ++ done.between)) ≡ some commit) (sym done.pushed) (at_end (now.pushed ++ done.between) commit)),
      )

  all_stand : All (StandsIn after.pushed) (commits ++ (number, commit) ∷ [])
  all_stand =
      All-push (StandsIn after.pushed) commits (number, commit)
      (All-weaker (StandsIn now.pushed) (StandsIn after.pushed)
      (λ one stands. subst (λ (l : List Commit). StandsIn l one) (sym behind_now) (stands_longer now.pushed (done.between ++ commit ∷ []) one stands)) commits used.stand)
      last_stands

  made_is : now.made + 1 ≡ before.made + length (commits ++ (number, commit) ∷ [])
  made_is = omega (arith, used.made, length-append commits ((number, commit) ∷ []))

  -- the only pass, whose commits were all that were pushed, pushed just this one more

  counted : before.sole ≡ true → now.made + 1 ≡ number
  counted sole = done.sole_made (used.sole ∙ sole)

  none_between : before.sole ≡ true → before.made ≡ length before.pushed → done.between ≡ []
  none_between sole all_made =
      let known = used.alone sole all_made in
      let now_length : length now.pushed ≡ length before.pushed + length commits
      = ap length known.0 ∙ length-append before.pushed (map (λ (c : Numbered). c.1) commits)
      ∙ ap (λ (n : ℕ). length before.pushed + n) (length-map commits (λ (c : Numbered). c.1)) in
      nil_from_length done.between
      (omega (arith, pushed_length, length-append now.pushed done.between, now_length, used.made, all_made, counted sole, done.number_is))

  pushed_alone : before.sole ≡ true → before.made ≡ length before.pushed
      → after.pushed ≡ before.pushed ++ map (λ (c : Numbered). c.1) (commits ++ (number, commit) ∷ [])
  pushed_alone sole all_made =
      done.pushed
      ∙ ap (λ (l : List Commit). (now.pushed ++ l) ++ commit ∷ []) (none_between sole all_made)
      ∙ ap (λ (l : List Commit). l ++ commit ∷ []) (append-nil now.pushed)
      ∙ ap (λ (l : List Commit). l ++ commit ∷ []) (used.alone sole all_made).0
      ∙ append_assoc before.pushed (map (λ (c : Numbered). c.1) commits) (commit ∷ [])
      ∙ ap (λ (l : List Commit). before.pushed ++ l) (sym (map-append (λ (c : Numbered). c.1) commits ((number, commit) ∷ [])))

  counted_alone : before.sole ≡ true → before.made ≡ length before.pushed → AreCounted before.made (commits ++ (number, commit) ∷ [])
  counted_alone sole all_made =
      counted_more before.made commits (number, commit) (used.alone sole all_made).1 (omega (arith, counted sole, used.made))

pub used_committed : (before now after : AppView) (pairs : List Pair) (commits : List Numbered) (commit : Commit) (number : ℕ)
    → HasUsed before now pairs commits → HasCommitted now after commit number → HasUsed before after pairs (commits ++ (number, commit) ∷ [])
used_committed before now after pairs commits commit number used done =
    subst (λ (v : AppView). HasUsed before v pairs (commits ++ (number, commit) ∷ [])) (sym done.others_stay)
    (record {
      grown = used.grown;
      seen = used.seen;
      among = used.among;
      never_falls = used.never_falls;
      not_older = used.not_older;
      pushed = (used.pushed.0 ++ (done.between ++ commit ∷ []), behind_before before now after pairs commits commit number used done);
      stand = all_stand before now after pairs commits commit number used done;
      made = made_is before now after pairs commits commit number used done;
      room = used.room;
      sole = used.sole;
      alone = λ sole made. (
        pushed_alone before now after pairs commits commit number used done sole made,
        counted_alone before now after pairs commits commit number used done sole made,
      );
    })

-- ---- a commit, or none

pub used_made : (before now after : AppView) (pairs : List Pair) (commits : List Numbered) (commit : Option Numbered)
    → HasUsed before now pairs commits → HasMade now after commit → HasUsed before after pairs (commits ++ put_before commit [])
used_made before now after pairs commits None used made =
    subst (λ (v : AppView). HasUsed before v pairs (commits ++ [])) (sym made)
    (subst (λ (l : List Numbered). HasUsed before now pairs l) (sym (append-nil commits)) used)
used_made before now after pairs commits (Some commit) used made = used_committed before now after pairs commits commit.1 commit.0 used made

-- the pass's own last commit after a capture, and a commit or none
pub own_made : (before now after : AppView) (number : ℕ) (state shown : State) (commit : Option Numbered)
    → HasCaptured before now number state shown → HasMade now after commit → after.own ≡ own_after before.own commit
own_made before now after number state shown None captured made =
    ap (λ (v : AppView). v.own) made ∙ ap (λ (v : AppView). v.own) captured.others_stay
own_made before now after number state shown (Some commit) captured made = ap (λ (v : AppView). v.own) made.others_stay
