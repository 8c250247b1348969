-- What was captured and committed for a client, once its node has ended: the report tells just what the log does.
use Rattle.std.proofs.Common.{◌≡◌, ℕ, suc, ◌+◌, ◌≤◌, ℤ, ⊎_elim, Bool, true, List, [], ◌∷◌, length, map, Option, Some, None, refl, sym, ap, subst, ◌∙◌, arith}
use Rattle.std.specs.List.{AllByRecursion}
use Rattle.std.proofs.lemmas.List.{length-map}
use Rattle.audio_handoff.specs.Cell.{Grows, Pair}
use Rattle.client_state.specs.declared.commit.Commit.{Commit}
use Rattle.client_state.specs.declared.state.State.{State}
use Rattle.lk_base.specs.declared.endpoint.Endpoint.{Endpoint}
use Rattle.lk_outside.specs.Faults.{Rose}
use Rattle.lk_outside.specs.Talk.{TalkSeen}
use Rattle.link_node.specs.Event.{EventValue}
use Rattle.link_shared.specs.Audio.{AudioView}
use Rattle.link_shared.specs.Journal.{app_commits_in}
use Rattle.link_shared.specs.Passes.{AppView}
use Rattle.link_shared.specs.declared.capture.Capture.{Capture}
use Rattle.link_live.specs.Headline.{ArePublished}
use Rattle.link_live.specs.NodeRun.{FitsJournal, new_app}
use Rattle.link_live.specs.Report.{ReportValue}
use Rattle.link_live.specs.TakingRun.{IsIn}
use Rattle.link_live.proofs.AmongLemmas.{among_in}
use Rattle.link_live.proofs.AppLemmas.{AreOf, all_pushed, captures_published}
use Rattle.link_control.specs.ControlRun.{ControlSetup, IsClientPart, IsTalked}
use Rattle.link_control.specs.Log.{Answered, AreCounted, Numbered, captured_over, captures_in, commits_in, entries_of, entry_of, own_after}
use Rattle.link_control.specs.Serving.{HasServed, pairs_in}
use Rattle.link_control.specs.declared.log.LineLog.{LineLog}
use Rattle.link_control.specs.declared.server.Served.{Served}
use Rattle.link_control.specs.declared.server.Served.TheVariants as served

-- ---- what is logged

entries_length : (own : Option Numbered) (answered : List Answered) → length (entries_of own answered) ≡ length answered
unfolding entries_of
entries_length own [] = refl
entries_length own (one ∷ answered) = ap suc (entries_length (own_after own (entry_of own one).commit) answered)

-- each capture is of its line's pair
entries_each : (own : Option Numbered) (answered : List Answered) → AreOf (captures_in (entries_of own answered)) (pairs_in answered)
unfolding entries_of entry_of captured_over
entries_each own [] = tt
entries_each own (one ∷ answered) = (refl, refl, entries_each (own_after own (entry_of own one).commit) answered)

few_entries : (late : Option ℤ) (before after : TalkSeen) (first pass : AppView) (log : List LineLog) (how : Served) → HasServed late before after first pass log how → length log ≤ 4_096
few_entries late before after first pass log how was =
    subst (λ (l : List LineLog). length l ≤ 4_096) (sym was.log_is) (subst (λ (n : ℕ). n ≤ 4_096) (sym (entries_length first.own was.answered)) was.few)

pub few_logged : (at : Endpoint) (late : Option ℤ) (before after : TalkSeen) (pass : AppView) (log : List LineLog) (how : Served) → IsTalked at late before after pass log how → length log ≤ 4_096
few_logged at late before after pass log how talked =
    ⊎_elim
    (λ (was : HasServed late (record before { opened = Some at }) after new_app pass log how). few_entries late (record before { opened = Some at }) after new_app pass log how was)
    (λ (none : (how ≡ served.Failed) × Rose before.faults after.faults × (after ≡ record before { faults = after.faults }) × (log ≡ []) × (pass ≡ new_app)).
    subst (λ (l : List LineLog). length l ≤ 4_096) (sym none.3) (omega arith))
    talked

-- ---- what the pass knows

-- the commits that are logged
abbrev pub made_in : List LineLog → List Commit
made_in log = map (λ commit. commit.1) (commits_in log)

-- the only pass, where this is logged of what it did
pub record KnowsLogged (pass : AppView) (log : List LineLog) : Type 0 where
  pub pairs : List Pair
  pub each : AllByRecursion (IsIn pass.seen) pairs
  pub captured : AreOf (captures_in log) pairs
  pub pushed : pass.pushed ≡ made_in log
  pub made : pass.made ≡ length (made_in log)
  pub sole : pass.sole ≡ true
  pub counted : AreCounted 0 (commits_in log)

knows_served : (late : Option ℤ) (before after : TalkSeen) (pass : AppView) (log : List LineLog) (how : Served) → HasServed late before after new_app pass log how → KnowsLogged pass log
knows_served late before after pass log how was = record {
  pairs = pairs_in was.answered;
  each = subst (λ (l : List Pair). AllByRecursion (IsIn l) (pairs_in was.answered)) (sym was.used.seen) (among_in was.used.grown (pairs_in was.answered) was.used.among);
  captured = subst (λ (l : List LineLog). AreOf (captures_in l) (pairs_in was.answered)) (sym was.log_is) (entries_each None was.answered);
  pushed = (was.used.alone refl refl).0;
  made = from_none pass.made (length (commits_in log)) was.used.made ∙ sym (length-map (commits_in log) (λ (commit : Numbered). commit.1));
  sole = was.used.sole;
  counted = (was.used.alone refl refl).1;
}
  where
    from_none : (a b : ℕ) → a ≡ 0 + b → a ≡ b
    from_none a b is = omega (arith, is)

knows_nothing : KnowsLogged new_app []
knows_nothing = record { pairs = []; each = tt; captured = tt; pushed = refl; made = refl; sole = refl; counted = tt }

knows_logged : (at : Endpoint) (late : Option ℤ) (before after : TalkSeen) (pass : AppView) (log : List LineLog) (how : Served) → IsTalked at late before after pass log how → KnowsLogged pass log
knows_logged at late before after pass log how talked =
    ⊎_elim
    (λ (was : HasServed late (record before { opened = Some at }) after new_app pass log how). knows_served late (record before { opened = Some at }) after pass log how was)
    (λ (none : (how ≡ served.Failed) × Rose before.faults after.faults × (after ≡ record before { faults = after.faults }) × (log ≡ []) × (pass ≡ new_app)).
    subst (λ (x : AppView × List LineLog). KnowsLogged x.0 x.1) (λ i. (sym none.4 i, sym none.3 i)) knows_nothing)
    talked

-- ---- once the node has ended

pub is_client_part : (app : AppView) (audio : AudioView) (events : List EventValue) (published : List State) (full : Bool) (setup : ControlSetup) (late : Option ℤ) (how : Served) (before after : TalkSeen) (report : ReportValue) (log : List LineLog)
    → FitsJournal full audio app events published → IsTalked setup.at late before after app log how
    → report.captures ≡ captures_in log → report.app_commits ≡ made_in log
    → IsClientPart setup late how full before after (record report { events = events; published = published }) log
is_client_part app audio events published full setup late how before after report log fits talked captures_are commits_are = record {
  pass = app;
  talked = talked;
  captures = captures_are;
  commits = commits_are;
  counted = knows.counted;
  published = subst (λ (l : List Capture). ArePublished published l) (sym captures_are) (captures_published published app.seen (captures_in log) knows.pairs fits.heard.seen knows.each knows.captured);
  begin = subst (λ (l : List Commit). Grows (app_commits_in events) l) (sym pushed_are) fits.app_begin;
  all = λ room. fits.app_commits room ∙ sym pushed_are;
}
  where
    knows : KnowsLogged app log
    knows = knows_logged setup.at late before after app log how talked

    pushed_are : report.app_commits ≡ fits.pushed
    pushed_are = commits_are ∙ all_pushed published fits.pushed (made_in log) app fits.heard knows.sole knows.made knows.pushed
