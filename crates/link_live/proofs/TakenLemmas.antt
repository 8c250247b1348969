-- What a script's application captured and committed, once its node has ended.
use Rattle.std.proofs.Common.{◌≡◌, ℤ, Bool, List, [], ◌∷◌, ◌++◌, Option, refl, sym, subst, ◌∙◌}
use Rattle.audio_handoff.specs.Cell.{Grows}
use Rattle.client_state.specs.declared.commit.Commit.{Commit}
use Rattle.client_state.specs.declared.state.State.{State}
use Rattle.link_node.specs.Event.{EventValue}
use Rattle.link_shared.specs.Audio.{AudioView}
use Rattle.link_shared.specs.Journal.{app_commits_in}
use Rattle.link_shared.specs.Passes.{AppView}
use Rattle.link_shared.specs.declared.capture.Capture.{Capture}
use Rattle.link_script.specs.declared.live_script.AppCommand.{AppCommand}
use Rattle.link_live.specs.Clients.{capture_of}
use Rattle.link_live.specs.Headline.{ArePublished, IsScriptPart, LiveSetup}
use Rattle.link_live.specs.NodeRun.{FitsJournal}
use Rattle.link_live.specs.Report.{ReportValue}
use Rattle.link_live.specs.ScriptRun.{IsScriptRun, Taken, commands_captures, commits_of_command, pairs_of}
use Rattle.link_live.proofs.AmongLemmas.{among_in}
use Rattle.link_live.proofs.AppLemmas.{AreOf, all_pushed, captures_published}

-- each capture is of its command's pair
commands_each : (made : List Commit) (commands : List AppCommand) (taken : List Taken) → AreOf (commands_captures made commands taken) (pairs_of taken)
unfolding commands_captures capture_of
commands_each made [] taken = tt
commands_each made (command ∷ commands) [] = tt
commands_each made (command ∷ commands) (one ∷ taken) = (refl, refl, commands_each (made ++ commits_of_command made command one) commands taken)

pub is_script_part : (audio : AudioView) (app : AppView) (events : List EventValue) (published : List State) (full : Bool) (setup : LiveSetup) (captured : Bool) (late : Option ℤ) (report : ReportValue)
    → FitsJournal full audio app events published → IsScriptRun late setup.apps app report.captures report.app_commits captured
    → IsScriptPart setup captured full late (record report { events = events; published = published })
is_script_part audio app events published full setup captured late report fits run = record {
  captures = record {
    pass = app;
    run = run;
    published = subst (λ (l : List Capture). ArePublished published l) (sym run.captures_are)
        (captures_published published app.seen (commands_captures [] setup.apps run.taken) (pairs_of run.taken)
        fits.heard.seen (among_in app.seen (pairs_of run.taken) run.seen) (commands_each [] setup.apps run.taken));
  };
  app_begin = subst (λ (l : List Commit). Grows (app_commits_in events) l) (sym pushed_are) fits.app_begin;
  app_commits = λ room. fits.app_commits room ∙ sym pushed_are;
}
  where
    pushed_are : report.app_commits ≡ fits.pushed
    pushed_are = all_pushed published fits.pushed report.app_commits app fits.heard run.sole run.made run.pushed
