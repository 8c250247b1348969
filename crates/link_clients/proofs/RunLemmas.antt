-- A run of a session server from what its node's run left.
use Rattle.std.proofs.Common.{◌≡◌, ⊎_elim, ℕ, zero, suc, ◌+◌, ℤ, Bool, true, List, [], ◌∷◌, length, Option, Some, None, refl, sym, subst, ◌∙◌, arith}
use Rattle.std.specs.List.{AllByRecursion}
use Rattle.std.proofs.lemmas.List.{length-map}
use mathlib.Core.Option.{some, some-injective, some-ne-none}
use lib.ListN.{get_elem?}
use Rattle.audio_handoff.specs.Cell.{Grows, Pair}
use Rattle.lk_base.specs.declared.endpoint.Endpoint.{Endpoint}
use Rattle.lk_outside.specs.Faults.{Rose}
use Rattle.lk_outside.specs.Port.{PortSeen}
use Rattle.lk_talks.specs.Talks.{TalksSeen}
use Rattle.client_state.specs.declared.commit.Commit.{Commit}
use Rattle.client_state.specs.declared.state.State.{State}
use Rattle.link_node.specs.Event.{EventValue}
use Rattle.link_shared.specs.Audio.{AudioView}
use Rattle.link_shared.specs.Ending.{WerePublished}
use Rattle.link_shared.specs.Journal.{AreCarried, app_commits_in}
use Rattle.link_shared.specs.Passes.{AppView}
use Rattle.link_live.specs.Headline.{new_audio}
use Rattle.link_live.specs.NodeRun.{FitsJournal, IsNodeRun, new_app}
use Rattle.link_live.specs.TakingRun.{IsIn}
use Rattle.link_live.proofs.AmongLemmas.{among_in}
use Rattle.link_live.proofs.AppLemmas.{all_pushed}
use Rattle.link_control.specs.Log.{AreCounted, Numbered}
use Rattle.link_clients.specs.Deeds.{Deed, commits_in, pairs_in}
use Rattle.link_clients.specs.Hosting.{HasHosted}
use Rattle.link_clients.specs.ServeRun.{EndsServeRun, IsHosted, IsServed, ServeSetup, first_of, made_in}
use Rattle.link_clients.specs.declared.terms.HostEnd.{HostEnd}
use Rattle.link_clients.specs.declared.terms.HostEnd.TheVariants as host
use Rattle.link_clients.specs.declared.terms.Terms.{Terms}

-- ---- what the pass knows

-- the only pass, where this was done
record Knows (pass : AppView) (done : List Deed) : Type 0 where
  each : AllByRecursion (IsIn pass.seen) (pairs_in done)
  pushed : pass.pushed ≡ made_in done
  made : pass.made ≡ length (made_in done)
  sole : pass.sole ≡ true
  counted : AreCounted 0 (commits_in None done)

from_none : (a b : ℕ) → a ≡ 0 + b → a ≡ b
from_none a b is = omega (arith, is)

knows_hosted : (terms : Terms) (late : Option ℤ) (talks talks_then : TalksSeen) (pass : AppView) (done : List Deed) (ended : HostEnd) → HasHosted terms late talks talks_then new_app pass done ended
    → Knows pass done
knows_hosted terms late talks talks_then pass done ended was = record {
  each = subst (λ (l : List Pair). AllByRecursion (IsIn l) (pairs_in done)) (sym was.used.seen) (among_in was.used.grown (pairs_in done) was.used.among);
  pushed = (was.used.alone refl refl).0;
  made = from_none pass.made (length (commits_in None done)) was.used.made ∙ sym (length-map (commits_in None done) (λ (commit : Numbered). commit.1));
  sole = was.used.sole;
  counted = (was.used.alone refl refl).1;
}

knows_nothing : Knows new_app []
unfolding pairs_in commits_in
knows_nothing = record { each = tt; pushed = refl; made = refl; sole = refl; counted = tt }

knows : (at : Endpoint) (terms : Terms) (late : Option ℤ) (talks talks_then : TalksSeen) (pass : AppView) (done : List Deed) (ended : HostEnd) → IsHosted at terms late talks talks_then pass done ended
    → Knows pass done
knows at terms late talks talks_then pass done ended hosted =
    ⊎_elim
    (λ (was : HasHosted terms late (record talks { opened = Some at }) talks_then new_app pass done ended). knows_hosted terms late (record talks { opened = Some at }) talks_then pass done ended was)
    (λ (none : (ended ≡ host.Deaf) × Rose talks.faults talks_then.faults × (talks_then ≡ record talks { faults = talks_then.faults }) × (done ≡ []) × (pass ≡ new_app)).
    subst (λ (x : AppView × List Deed). Knows x.0 x.1) (λ i. (sym none.4 i, sym none.3 i)) knows_nothing)
    hosted

-- ---- what it captured was published

all_at : (P : Pair → Type 0) (l : List Pair) (k : ℕ) (pair : Pair) → AllByRecursion P l → get_elem? l k ≡ some pair → P pair
all_at P [] k pair all e = absurd (some-ne-none pair (sym e))
all_at P (x ∷ xs) zero pair all e = subst P (some-injective x pair e) all.0
all_at P (x ∷ xs) (suc k) pair all e = all_at P xs k pair all.1 e

captured_published : (published : List State) (seen pairs : List Pair) → WerePublished published seen → AllByRecursion (IsIn seen) pairs → WerePublished published pairs
captured_published published seen pairs were each k pair at =
    let place : IsIn seen pair = all_at (IsIn seen) pairs k pair each at in
    were place.0 pair place.1

-- ---- once the node has ended

module _ (setup : ServeSetup) (late : Option ℤ) (p0 p1 : PortSeen) (talks talks_then : TalksSeen) (events : List EventValue) (published : List State) where
  is_served : (audio : AudioView) (app : AppView) (ended : HostEnd) (full : Bool) (done : List Deed) → FitsJournal full audio app events published
      → IsHosted setup.at setup.terms late talks talks_then app done ended → IsServed setup late talks talks_then full events published ended
  is_served audio app ended full done fits hosted =
      let known : Knows app done = knows setup.at setup.terms late talks talks_then app done ended hosted in
      let pushed_are : made_in done ≡ fits.pushed = all_pushed published fits.pushed (made_in done) app fits.heard known.sole known.made known.pushed in
      record {
        pass = app;
        done = done;
        hosted = hosted;
        captured = captured_published published app.seen (pairs_in done) fits.heard.seen known.each;
        counted = known.counted;
        begin = subst (λ (l : List Commit). Grows (app_commits_in events) l) (sym pushed_are) fits.app_begin;
        all = λ room. fits.app_commits room ∙ sym pushed_are;
      }

  pub serve_ends : (audio : AudioView) (app : AppView) (ended : HostEnd) (failed full : Bool) → IsNodeRun setup.config setup.opened_at setup.events failed full p0 p1 audio app events published
      → audio ≡ new_audio → (done : List Deed) × IsHosted setup.at setup.terms late talks talks_then app done ended
      → EndsServeRun setup late p0 p1 talks talks_then events published (first_of ended failed full)
  serve_ends audio app ended failed full run still hosted = record {
    hosted = ended;
    failed = failed;
    full = full;
    ended_is = refl;
    port_works = run.works;
    port_fails = run.fails;
    recorded = run.recorded;
    served = is_served audio app ended full hosted.0 run.fits hosted.1;
    -- an audio thread that made no commit has none in the journal
    silent = subst (λ (v : AudioView). AreCarried v.made events) still run.fits.audio_commits;
  }
