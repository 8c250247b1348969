-- What an audio thread read and committed, once its node has ended.
use Rattle.std.proofs.Common.{◌≡◌, ℕ, suc, ◌+◌, Bool, not, List, [], ◌∷◌, ◌++◌, length, Option, refl, sym, ap, subst, ◌∙◌}
use Rattle.std.specs.List.{AllByRecursion}
use Rattle.std.proofs.lemmas.List.Elements.{All-nil, All-cons}
use mathlib.Core.Option.{some}
use lib.ListN.{get_elem?}
use Rattle.audio_handoff.specs.Cell.{Pair}
use Rattle.client_state.specs.Words.{state_of_words}
use Rattle.client_state.specs.declared.commit.Commit.{Commit}
use Rattle.client_state.specs.declared.state.State.{State}
use Rattle.lk_outside.specs.Audio.{AudioContents}
use Rattle.link_node.specs.Event.{EventValue}
use Rattle.link_shared.specs.Audio.{AudioView}
use Rattle.link_shared.specs.Ending.{WerePublished}
use Rattle.link_shared.specs.Journal.{AreCarried}
use Rattle.link_shared.specs.Passes.{AppView}
use Rattle.link_shared.specs.declared.capture.Capture.{Capture}
use Rattle.link_script.specs.declared.live_script.BlockCommand.{BlockCommand}
use Rattle.link_live.specs.AudioRun.{BlockRead, IsAudioRun, block_commits, blocks_captures, pairs_of}
use Rattle.link_live.specs.Clients.{audio_taken, capture_of}
use Rattle.link_live.specs.Headline.{ArePublished, IsAudioPart, LiveSetup, new_audio}
use Rattle.link_live.specs.NodeRun.{FitsJournal}
use Rattle.link_live.specs.Report.{ReportValue}

-- what was captured was published
reads_published : (published : List State) (commands : List BlockCommand) (made : List Commit) (number : ℕ) (reads : List BlockRead)
    → AllByRecursion (λ r. get_elem? published r.pair.0 ≡ some (state_of_words r.pair.1)) reads
    → ArePublished published (blocks_captures commands made number reads)
unfolding blocks_captures capture_of
reads_published published commands made number [] all = All-nil (λ (c : Capture). get_elem? published c.number ≡ some c.state)
reads_published published commands made number (read ∷ reads) all =
    All-cons (λ (c : Capture). get_elem? published c.number ≡ some c.state) (capture_of audio_taken made read.pair)
    (blocks_captures commands (made ++ block_commits commands made number read) (number + 1) reads) all.0
    (reads_published published commands (made ++ block_commits commands made number read) (number + 1) reads all.1)

-- each pair that was read for a block was published
blocks_each : (published : List State) (reads : List BlockRead) → WerePublished published (pairs_of reads)
    → AllByRecursion (λ r. get_elem? published r.pair.0 ≡ some (state_of_words r.pair.1)) reads
blocks_each published [] were = tt
blocks_each published (read ∷ reads) were = (were 0 read.pair refl, blocks_each published reads (λ k pair at. were (suc k) pair at))

pub is_audio_part : (pass : AudioView) (app : AppView) (events : List EventValue) (published : List State) (full : Bool) (setup : LiveSetup) (played : Bool) (audio audio_then : Option AudioContents) (report : ReportValue)
    → FitsJournal full pass app events published
    → IsAudioRun setup.blocks setup.block_commands new_audio pass audio audio_then report.reads report.audio_commits report.plays (not played)
    → IsAudioPart setup played full audio audio_then (record report { events = events; published = published })
is_audio_part pass app events published full setup played audio audio_then report fits run = record {
  reads = record {
    pass = pass;
    run = run;
    published = subst (λ (l : List Capture). ArePublished published l) (sym run.reads_are)
        (reads_published published setup.block_commands [] 1 (run.played ++ run.unplayed)
        (blocks_each published (run.played ++ run.unplayed) (subst (λ (l : List Pair). WerePublished published l) run.seen fits.reads)));
  };
  audio_commits = subst (λ (l : List Commit). AreCarried l events) run.made fits.audio_commits;
  last_audio_commit = λ room. fits.last_audio_commit room ∙ ap length run.made;
}
