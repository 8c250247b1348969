-- The text of what a live run tells of itself.
use Rattle.std.specs.Prelude.{ℕ, ◌+◌, Bool, if◌then◌else◌, List, [], ◌∷◌, ◌++◌, length, codes}
use Rattle.std.specs.List.{flat_map}
use Rattle.std.specs.Fmt.{decimal}
use Rattle.client_state.specs.declared.state.State.{State}
use Rattle.link_lines.specs.Line.{line_of}
use Rattle.link_script.specs.ReplayScript.{written_script_of}
use Rattle.link_text.specs.ReplayText.{state_line_of}
use Rattle.link_live.specs.Report.{ReportValue}

-- Rule: The first line of a report counts events, states, reads, captures, both lists of commits, plays and clicks.
-- how many of each there were, and how many clicks in all
unfoldable pub live_line_of : ReportValue → List ℕ
live_line_of report =
    line_of (
    codes "#" ∷ codes "live" ∷ decimal (length report.events) ∷ decimal (length report.published) ∷ decimal (length report.reads)
    ∷ decimal (length report.captures) ∷ decimal (length report.app_commits) ∷ decimal (length report.audio_commits)
    ∷ decimal (length report.plays) ∷ decimal (length (flat_map (λ clicks. clicks) report.plays)) ∷ []
    )

-- the state published last by its number, where the first has this one, behind a `#`
abbrev pub last_state_text_of : ℕ → List State → List ℕ
last_state_text_of number [] = []
last_state_text_of number (state ∷ []) = codes "# " ++ state_line_of 2 number state
last_state_text_of number (state ∷ next ∷ states) = last_state_text_of (number + 1) (next ∷ states)

-- Rule: A report is a line of counts, the state published last and, with `--record`, the replay script of the run.
unfoldable pub live_text_of : ReportValue → Bool → List ℕ
live_text_of report recorded =
    (live_line_of report ++ last_state_text_of 0 report.published)
    ++ (if recorded then written_script_of report.config report.now report.events else [])
