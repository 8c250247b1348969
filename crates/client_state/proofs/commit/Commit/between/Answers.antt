use Rattle.std.proofs.Common.{rules, ap, sym, subst, ◌∙◌, Some}
use Rattle.client_state.specs.Commit.{IsTidyCommit, commit_between}
use Rattle.client_state.specs.Shown.{shown_over}
use Rattle.client_state.proofs.CommitLemmas.{between-playing, between-quantum, between-time, between-timeline, commit_between-tidy, shown_over-later}
use Rattle.client_state.proofs.commit.Commit.between.Goals as goal

pub returns-clause-value : goal.returns-clause-value
unfolding commit_between
returns-clause-value c = search rules

pub returns-clause-tidy : goal.returns-clause-tidy
returns-clause-tidy c = λ tidy time range within.
    subst IsTidyCommit (sym (returns-clause-value c)) (commit_between-tidy c.args.old.now c.args.shown.now c.args.new.now c.args.now tidy time range within)

pub returns-clause-shows_timeline : goal.returns-clause-shows_timeline
unfolding commit_between
returns-clause-shows_timeline c = λ number taken lt.
    ap (λ commit. (shown_over (Some (number, commit)) taken c.args.old.now).timeline) (returns-clause-value c)
    ∙ ap (λ state. state.timeline) (shown_over-later number taken (commit_between c.args.old.now c.args.shown.now c.args.new.now c.args.now) c.args.old.now lt)
    ∙ between-timeline c.args.old.now.timeline c.args.shown.now.timeline c.args.new.now.timeline

pub returns-clause-shows_playing : goal.returns-clause-shows_playing
unfolding commit_between
returns-clause-shows_playing c = λ number taken lt.
    ap (λ commit. (shown_over (Some (number, commit)) taken c.args.old.now).start.playing) (returns-clause-value c)
    ∙ ap (λ state. state.start.playing) (shown_over-later number taken (commit_between c.args.old.now c.args.shown.now c.args.new.now c.args.now) c.args.old.now lt)
    ∙ between-playing c.args.old.now.start c.args.shown.now.start c.args.new.now.start c.args.now

pub returns-clause-shows_time : goal.returns-clause-shows_time
unfolding commit_between
returns-clause-shows_time c = λ number taken lt.
    ap (λ commit. (shown_over (Some (number, commit)) taken c.args.old.now).start.time) (returns-clause-value c)
    ∙ ap (λ state. state.start.time) (shown_over-later number taken (commit_between c.args.old.now c.args.shown.now c.args.new.now c.args.now) c.args.old.now lt)
    ∙ between-time c.args.old.now.start c.args.shown.now.start c.args.new.now.start c.args.now

pub returns-clause-shows_quantum : goal.returns-clause-shows_quantum
unfolding commit_between
returns-clause-shows_quantum c = λ number taken lt.
    ap (λ commit. (shown_over (Some (number, commit)) taken c.args.old.now).quantum) (returns-clause-value c)
    ∙ ap (λ state. state.quantum) (shown_over-later number taken (commit_between c.args.old.now c.args.shown.now c.args.new.now c.args.now) c.args.old.now lt)
    ∙ between-quantum c.args.old.now.quantum c.args.shown.now.quantum c.args.new.now.quantum
