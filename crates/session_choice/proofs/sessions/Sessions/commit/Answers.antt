use Rattle.std.proofs.Common.{◌≡◌, ◌⊎◌, ◌<ℤ◌, sym, ap, subst}
use Rattle.session_choice.specs.History.{committed}
use Rattle.session_choice.specs.Kept.{table_of}
use Rattle.session_choice.specs.Table.{Table}
use Rattle.session_choice.proofs.TableLemmas.{stands_for, committed_in, committed_for, latest_is, committed_best}
use Rattle.session_choice.proofs.sessions.Sessions.commit.Goals as goal

pub returns-clause-stands : goal.returns-clause-stands
returns-clause-stands c =
    let old : Table = table_of c.self.inside in
    let new : Table = record old { current = record old.current { timeline = c.args.timeline } } in
    let later : (c.args.timeline ≡ old.current.timeline) ⊎ (old.current.timeline.beat <ℤ c.args.timeline.beat) =
    subst (λ (t : Table). (c.args.timeline ≡ t.current.timeline) ⊎ (t.current.timeline.beat <ℤ c.args.timeline.beat)) (sym c.self.view_is) c.requires.later in
    stands_for (committed_in c.args.timeline) (λ h. committed c.args.timeline h) (committed_for c.args.timeline) c.args.self.now new
    (subst (λ (t : Table). new ≡ committed_in c.args.timeline t) c.self.view_is
    (ap (λ timeline. record old { current = record old.current { timeline = timeline } }) (sym (latest_is old.current.timeline c.args.timeline later))))

pub returns-clause-counts : goal.returns-clause-counts
returns-clause-counts c h stands = committed_best c.args.timeline c.args.self.now h stands c.requires.later
