use Rattle.std.proofs.Common.{◌≡◌, ◌∙◌, Some, None, sym, ap, subst}
use Rattle.std.specs.Prelude.{option_map}
use Rattle.session_choice.specs.Changes.{key_of}
use Rattle.session_choice.specs.History.{best_in, known_in}
use Rattle.session_choice.specs.Kept.{table_of}
use Rattle.session_choice.specs.Table.{Table}
use Rattle.session_choice.proofs.KeyedLemmas.{IsAt, is_at, not_found}
use Rattle.session_choice.proofs.TableLemmas.{answer_for, timeline_in, timeline_for, timeline_in-other}
use Rattle.session_choice.proofs.sessions.Sessions.timeline_of.Goals as goal

pub returns-in_err-place : goal.returns-in_err-place
returns-in_err-place c =
    answer_for (timeline_in c.args.session) (λ h. option_map best_in (known_in c.args.session h)) (timeline_for c.args.session) c.args.self.now c.from_residual.result
    (subst (λ (t : Table). c.from_residual.result ≡ timeline_in c.args.session t) c.self.view_is
    (c.from_residual.ensures
    ∙ timeline_in-other c.args.session (table_of c.self.inside) None (sym c.eq.ensures ∙ c.if-eq.false)
    (not_found key_of c.args.session c.self.inside.others.items (sym c.place_of.ensures ∙ c.in_err-place.was))))

pub returns : goal.returns
returns c =
    let at : IsAt key_of c.args.session c.self.inside.others.items c.in_ok-place.place =
    is_at key_of c.args.session c.self.inside.others.items c.in_ok-place.place (sym c.place_of.ensures ∙ c.in_ok-place.was) in
    answer_for (timeline_in c.args.session) (λ h. option_map best_in (known_in c.args.session h)) (timeline_for c.args.session) c.args.self.now (Some c.index.result.now.timeline)
    (subst (λ (t : Table). Some c.index.result.now.timeline ≡ timeline_in c.args.session t) c.self.view_is
    (timeline_in-other c.args.session (table_of c.self.inside) (Some c.index.result.now) (sym c.eq.ensures ∙ c.if-eq.false)
    (at.found c.index.result.now ∙ ap (λ known. Some known) (sym c.index.ensures))))
