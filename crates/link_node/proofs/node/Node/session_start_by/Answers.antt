use Rattle.std.proofs.Common.{◌≡◌, ◌∙◌, sym, ap, true}
use Rattle.client_state.specs.Starts.{start_to_session_of}
use Rattle.link_node.specs.Config.{ConfigValue}
use Rattle.link_node.specs.Machine.{timeline_in, offset_in, still}
use Rattle.link_node.proofs.CommitLemmas.{later_held}
use Rattle.link_node.proofs.node.Node.session_start_by.Goals as goal

pub returns-in-Some-clause-value : goal.returns-in-Some-clause-value
unfolding start_to_session_of
returns-in-Some-clause-value c m stands =
    let seen : c.start_to_session-seen.result ≡ start_to_session_of c.args.start.now (timeline_in m) (offset_in m) =
    rw (c.current-current.ensures.timeline _ stands.sessions, c.current-current.ensures.xform _ stands.sessions) at c.start_to_session-seen.ensures.value in
    let sync : m.config.sync ≡ true = ap (λ (config : ConfigValue). config.sync) (sym stands.config) ∙ c.if-not-self.false in
    let some = rw seen at (sym c.later_start.ensures.value ∙ c.in-Some.is) in
    let latest = rw (c.in-Some.is, seen) at (c.later_start.ensures.latest still m.starts stands.session_start) in
    rw sync (later_held m.starts _ _ _ stands.session_start some latest)
