use Rattle.std.proofs.Common.{ap, map, subst}
use Rattle.std.proofs.lemmas.Result.{IfOk-weaker}
use Rattle.std.specs.String.{string_bytes}
use Rattle.clap.specs.Words.{App, FailsBy, fault_of, is_simple_and_free}
use Rattle.link_words.proofs.ControlWordLemmas.{events_read, group_read, quantum_read}
use Rattle.link_words.proofs.control_words.control_matches.Goals as goal

pub returns-clause-kinds : goal.returns-clause-kinds
returns-clause-kinds c =
    let app = c.in_ok-control_command.ensures.app in
    subst (λ (a : App). FailsBy (fault_of a (map string_bytes c.args.words.now)) c.try_get_matches_from.result) app
    (c.try_get_matches_from.ensures.kinds (ap is_simple_and_free app))

pub returns-clause-events : goal.returns-clause-events
returns-clause-events c =
    IfOk-weaker c.try_get_matches_from.result _ _ (λ m parsed. events_read _ m c.in_ok-control_command.ensures parsed) c.try_get_matches_from.ensures.parsed

pub returns-clause-quantum : goal.returns-clause-quantum
returns-clause-quantum c =
    IfOk-weaker c.try_get_matches_from.result _ _ (λ m parsed. quantum_read _ m c.in_ok-control_command.ensures parsed) c.try_get_matches_from.ensures.parsed

pub returns-clause-group : goal.returns-clause-group
returns-clause-group c =
    IfOk-weaker c.try_get_matches_from.result _ _ (λ m parsed. group_read _ m c.in_ok-control_command.ensures parsed) c.try_get_matches_from.ensures.parsed
