use Rattle.std.proofs.Common.{◌-◌, ◌^◌, ap, arith, codes, map, subst}
use Rattle.std.proofs.lemmas.Result.{IfOk-weaker}
use Rattle.std.specs.String.{string_bytes}
use Rattle.clap.specs.Words.{App, FailsBy, fault_of, is_simple_and_free}
use Rattle.link_words.proofs.ValueWordLemmas.{first_read, second_read}
use Rattle.link_words.proofs.load_words.load_matches.Goals as goal

pub returns-clause-kinds : goal.returns-clause-kinds
returns-clause-kinds c =
    let app = c.in_ok-load_command.ensures.app in
    subst (λ (a : App). FailsBy (fault_of a (map string_bytes c.args.words.now)) c.try_get_matches_from.result) app
    (c.try_get_matches_from.ensures.kinds (ap is_simple_and_free app))

pub returns-clause-seed : goal.returns-clause-seed
returns-clause-seed c =
    IfOk-weaker c.try_get_matches_from.result _ _ (λ m parsed.
    first_read (codes "load") (codes "SEED") 0 (2 ^ 64 - 1) (codes "COUNT") 1 524_288 _ m c.in_ok-load_command.ensures parsed
    (λ e. omega (arith, e)) (omega arith) (omega arith)) c.try_get_matches_from.ensures.parsed

pub returns-clause-count : goal.returns-clause-count
returns-clause-count c =
    IfOk-weaker c.try_get_matches_from.result _ _ (λ m parsed.
    second_read (codes "load") (codes "SEED") 0 (2 ^ 64 - 1) (codes "COUNT") 1 524_288 _ m c.in_ok-load_command.ensures parsed
    (λ e. omega (arith, e)) (omega arith) (omega arith)) c.try_get_matches_from.ensures.parsed
