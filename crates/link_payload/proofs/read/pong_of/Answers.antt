use Rattle.std.proofs.Common.{ap, ◌∙◌, rules}
use Rattle.std.specs.Option.{option_copied}
use Rattle.link_payload.proofs.AnswerLemmas.{pong_without_session, pong_without_time, pong_tried}
use Rattle.link_payload.proofs.read.pong_of.Goals as goal

pub returns-in_default : goal.returns-in_default
returns-in_default c = pong_without_session
    (option_copied c.args.values.now.session) (option_copied c.args.values.now.ghost_time) (option_copied c.args.values.now.host) (option_copied c.args.values.now.previous) (ap option_copied c.in_default.is)

pub returns-in_default-ghost_time : goal.returns-in_default-ghost_time
returns-in_default-ghost_time c =
    pong_without_time
    (option_copied c.args.values.now.session) (option_copied c.args.values.now.ghost_time) (option_copied c.args.values.now.host) (option_copied c.args.values.now.previous) _ (ap option_copied c.in-Some.is) (ap option_copied c.in_default-ghost_time.is)

pub returns : goal.returns
returns c =
    c.pong_in_range.ensures
    ∙ pong_tried
    (option_copied c.args.values.now.session) (option_copied c.args.values.now.ghost_time) (option_copied c.args.values.now.host) (option_copied c.args.values.now.previous) _ _ c.from_bytes.result c.time_of.result c.time_or_zero.result c.time_or_zero-2.result
    (ap option_copied c.in-Some.is) (ap option_copied c.in-Some-ghost_time.is) c.from_bytes.ensures c.time_of.ensures c.time_or_zero.ensures c.time_or_zero-2.ensures
    (search rules) (search rules) (search rules)
