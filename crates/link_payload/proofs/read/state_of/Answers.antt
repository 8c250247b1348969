use Rattle.std.proofs.Common.{ap, ◌∙◌}
use Rattle.std.specs.Option.{option_copied}
use Rattle.link_payload.proofs.AnswerLemmas.{state_without_timeline, state_without_session, state_tried}
use Rattle.link_payload.proofs.read.state_of.Goals as goal

pub returns-in_default : goal.returns-in_default
returns-in_default c = state_without_timeline
    (option_copied c.args.values.now.timeline) (option_copied c.args.values.now.session) (option_copied c.args.values.now.start) (option_copied c.args.values.now.endpoint) (ap option_copied c.in_default.is)

pub returns-in_default-session : goal.returns-in_default-session
returns-in_default-session c =
    state_without_session
    (option_copied c.args.values.now.timeline) (option_copied c.args.values.now.session) (option_copied c.args.values.now.start) (option_copied c.args.values.now.endpoint) _ (ap option_copied c.in-Some.is) (ap option_copied c.in_default-session.is)

pub returns : goal.returns
returns c =
    c.state_in_range.ensures
    ∙ state_tried
    (option_copied c.args.values.now.timeline) (option_copied c.args.values.now.session) (option_copied c.args.values.now.start) (option_copied c.args.values.now.endpoint) _ _ c.timeline_of.result c.from_bytes.result c.start_or_none.result c.endpoint_or_none.result
    (ap option_copied c.in-Some.is) (ap option_copied c.in-Some-session.is) c.timeline_of.ensures c.from_bytes.ensures c.start_or_none.ensures c.endpoint_or_none.ensures
