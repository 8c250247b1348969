use Rattle.std.proofs.Common.{◌≡◌, ◌⊎◌, inl, inr, ◌∙◌, sym}
use Rattle.link_payload.specs.declared.fields.PeerFields.{PeerFields}
use Rattle.peer_gateway.specs.declared.row.Seen.{Seen}
use Rattle.peer_gateway.specs.declared.row.Seen.TheVariants as seen
use Rattle.link_node.specs.Machine.{Machine}
use Rattle.link_node.specs.Standing.{HasParts}
use Rattle.link_node.specs.Taking.{state_taken, sighted, listened, start_taken, timeline_taken}
use Rattle.link_node.specs.declared.node.Node.{Node}
use Rattle.link_node.proofs.SessionsLemmas.{sighted_sessions}
use Rattle.link_node.proofs.TakingLemmas.{room_in}
use Rattle.link_node.proofs.node.Node.take_state.Goals as goal

-- where there is a row, the timeline and the start are taken
taken : (node : Node) (answer : Seen) (fields : PeerFields) (m : Machine) → (answer ≡ seen.New) ⊎ (answer ≡ seen.Known) → HasParts node (start_taken fields (timeline_taken fields m)) → HasParts node (listened answer fields m)
taken node answer fields m (inl is) stands = rw is stands
taken node answer fields m (inr is) stands = rw is stands

pub returns-in-TableFull-clause-stands : goal.returns-in-TableFull-clause-stands
unfolding state_taken
returns-in-TableFull-clause-stands c m sessions stands =
    rw (sym (c.sight.ensures.answer m stands) ∙ c.in-TableFull.is) (c.sight.ensures.stands m stands)

pub returns-in-New-clause-stands : goal.returns-in-New-clause-stands
unfolding state_taken
returns-in-New-clause-stands c m sessions stands =
    rw (sym (c.sight.ensures.answer m stands))
    (taken _ _ _ _ c.in-New.is
    (c.take_start.ensures.stands _
    (c.take_timeline.ensures.stands (sighted c.args.gate c.args.msg.now m)
    (room_in _ _ _ (sighted_sessions c.args.gate c.args.msg.now m sessions))
    (c.sight.ensures.stands m stands))))
