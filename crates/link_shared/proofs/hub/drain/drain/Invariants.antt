use Rattle.std.proofs.Common.{◌≡◌, [], true, map}
use Rattle.crossbeam_queue.specs.Passes.{view, IsSamePass}
use Rattle.link_node.specs.Config.{config_value}
use Rattle.link_node.specs.Event.{event_value}
use Rattle.link_node.specs.Opening.{opened}
use Rattle.link_node.specs.Standing.{gates_of}
use Rattle.link_shared.specs.Draining.{HasDrained}
use Rattle.link_shared.proofs.hub.drain.drain.Given as goal

abbrev pub invariant-loop : goal.invariant-loop
invariant-loop g l = record {
  goes : (goal.iterator-loop g).can_next l.iterator' × (goal.iterator-loop g).is_finite l.iterator';
  pass : IsSamePass l.initial.pass l.pass;
  ends : ((view l.pass).pushes ≡ true) × ((view l.pass).pops ≡ true);
  pushed : (view l.pass).pushed ≡ (view l.initial.pass).pushed;
  opening : (l.keeper.opened_at ≡ l.initial.keeper.opened_at) × (l.keeper.most ≡ l.initial.keeper.most);
  config : (config_value l.keeper.node.config ≡ config_value l.initial.keeper.node.config) × (gates_of l.keeper.node ≡ gates_of l.initial.keeper.node);
  drained : HasDrained (opened (config_value l.initial.keeper.node.config) l.initial.keeper.opened_at) l.initial.keeper.most l.fn.now (view l.initial.pass).popped (view l.pass).popped
      (map event_value l.initial.keeper.journal.items) (map event_value l.keeper.journal.items) l.full;
  sends : l.sends ≡ [];
}
