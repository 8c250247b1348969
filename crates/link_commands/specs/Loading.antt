-- How far a load has come. Only proofs and private functions speak of it.
use Rattle.std.specs.Prelude.{◌≡◌, ◌≤◌, ◌+◌, ◌-◌, ◌*◌, ℕ, List, ◌++◌, length}
use Rattle.client_state.specs.declared.state.State.{State}
use Rattle.link_node.specs.Event.{EventValue}
use Rattle.link_node.specs.Machine.{Machine}
use Rattle.link_node.specs.Runs.{published_by, sent_by}
use Rattle.link_node.specs.Standing.{StandsFor, app_of, gates_of}
use Rattle.link_node.specs.declared.node.Node.{Node}
use Rattle.link_text.specs.Load.{AreLoadEvents, load_line_of, load_machine_after, load_opened}
use Rattle.link_text.specs.LoadRun.{LoadRun}
use Rattle.link_text.specs.ReplayText.{state_line_of}
use Rattle.link_commands.specs.declared.counts.Counts.{Counts}

-- The first events of the load were taken, what stands for the node is what they made of it, and so much came of them. The other numbers
-- are bounds.
pub record HasTaken (seed : ℕ) (run : LoadRun) (Stands : Machine → Type 0) (gates app : ℕ) (counts : Counts) : Type 0 where
  pub events : List EventValue
  pub in_turn : AreLoadEvents seed events
  pub so_many : length events ≡ counts.events
  pub run_is : run ≡ record { seed = seed; made = counts.events }
  pub stands : Stands (load_machine_after seed events)
  pub states_are : counts.states ≡ 1 + length (published_by (load_opened seed) events)
  pub sends_are : counts.sends ≡ length (sent_by (load_opened seed) events)
  pub one_gate : gates ≡ 1
  pub few_commits : app ≤ counts.events
  pub few_states : counts.states ≤ counts.events + 1
  pub few_sends : counts.sends ≤ 129 * counts.events

-- the same of a node's value
abbrev pub NodeHasTaken : ℕ → LoadRun → Node → Counts → Type 0
NodeHasTaken seed run node counts = HasTaken seed run (StandsFor node) (gates_of node) (app_of node) counts

-- how much there was, and a state by the number of the last one
abbrev pub told_of : Counts → State → List ℕ
told_of counts state = load_line_of counts.events counts.states counts.sends ++ state_line_of 2 (counts.states - 1) state
