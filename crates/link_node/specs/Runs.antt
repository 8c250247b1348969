-- Whole runs: one event after the other.
use Rattle.std.specs.Prelude.{ℕ, ℤ, List, [], ◌∷◌, ◌++◌}
use Rattle.client_state.specs.declared.state.State.{State}
use Rattle.link_node.specs.Config.{ConfigValue}
use Rattle.link_node.specs.Event.{EventValue, SendingValue, Fits, app_after, audio_after}
use Rattle.link_node.specs.Machine.{Machine}
use Rattle.link_node.specs.Opening.{opened}
use Rattle.link_node.specs.Step.{step_of, sends_of, change_of}
use Rattle.link_node.specs.declared.event.Change.{Change}
use Rattle.link_node.specs.declared.event.Change.TheVariants.{Same, Published}

unfoldable pub machine_after : Machine → List EventValue → Machine
machine_after m [] = m
machine_after m (e ∷ es) = machine_after (step_of m e) es

-- all datagrams, in order
unfoldable pub sent_by : Machine → List EventValue → List SendingValue
sent_by m [] = []
sent_by m (e ∷ es) = sends_of m e ++ sent_by (step_of m e) es

-- the state of a step, where it is published
abbrev pub shown_by : Change → State → List State
shown_by Same state = []
shown_by Published state = state ∷ []

-- all states published, in order
unfoldable pub published_by : Machine → List EventValue → List State
published_by m [] = []
published_by m (e ∷ es) = shown_by (change_of m e) (step_of m e).published ++ published_by (step_of m e) es

-- each event is one that the node can take then, by its gates and the commits taken before
abbrev pub AreFitting : ℕ → ℕ → ℕ → List EventValue → Type 0
AreFitting gates app audio [] = Unit {0}
AreFitting gates app audio (e ∷ es) =
    Fits gates app audio e × AreFitting gates (app_after app e) (audio_after audio e) es

-- ---- from an opening

abbrev pub replayed : ConfigValue → ℤ → List EventValue → Machine
replayed config now es = machine_after (opened config now) es

-- the opening state and each that follows
abbrev pub published_of : ConfigValue → ℤ → List EventValue → List State
published_of config now es = (opened config now).published ∷ published_by (opened config now) es

abbrev pub sent_of : ConfigValue → ℤ → List EventValue → List SendingValue
sent_of config now es = sent_by (opened config now) es
