-- That a commit gives the quantum, and nothing else does.
use Rattle.std.proofs.Common.{◌≡◌, ℤ, Option, Some, None, refl, ap, ◌∙◌}
use Rattle.std.specs.Prelude.{unwrap_or}
use Rattle.lk_base.specs.declared.timeline.Timeline.{Timeline}
use Rattle.asdp_messages.specs.Reading.{reading_of}
use Rattle.client_state.specs.Timelines.{session_from_client_of}
use Rattle.client_state.specs.declared.commit.Commit.{Commit}
use Rattle.link_node.specs.Commits.{app_taken, audio_taken, client_taken, commit_taken, committed_by, rest_committed, start_committed, timeline_committed}
use Rattle.link_node.specs.Config.{ConfigValue}
use Rattle.link_node.specs.Event.{EventValue, Rx, Tick, App, Audio, End, app_after, audio_after, moment_of}
use Rattle.link_node.specs.Machine.{Machine, offset_in, timeline_in}
use Rattle.link_node.specs.Opening.{opened}
use Rattle.link_node.specs.Staying.{CarriesNoQuantum, IsSpent, commit_in}
use Rattle.link_node.specs.Step.{at_moment, step_of}
use Rattle.link_node.proofs.MomentLemmas.{after_arrived, after_client_taken, after_start_committed, after_ticked, leads_step}
use Rattle.link_node.proofs.SpentLemmas.{taken-spent}
use Rattle.link_node.proofs.StayingLemmas.{midst}

-- ---- a commit that has one

rest-gives : (commit : Commit) (m : Machine) (quantum : ℤ) → commit.quantum ≡ Some quantum → (rest_committed commit m).quantum ≡ quantum
rest-gives commit m quantum is = ap (λ (o : Option ℤ). unwrap_or o (start_committed commit.start m).quantum) is

committed_by-gives : (found : Option Timeline) (client : Timeline) (commit : Commit) (m : Machine) (quantum : ℤ) → (found ≡ None → ⊥) → commit.quantum ≡ Some quantum
    → (committed_by found client commit m).quantum ≡ quantum
committed_by-gives None client commit m quantum given is = absurd (given refl)
committed_by-gives (Some session) client commit m quantum given is = rest-gives commit (client_taken (Some session) client m) quantum is

timeline_committed-gives : (client : Option Timeline) (commit : Commit) (m : Machine) (quantum : ℤ) → commit.timeline ≡ client → (IsSpent m commit → ⊥) → commit.quantum ≡ Some quantum
    → (timeline_committed client commit m).quantum ≡ quantum
timeline_committed-gives None commit m quantum timeline room is = rest-gives commit m quantum is
timeline_committed-gives (Some client) commit m quantum timeline room is =
    committed_by-gives (session_from_client_of (timeline_in m) client commit.at (offset_in m)) client commit m quantum (λ none. room (client, timeline, none)) is

commit-gives : (commit : Commit) (m : Machine) (quantum : ℤ) → (IsSpent m commit → ⊥) → commit.quantum ≡ Some quantum → (commit_taken commit m).quantum ≡ quantum
unfolding commit_taken
commit-gives commit m quantum room is = timeline_committed-gives commit.timeline commit m quantum refl room is

-- ---- a commit that has none

rest-keeps : (commit : Commit) (m : Machine) → commit.quantum ≡ None → (rest_committed commit m).quantum ≡ m.quantum
rest-keeps commit m none =
    ap (λ (o : Option ℤ). unwrap_or o (start_committed commit.start m).quantum) none ∙ (after_start_committed commit.start m).quantum

committed_by-keeps : (found : Option Timeline) (client : Timeline) (commit : Commit) (m : Machine) → commit.quantum ≡ None → (committed_by found client commit m).quantum ≡ m.quantum
committed_by-keeps None client commit m none = refl
committed_by-keeps (Some session) client commit m none =
    rest-keeps commit (client_taken (Some session) client m) none ∙ (after_client_taken (Some session) client m).quantum

timeline_committed-keeps : (client : Option Timeline) (commit : Commit) (m : Machine) → commit.quantum ≡ None → (timeline_committed client commit m).quantum ≡ m.quantum
timeline_committed-keeps None commit m none = rest-keeps commit m none
timeline_committed-keeps (Some client) commit m none =
    committed_by-keeps (session_from_client_of (timeline_in m) client commit.at (offset_in m)) client commit m none

commit-keeps : (commit : Commit) (m : Machine) → commit.quantum ≡ None → (commit_taken commit m).quantum ≡ m.quantum
unfolding commit_taken
commit-keeps commit m none = timeline_committed-keeps commit.timeline commit m none

-- ---- the event

-- the node that takes the event's commit
abbrev before : Machine → EventValue → Machine
before m e = record (at_moment (moment_of e) m) { app = app_after m.app e; audio = audio_after m.audio e }

midst-commit : (m : Machine) (e : EventValue) (commit : Commit) → commit_in e ≡ Some commit → midst m e ≡ commit_taken commit (before m e)
unfolding app_taken audio_taken
midst-commit m (App given now) commit is =
    let same : given ≡ commit = cc in
    ap (λ (c : Commit). commit_taken c (before m (App given now))) same
midst-commit m (Audio number given now) commit is =
    let same : given ≡ commit = cc in
    ap (λ (c : Commit). commit_taken c (before m (Audio number given now))) same
midst-commit m (Rx gate from bytes now) commit is = absurd cc
midst-commit m (Tick now) commit is = absurd cc
midst-commit m (End now) commit is = absurd cc

midst-keeps : (m : Machine) (e : EventValue) → CarriesNoQuantum e → (midst m e).quantum ≡ m.quantum
midst-keeps m (Rx gate from bytes now) none = (after_arrived gate from (reading_of bytes) (at_moment now m)).quantum
midst-keeps m (Tick now) none = (after_ticked (at_moment now m)).quantum
midst-keeps m (App commit now) none =
    ap (λ (n : Machine). n.quantum) (midst-commit m (App commit now) commit refl) ∙ commit-keeps commit (before m (App commit now)) (none commit refl)
midst-keeps m (Audio number commit now) none =
    ap (λ (n : Machine). n.quantum) (midst-commit m (Audio number commit now) commit refl)
    ∙ commit-keeps commit (before m (Audio number commit now)) (none commit refl)
midst-keeps m (End now) none = refl

-- ---- the step

pub step-gives : (m : Machine) (e : EventValue) (commit : Commit) (quantum : ℤ) → commit_in e ≡ Some commit → commit.quantum ≡ Some quantum → (IsSpent m commit → ⊥)
    → (step_of m e).quantum ≡ quantum
step-gives m e commit quantum is given room =
    (leads_step m e).quantum ∙ ap (λ (n : Machine). n.quantum) (midst-commit m e commit is) ∙ commit-gives commit (before m e) quantum room given

pub step-keeps : (m : Machine) (e : EventValue) → CarriesNoQuantum e → (step_of m e).quantum ≡ m.quantum
step-keeps m e none = (leads_step m e).quantum ∙ midst-keeps m e none

pub step-spent : (m : Machine) (e : EventValue) (commit : Commit) → commit_in e ≡ Some commit → IsSpent m commit → (step_of m e).quantum ≡ m.quantum
step-spent m e commit is spent =
    (leads_step m e).quantum ∙ ap (λ (n : Machine). n.quantum) (midst-commit m e commit is ∙ taken-spent commit (before m e) spent)

-- ---- the opening

pub opened-quantum : (config : ConfigValue) (now : ℤ) → (opened config now).quantum ≡ config.quantum
unfolding opened
opened-quantum config now = refl
