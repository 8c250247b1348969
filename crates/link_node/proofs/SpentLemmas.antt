-- That a commit is only counted where the origin is spent.
use Rattle.std.proofs.Common.{◌≡◌, ◌+◌, ◌||◌, ℕ, ℤ, Bool, true, false, not, Option, Some, None, refl, sym, ap, ◌∙◌, subst}
use Rattle.std.proofs.Math.Bool.{or-false}
use Rattle.std.proofs.lemmas.Bool.Decides.{Decides-int_eq}
use Rattle.std.specs.Ordering.{int_eq}
use Rattle.lk_base.specs.declared.timeline.Timeline.{Timeline}
use Rattle.lk_base.specs.declared.start.SessionStart.{SessionStart}
use Rattle.peer_gateway.specs.Answers.{peers_in}
use Rattle.session_choice.proofs.DistinctLemmas.{same-itself}
use Rattle.client_state.specs.Commit.{same_bool, same_timeline}
use Rattle.client_state.specs.Timelines.{session_from_client_of}
use Rattle.client_state.specs.declared.commit.Commit.{Commit}
use Rattle.link_node.specs.Commits.{app_taken, audio_taken, commit_taken, committed_by, timeline_committed}
use Rattle.link_node.specs.Event.{EventValue, Rx, Tick, App, Audio, End}
use Rattle.link_node.specs.Machine.{Machine, offset_in, session_in, timeline_in}
use Rattle.link_node.specs.Publishing.{shown}
use Rattle.link_node.specs.Settling.{held_in, noted, same_held, same_start, settled}
use Rattle.link_node.specs.Staying.{IsSpent, commit_in, only_counted}
use Rattle.link_node.specs.Step.{at_moment, before_broadcast, before_shown, step_of}
use Rattle.link_node.specs.WellFormed.{IsMachine}
use Rattle.link_node.specs.declared.node.settling.Held.{Held}
use Rattle.link_node.proofs.DueLemmas.{settled-counted}

-- ---- what is held is held again

int_eq-itself : (n : ℤ) → int_eq n n ≡ true
int_eq-itself n = (Decides-int_eq n n).1 refl

same_bool-itself : (b : Bool) → same_bool b b ≡ true
same_bool-itself true = refl
same_bool-itself false = refl

same_timeline-itself : (tl : Timeline) → same_timeline tl tl ≡ true
same_timeline-itself tl = rw (int_eq-itself tl.mpb, int_eq-itself tl.beat, int_eq-itself tl.time) refl

same_start-itself : (start : SessionStart) → same_start start start ≡ true
same_start-itself start = rw (same_bool-itself start.playing, int_eq-itself start.beats, int_eq-itself start.stamp) refl

same_held-itself : (held : Held) → same_held held held ≡ true
same_held-itself held =
    rw (same-itself held.id, same-itself held.session, same_timeline-itself held.timeline, same_start-itself held.start) refl

-- ---- the commit

taken-none : (found : Option Timeline) (client : Timeline) (commit : Commit) (m : Machine) → found ≡ None → committed_by found client commit m ≡ m
taken-none None client commit m is = refl
taken-none (Some session) client commit m is = absurd cc

pub taken-spent : (commit : Commit) (m : Machine) → IsSpent m commit → commit_taken commit m ≡ m
unfolding commit_taken
taken-spent commit m spent =
    ap (λ o. timeline_committed o commit m) spent.1
    ∙ taken-none (session_from_client_of (timeline_in m) spent.0 commit.at (offset_in m)) spent.0 commit m spent.2

-- ---- the end of the event

-- where the peers are as they were counted and nothing else that is held has changed
ended-as : (m n : Machine) → n.peers ≡ peers_in (session_in n) n.life → held_in n ≡ held_in m → noted (held_in m) (settled n) ≡ n
unfolding noted
ended-as m n peers held =
    let is : settled n ≡ n = settled-counted n peers ∙ ap (λ (k : ℕ). record n { peers = k }) (sym peers) in
    let same : same_held (held_in m) (held_in n) ≡ true = subst (λ (h : Held). same_held (held_in m) h ≡ true) (sym held) (same_held-itself (held_in m)) in
    ap (λ (o : Machine). noted (held_in m) o) is
    ∙ ap (λ (b : Bool). record n { changed = n.changed || not b }) same
    ∙ ap (λ (b : Bool). record n { changed = b }) (or-false n.changed)

-- ---- the step

pub step_spent : (m : Machine) (e : EventValue) (commit : Commit) → IsMachine m → commit_in e ≡ Some commit → IsSpent m commit
    → step_of m e ≡ only_counted m e
unfolding step_of before_shown before_broadcast app_taken audio_taken
step_spent m (App given now) commit sound is spent =
    let n = record (at_moment now m) { app = m.app + 1 } in
    let same : given ≡ commit = cc in
    let taken : app_taken given (at_moment now m) ≡ n = ap (λ (c : Commit). commit_taken c n) same ∙ taken-spent commit n spent in
    ap (λ (o : Machine). shown (noted (held_in m) (settled o))) taken ∙ ap shown (ended-as m n sound.peers refl)
step_spent m (Audio number given now) commit sound is spent =
    let n = record (at_moment now m) { audio = number } in
    let same : given ≡ commit = cc in
    let taken : audio_taken number given (at_moment now m) ≡ n = ap (λ (c : Commit). commit_taken c n) same ∙ taken-spent commit n spent in
    ap (λ (o : Machine). shown (noted (held_in m) (settled o))) taken ∙ ap shown (ended-as m n sound.peers refl)
step_spent m (Rx gate from bytes now) commit sound is spent = absurd cc
step_spent m (Tick now) commit sound is spent = absurd cc
step_spent m (End now) commit sound is spent = absurd cc
