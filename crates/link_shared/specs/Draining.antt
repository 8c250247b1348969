-- Only for proofs: what emptying the queue and hearing the applications' passes did.
use Rattle.std.specs.Prelude.{◌≡◌, ℕ, ℤ, List, [], ◌++◌, Bool, true, Option, MatchOption}
use Rattle.audio_handoff.specs.Cell.{Pair, Grows}
use Rattle.client_state.specs.declared.commit.Commit.{Commit}
use Rattle.link_node.specs.Event.{EventValue}
use Rattle.link_node.specs.Machine.{Machine}
use Rattle.link_shared.specs.Ending.{app_events}
use Rattle.link_shared.specs.Journal.{IsOffered}
use Rattle.link_shared.specs.Passes.{AppView}
use Rattle.link_shared.specs.declared.queue.Hand.{Hand}

-- these commits were popped, and each was offered
pub record HasDrained (opening : Machine) (most : ℕ) (now : ℤ) (popped popped_then : List Commit) (before after : List EventValue) (full : Bool) : Type 0 where
  pub rest : List Commit
  pub popped_are : popped_then ≡ popped ++ rest
  pub offered : IsOffered opening most (app_events now rest) before after [] [] full

-- where the queue was empty, nothing changed; else one item was popped, and offered where it was a commit
abbrev pub HasDrainedOne : Machine → ℕ → ℤ → Hand → Hand → List EventValue → List EventValue → Option Bool → Type 0
HasDrainedOne opening most now hand hand_then before after full =
    MatchOption full
    ((hand.pushed ≡ hand.popped) × (hand_then.popped ≡ hand.popped) × (after ≡ before))
    (HasDrained opening most now hand.popped hand_then.popped before after)

-- what the pass knew is a beginning of what was read and of what was pushed, and the only pass made all that was counted
pub record WasHeard (seen : List Pair) (pushed : List Commit) (total : ℕ) (pass : AppView) : Type 0 where
  pub seen_begins : Grows pass.seen seen
  pub pushed_begins : Grows pass.pushed pushed
  pub sole_made : pass.sole ≡ true → pass.made ≡ total
