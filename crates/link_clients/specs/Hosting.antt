-- What serving clients promises: what passed, what the pass did, and how it ends.
use Rattle.std.specs.Prelude.{◌≡◌, ◌≤ℤ◌, ℤ, true, List, ◌∷◌, Option, Some}
use Rattle.audio_handoff.specs.Cell.{Pair}
use Rattle.lk_outside.specs.Faults.{Rose}
use Rattle.lk_talks.specs.Talks.{Passes, TalksSeen}
use Rattle.lk_talks.specs.declared.talks.Said.{Said}
use Rattle.link_shared.specs.Passes.{AppView}
use Rattle.link_asks.specs.declared.ask.Ask.TheVariants.{End}
use Rattle.link_control.specs.Serving.{HasUsed}
use Rattle.link_clients.specs.Deeds.{Deed, Line, Sight, answering, commits_in, looking, own_in, pairs_in, passed_in}
use Rattle.link_clients.specs.Lawful.{AreLawful, IsOver, NoneWaits}
use Rattle.link_clients.specs.declared.terms.HostEnd.{HostEnd}
use Rattle.link_clients.specs.declared.terms.HostEnd.TheVariants as end
use Rattle.link_clients.specs.declared.terms.Terms.{Terms}

-- Rule: Serving ends where the talks are closed, the moment comes at which it is to end, the journal takes nothing more, a client asks for
-- the end that may, the talks fail, or memory is wanting for a capture.
-- by how serving ended, what it met last
abbrev pub EndsHosting : Terms → TalksSeen → TalksSeen → List Deed → HostEnd → Type 0
EndsHosting terms talks talks_then done end.Deaf = ⊥
EndsHosting terms talks talks_then done end.Failed = Rose talks.faults talks_then.faults
EndsHosting terms talks talks_then done end.Memory = talks_then.faults ≡ talks.faults
EndsHosting terms talks talks_then done end.Closed = (talks_then.faults ≡ talks.faults) × (IsOver terms done → ⊥)
EndsHosting terms talks talks_then done end.Hours =
    (talks_then.faults ≡ talks.faults)
    × ((at : ℤ) × (pair : Pair) × (sight : Sight) × (before : List Deed) × (done ≡ looking at pair sight ∷ before) × (terms.ends_at ≤ℤ at))
EndsHosting terms talks talks_then done end.Full =
    (talks_then.faults ≡ talks.faults)
    × ((at : ℤ) × (pair : Pair) × (sight : Sight) × (before : List Deed) × (done ≡ looking at pair sight ∷ before) × (sight.full ≡ true))
EndsHosting terms talks talks_then done end.Asked =
    (talks_then.faults ≡ talks.faults) × (terms.may_end ≡ true)
    × ((line : Line) × (taken : Said) × (before : List Deed) × (done ≡ answering line taken ∷ before) × (line.asked ≡ Some End))

-- how serving ends between its rounds, where no line of a client waits
abbrev pub EndsBetween : HostEnd → Type 0
EndsBetween end.Deaf = ⊥
EndsBetween end.Failed = ⊥
EndsBetween end.Memory = ⊥
EndsBetween end.Closed = Unit {0}
EndsBetween end.Hours = Unit {0}
EndsBetween end.Full = Unit {0}
EndsBetween end.Asked = ⊥

-- Rule: Each client's whole lines are answered each once and in order, however its bytes were cut, and between the answers it is told
-- nothing but what is shown.
-- From a pass, this was done: each deed might follow those before it, just what passes in them passed, and the pass captured and committed
-- just for them.
pub record HasHosted (terms : Terms) (late : Option ℤ) (talks talks_then : TalksSeen) (before after : AppView) (done : List Deed) (end : HostEnd) : Type 0 where
  pub lawful : AreLawful terms late before.own done
  pub passed : Passes talks.passed (passed_in terms.may_end before.own done) talks_then.passed
  pub opened : talks_then.opened ≡ talks.opened
  pub used : HasUsed before after (pairs_in done) (commits_in before.own done)
  pub own : after.own ≡ own_in before.own done
  pub ends : EndsHosting terms talks talks_then done end
  pub settled : EndsBetween end → NoneWaits before.own done
