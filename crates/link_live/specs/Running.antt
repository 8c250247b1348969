-- Only for proofs: how far a run of the network's loop has come.
use Rattle.std.specs.Prelude.{◌≡◌, ◌≤◌, ◌<◌, ◌⊎◌, ℕ, ℤ, ◌+◌, ◌≤ℤ◌, ◌<ℤ◌, Bool, true, false, if◌then◌else◌, List, [], ◌∷◌, ◌++◌, length, Option, IfSome}
use Rattle.lk_base.specs.Ranges.{IsMoment}
use Rattle.lk_outside.specs.Arrivals.{ArrivalValue, PostValue}
use Rattle.lk_outside.specs.Contents.{BothTell}
use Rattle.lk_outside.specs.Port.{PortContents, GivesFrom}
use Rattle.client_state.specs.declared.commit.Commit.{Commit}
use Rattle.link_node.specs.Config.{ConfigValue, IsConfig}
use Rattle.link_node.specs.Due.{due_of}
use Rattle.link_node.specs.Event.{EventValue, App, Audio, SendingValue, moment_of, audio_after}
use Rattle.link_node.specs.Machine.{Machine}
use Rattle.link_node.specs.Opening.{opened}
use Rattle.link_node.specs.Runs.{machine_after, sent_by, sent_of, AreFitting}
use Rattle.link_node.specs.Step.{sends_of, step_of}
use Rattle.link_node.specs.WellFormed.{IsMachine}
use Rattle.link_shared.specs.Hub.{HubView, IsOnGate, got_events, opening_of}
use Rattle.link_shared.specs.Journal.{app_commits_in}
use Rattle.link_shared.specs.declared.got.Got.{Got}
use Rattle.link_shared.specs.declared.got.Got.TheVariants as got
use Rattle.link_live.specs.Journal.{AreInOrder, IsHeard, clock_after, brought_by, datagram_events_in, owes_tick, ticks_in, has_ended}
use Rattle.link_live.specs.Network.{ArePostedBefore, HasGrown, posts_of}
use Rattle.link_live.specs.Turns.{TurnValue, HaveTurned, is_full_in, NoneQuits, LastQuits}
use Rattle.link_live.specs.declared.network.Line.{Line}

-- ---- what is known of runs

pub record RunLaws : Type 0 where
  pub reaches : (m : Machine) (e : EventValue) → m.moment ≤ℤ moment_of e → (step_of m e).moment ≡ moment_of e
  pub config : (m : Machine) (e : EventValue) → (step_of m e).config ≡ m.config
  pub audio : (m : Machine) (e : EventValue) → (step_of m e).audio ≡ audio_after m.audio e
  pub app_puts_off : (m : Machine) (commit : Commit) (now : ℤ) → IsMachine m → due_of m ≤ℤ now → due_of (step_of m (App commit now)) ≤ℤ now
  pub audio_puts_off : (m : Machine) (number : ℕ) (commit : Commit) (now : ℤ) → IsMachine m → due_of m ≤ℤ now → due_of (step_of m (Audio number commit now)) ≤ℤ now
  pub machine : (m : Machine) (es fs : List EventValue) → machine_after m (es ++ fs) ≡ machine_after (machine_after m es) fs
  pub sent : (m : Machine) (es fs : List EventValue) → sent_by m (es ++ fs) ≡ sent_by m es ++ sent_by (machine_after m es) fs
  pub app_sends : (m : Machine) (commit : Commit) (now : ℤ) → sends_of m (App commit now) ≡ []
  pub audio_sends : (m : Machine) (number : ℕ) (commit : Commit) (now : ℤ) → sends_of m (Audio number commit now) ≡ []
  pub opening : (config : ConfigValue) (now : ℤ) → IsConfig config → IsMoment now → IsMachine (opened config now)
  pub run : (m : Machine) (es : List EventValue) → IsMachine m → AreFitting (length m.config.gates) m.app m.audio es → IsMachine (machine_after m es)

-- ---- what a port was asked

-- a tick is due, and a datagram comes only where none is
abbrev pub IsTimely : ℤ → ℤ → ℤ → Got → Type 0
IsTimely due before after got.Nothing = Unit {0}
IsTimely due before after (got.Datagram gate from bytes) = before <ℤ due
IsTimely due before after got.Tick = due ≤ℤ after
IsTimely due before after got.End = ⊥

-- one answer at most, which is what the turn is given, or that no arrival is left, or a failure
pub record HasAsked (gates : ℕ) (due : ℤ) (before after : Line) (told told_then : Option PortContents) (brought : Got) : Type 0 where
  pub arrivals : List ArrivalValue
  pub one : length arrivals ≤ 1
  pub grown : BothTell (GivesFrom arrivals) told told_then
  pub clock_is : after.clock ≡ clock_after before.clock arrivals
  pub moment : IsMoment after.clock
  pub gate : IsOnGate gates brought
  pub timely : IsTimely due before.clock after.clock brought
  pub ticks : due ≤ℤ before.clock → brought ≡ got.Tick
  pub early : 0 < length arrivals → (before.clock <ℤ due) × (before.full ≡ false) × (before.failed ≡ false)
  pub brings : (arrival : ArrivalValue) → arrivals ≡ arrival ∷ [] → datagram_events_in (got_events after.clock brought) ≡ brought_by after.clock arrival
  pub brings_none : arrivals ≡ [] → datagram_events_in (got_events after.clock brought) ≡ []
  pub works : before.full ≡ false → before.closed ≡ false → after.closed ≡ false → after.failed ≡ false → 1 ≤ length arrivals + ticks_in (got_events after.clock brought)
  pub closed : before.closed ≡ false → after.closed ≡ true → IfSome told_then (λ contents. contents.left ≡ [])
  pub stays_closed : before.closed ≡ true → after.closed ≡ true
  pub stays_failed : before.failed ≡ true → (after.failed ≡ true) × (told_then ≡ told)
  pub full : after.full ≡ before.full

-- ---- what was posted

-- the first of them were, and all unless the port failed
pub record HasPosted (sends : List SendingValue) (was_failed failed : Bool) (told told_then : Option PortContents) : Type 0 where
  pub posts : List PostValue
  pub unsent : List PostValue
  pub split : posts_of sends ≡ posts ++ unsent
  pub all : failed ≡ false → (was_failed ≡ false) × (unsent ≡ [])
  pub none : was_failed ≡ true → (failed ≡ true) × (posts ≡ [])
  pub grown : BothTell (HasGrown [] posts) told told_then

-- ---- the run so far

-- the first turn that pops a quit is the last
abbrev pub QuitsIf : Bool → List TurnValue → Type 0
QuitsIf false turns = NoneQuits turns
QuitsIf true turns = LastQuits turns

pub record IsRunning (first hub : HubView) (told told_then : Option PortContents) (line : Line) (quit : Bool) : Type 0 where
  pub turns : List TurnValue
  pub turned : HaveTurned first turns hub
  pub quits : QuitsIf quit turns
  pub full_is : line.full ≡ is_full_in turns
  pub same_config : hub.config ≡ first.config
  pub same_opening : hub.opened_at ≡ first.opened_at
  pub same_most : hub.most ≡ first.most
  pub same_handed : hub.handed ≡ first.handed
  pub quits_are : hub.quits ≡ first.quits + (if quit then 1 else 0)
  pub arrivals : List ArrivalValue
  pub posts : List PostValue
  pub grown : BothTell (HasGrown arrivals posts) told told_then
  pub clock_is : line.clock ≡ clock_after first.opened_at arrivals
  pub moment : IsMoment line.clock
  pub reached : (machine_after (opening_of first) hub.journal).moment ≤ℤ line.clock
  pub order : AreInOrder (opening_of first) [] hub.journal
  -- a tick that has to come first is due
  pub owed : owes_tick true (opening_of first) hub.journal ≡ true → due_of (machine_after (opening_of first) hub.journal) ≤ℤ line.clock
  -- a tick was taken, or the first is due
  pub ticked : line.full ≡ false → (0 < ticks_in hub.journal) ⊎ ((quit ≡ false) × (due_of (machine_after (opening_of first) hub.journal) ≤ℤ line.clock))
  pub goes_on : has_ended hub.journal ≡ false
  pub heard : IsHeard line.full first.config first.opened_at arrivals hub.journal
  pub fits : length hub.journal ≤ first.most
  pub no_room : line.full ≡ true → length hub.journal ≡ first.most
  pub sent : line.failed ≡ false → posts ≡ posts_of (sent_of first.config first.opened_at hub.journal)
  pub unsent : List PostValue
  pub some_sent : posts_of (sent_of first.config first.opened_at hub.journal) ≡ posts ++ unsent
  pub before_each : ArePostedBefore first.config first.opened_at hub.journal posts
  pub closed : line.closed ≡ true → IfSome told_then (λ contents. contents.left ≡ [])
  pub counted : line.failed ≡ false → line.closed ≡ false → line.full ≡ false
      → length (app_commits_in hub.journal) + (if quit then 1 else 0) ≤ length arrivals + ticks_in hub.journal
