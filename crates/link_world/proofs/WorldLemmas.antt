-- Origin, agreement and convergence.
use Rattle.std.proofs.Common.{◌≡◌, ◌≤ℤ◌, inl, inr, ℕ, ℤ, ◌+ℤ◌, ◌-ℤ◌, List, Some, sym, subst}
use Rattle.std.specs.Prelude.{slice_get}
use Rattle.std.specs.List.{AllByRecursion}
use Rattle.lk_base.specs.Ranges.{IsMoment}
use Rattle.lk_base.specs.Timeline.{IsTidy}
use Rattle.lk_base.specs.declared.ids.NodeId.{NodeId}
use Rattle.lk_base.specs.declared.timeline.Timeline.{Timeline}
use Rattle.peer_gateway.specs.Happenings.{Has}
use Rattle.session_choice.specs.Best.{IsBest}
use Rattle.timeline_math.specs.Clicks.{clicks_at, is_accented}
use Rattle.client_state.specs.Timelines.{Follows, IsInReachOf}
use Rattle.link_node.specs.Config.{ConfigValue, IsConfig}
use Rattle.link_node.specs.Machine.{Machine, session_in, timeline_in, offset_in}
use Rattle.link_node.specs.Brought.{taken_in}
use Rattle.link_world.specs.Agreement.{HasOrigins, Agrees, Converges, OneRoundSuffices, OneMessageSuffices, ClickTogether, IsPeer, HaveOwnOrigins}
use Rattle.link_world.specs.Made.{IsMade}
use Rattle.link_world.specs.Stored.{IsStoredConfig}
use Rattle.link_world.specs.World.{WorldValue, TurnValue, IsWorldOf, opened_world}
use Rattle.link_world.proofs.BestLemmas.{best_there, best_greatest, le_both, one_of_same}
use Rattle.link_world.proofs.LowerLaws.{Laws}
use Rattle.link_world.proofs.Lists.{has_got}
use Rattle.link_world.proofs.OneLemmas.{one_after}
use Rattle.link_world.proofs.OriginLemmas.{sound_after, sound_opening, taken_now}
use Rattle.link_world.proofs.RoundLemmas.{Any, Leads, heard_after}
use Rattle.link_world.proofs.HolderLemmas.{hears_of_holder, held_after}

-- what is known of two clients of a session
pub record ClientsClick : Type 0 where
  pub click : (session client other : Timeline) (offset other_offset time : ℤ) → IsTidy client → IsTidy other
      → Follows session client offset → Follows session other other_offset → IsInReachOf session client offset time
      → IsInReachOf session other other_offset (time +ℤ offset -ℤ other_offset) → clicks_at client time ≡ clicks_at other (time +ℤ offset -ℤ other_offset)
  pub accent : (session client other : Timeline) (offset other_offset time q : ℤ) → IsTidy client → IsTidy other
      → Follows session client offset → Follows session other other_offset → IsInReachOf session client offset time
      → IsInReachOf session other other_offset (time +ℤ offset -ℤ other_offset) → is_accented client q time ≡ is_accented other q (time +ℤ offset -ℤ other_offset)

pub origins : Laws → (configs : List ConfigValue) (now : ℤ) (turns : List TurnValue) (w : WorldValue) → AllByRecursion IsConfig configs → AllByRecursion IsStoredConfig configs
    → IsMoment now → IsWorldOf configs now turns w → HasOrigins configs now turns w
origins laws configs now turns w are stored moment led =
    let opening = sound_opening laws (IsMade configs now turns) configs now are stored moment (λ session tl has. inl has) in
    let sound = sound_after laws (IsMade configs now turns) (opened_world configs now) w turns opening led (λ session tl made. inr made) in
    record {
      taken = λ m peer session tl took. ((sound.machines m (has_got w.machines peer.0 m peer.1)).taken session tl took).1;
      told = λ sending has session tl tells. (sound.told sending has session tl tells).1;
      best = λ m peer. laws.best m;
    }

pub agrees : ((m : Machine) → IsBest (taken_in m) (timeline_in m)) → (w : WorldValue) → Agrees w
agrees best w one other peer other_peer same_session same own =
    one_of_same (taken_in one) (taken_in other) (timeline_in one) (timeline_in other) (best one) (best other) same own

pub converges : (configs : List ConfigValue) (now : ℤ) (turns : List TurnValue) (w : WorldValue) → HasOrigins configs now turns w → Converges configs now turns w
converges configs now turns w has_origins m peer took_all own =
    let best = has_origins.best m peer in (
      has_origins.taken m peer (session_in m) (timeline_in m) (taken_now m (timeline_in m) (best_there (taken_in m) (timeline_in m) best)),
      λ tl made. best_greatest (taken_in m) (timeline_in m) tl best (took_all tl made),
    )

-- who has taken the greatest holds it: nothing greater was made
greatest_held : Laws → (configs : List ConfigValue) (now : ℤ) (turns : List TurnValue) (w : WorldValue) → AllByRecursion IsConfig configs → AllByRecursion IsStoredConfig configs
    → IsMoment now → IsWorldOf configs now turns w → (k : ℕ) (m : Machine) (tl : Timeline) → slice_get w.machines k ≡ Some m → Leads k tl (opened_world configs now) turns
    → HaveOwnOrigins (IsMade configs now turns (session_in m)) → ((other : Timeline) → IsMade configs now turns (session_in m) other → other.beat ≤ℤ tl.beat) → timeline_in m ≡ tl
greatest_held laws configs now turns w are stored moment led k m tl there leads own greatest =
    let is : leads.world ≡ w = one_after (opened_world configs now) leads.world w turns leads.led led in
    let took : Has (taken_in m) tl = leads.taken m (subst (λ (z : WorldValue). slice_get z.machines k ≡ Some m) (sym is) there) in
    let has_origins = origins laws configs now turns w are stored moment led in
    let peer : IsPeer w m = (k, there) in
    let best = has_origins.best m peer in
    let held_made = has_origins.taken m peer (session_in m) (timeline_in m) (taken_now m (timeline_in m) (best_there (taken_in m) (timeline_in m) best)) in
    let tl_made = has_origins.taken m peer (session_in m) tl (taken_now m tl took) in
    own (timeline_in m) tl held_made tl_made
    (le_both (timeline_in m).beat tl.beat (greatest (timeline_in m) held_made) (best_greatest (taken_in m) (timeline_in m) tl best took))

-- who heard the greatest told has taken it
pub one_round : Laws → (configs : List ConfigValue) (now : ℤ) (turns : List TurnValue) (w : WorldValue) → AllByRecursion IsConfig configs → AllByRecursion IsStoredConfig configs
    → IsMoment now → IsWorldOf configs now turns w → OneRoundSuffices configs now turns w
one_round laws configs now turns w are stored moment led k m tl there hears own greatest =
    let opening = sound_opening laws Any configs now are stored moment (λ _ _ _. tt) in
    let leads = heard_after laws k (session_in m) tl (opened_world configs now) turns opening hears in
    greatest_held laws configs now turns w are stored moment led k m tl there leads own greatest

-- and so has who heard it of one that held it, or holds it
pub one_message : Laws → (configs : List ConfigValue) (now : ℤ) (turns : List TurnValue) (w : WorldValue) → AllByRecursion IsConfig configs → AllByRecursion IsStoredConfig configs
    → IsMoment now → IsWorldOf configs now turns w → OneMessageSuffices configs now turns w
one_message laws configs now turns w are stored moment led session tl own greatest k m there same either =
    let start = opened_world configs now in
    let opening = sound_opening laws Any configs now are stored moment (λ _ _ _. tt) in
    let leads = elim either as (λ _. Leads k tl start turns) [
      | inl hears ↦ heard_after laws k session tl start turns opening (hears_of_holder laws k session tl start turns opening hears)
      | inr holds ↦ held_after laws k session tl start turns opening holds
    ] in
    greatest_held laws configs now turns w are stored moment led k m tl there leads
    (subst (λ (id : NodeId). HaveOwnOrigins (IsMade configs now turns id)) (sym same) own)
    (λ other made. greatest other (subst (λ (id : NodeId). IsMade configs now turns id other) same made))

-- each shows a timeline that follows its session's
pub click_together : Laws → ClientsClick → (configs : List ConfigValue) (now : ℤ) (turns : List TurnValue) (w : WorldValue) → AllByRecursion IsConfig configs
    → AllByRecursion IsStoredConfig configs → IsMoment now → IsWorldOf configs now turns w → ClickTogether w
click_together laws clicks configs now turns w are stored moment led one other peer other_peer same time quantum reach other_reach =
    let opening = sound_opening laws Any configs now are stored moment (λ _ _ _. tt) in
    let sound = sound_after laws Any (opened_world configs now) w turns opening led (λ _ _ _. tt) in
    let is = sound.machines one (has_got w.machines peer.0 one peer.1) in
    let other_is = sound.machines other (has_got w.machines other_peer.0 other other_peer.1) in
    let follow : Follows (timeline_in one) one.published.timeline (offset_in one) =
    subst (λ (t : Timeline). Follows (timeline_in one) t (offset_in one)) (sym is.shows.shown) is.shows.following in
    let other_follows : Follows (timeline_in one) other.published.timeline (offset_in other) =
    subst (λ (t : Timeline). Follows t other.published.timeline (offset_in other)) (sym same)
    (subst (λ (t : Timeline). Follows (timeline_in other) t (offset_in other)) (sym other_is.shows.shown) other_is.shows.following) in
    let over : IsInReachOf (timeline_in one) other.published.timeline (offset_in other) (time +ℤ offset_in one -ℤ offset_in other) =
    subst (λ (t : Timeline). IsInReachOf t other.published.timeline (offset_in other) (time +ℤ offset_in one -ℤ offset_in other)) (sym same) other_reach in
    let tidy = is.machine.published.timeline in
    let other_tidy = other_is.machine.published.timeline in (
      clicks.click (timeline_in one) one.published.timeline other.published.timeline (offset_in one) (offset_in other) time tidy other_tidy follow other_follows reach over,
      clicks.accent (timeline_in one) one.published.timeline other.published.timeline (offset_in one) (offset_in other) time quantum tidy other_tidy follow other_follows reach over,
    )
