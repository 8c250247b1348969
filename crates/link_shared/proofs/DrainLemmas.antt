-- One popped item after the other.
use Rattle.std.proofs.Common.{◌≡◌, ℕ, ℤ, ◌≤◌, Bool, false, ◌||◌, List, [], ◌∷◌, ◌++◌, length, true, sym, ap, ◌∙◌, subst, append_assoc, append-nil, arith}
use Rattle.std.proofs.lemmas.List.{map-append}
use Rattle.client_state.specs.declared.commit.Commit.{Commit}
use Rattle.link_node.specs.Config.{ConfigValue}
use Rattle.crossbeam_queue.specs.Fifo.{Held}
use Rattle.link_node.specs.Event.{EventValue, App, SendingValue}
use Rattle.link_node.specs.Machine.{Machine}
use Rattle.link_node.specs.Opening.{opened}
use Rattle.link_shared.specs.Draining.{HasDrained}
use Rattle.link_shared.specs.Ending.{app_events}
use Rattle.link_shared.specs.Journal.{IsOffered}
use Rattle.link_shared.specs.Queue.{commits_in, SeesRest}
use Rattle.link_shared.specs.declared.queue.Hand.{Hand}
use Rattle.link_shared.specs.declared.queue.Item.{Item}
use Rattle.link_shared.proofs.JournalLemmas.{offered_none, offered_both}

-- nothing was popped, or a quit
pub drained_none : (opening : Machine) (most : ℕ) (now : ℤ) (popped popped_then : List Commit) (journal : List EventValue) → popped_then ≡ popped → length journal ≤ most
    → HasDrained opening most now popped popped_then journal journal false
drained_none opening most now popped popped_then journal same fits =
    record { rest = []; popped_are = same ∙ sym (append-nil popped); offered = offered_none opening most journal [] fits }

-- a commit was popped and offered
pub drained_one : (opening : Machine) (most : ℕ) (now now' : ℤ) (commit : Commit) (popped popped_then : List Commit) (before after : List EventValue) (unsent sent : List SendingValue) (full : Bool)
    → now' ≡ now → popped_then ≡ popped ++ commit ∷ [] → unsent ≡ [] → sent ≡ unsent → IsOffered opening most (App commit now' ∷ []) before after unsent sent full
    → HasDrained opening most now popped popped_then before after full
drained_one opening most now now' commit popped popped_then before after unsent sent full same_now popped_are none stays offered =
    let sent_none : sent ≡ [] = stays ∙ none in record {
      rest = commit ∷ [];
      popped_are = popped_are;
      offered = subst (λ (x : ℤ × List SendingValue × List SendingValue). IsOffered opening most (App commit x.0 ∷ []) before after x.1 x.2 full)
          (λ k. (same_now k, none k, sent_none k)) offered;
    }

rest_left : (hand : Hand) (items : List Item) → length items ≡ 0 → hand.pushed ≡ hand.popped ++ commits_in items → hand.pushed ≡ hand.popped
rest_left hand [] none rest = rest ∙ append-nil hand.popped
rest_left hand (item ∷ items) none rest = absurd (omega (arith, none))

-- where the queue was empty, all that was pushed was popped
pub none_left : (hand : Hand) → hand.pushes ≡ true → hand.pops ≡ true → Held 0 (SeesRest hand) → hand.pushed ≡ hand.popped
none_left hand pushes pops held = rest_left hand held.0 held.1 (held.2 pushes pops).0

pub drained_both : (opening : Machine) (most : ℕ) (now : ℤ) (popped between popped_then : List Commit) (before middle after : List EventValue) (full full' : Bool)
    → HasDrained opening most now popped between before middle full → HasDrained opening most now between popped_then middle after full'
    → HasDrained opening most now popped popped_then before after (full || full')
drained_both opening most now popped between popped_then before middle after full full' first second = record {
  rest = first.rest ++ second.rest;
  popped_are = second.popped_are ∙ ap (λ l. l ++ second.rest) first.popped_are ∙ append_assoc popped first.rest second.rest;
  offered = subst (λ (es : List EventValue). IsOffered opening most es before after [] [] (full || full')) (sym (map-append (λ (commit : Commit). App commit now) first.rest second.rest))
      (offered_both opening most (app_events now first.rest) (app_events now second.rest) before middle after [] [] [] full full' first.offered second.offered);
}

-- the same, where the config and the opening moment have stayed
pub drained_more : (config config' : ConfigValue) (at at' : ℤ) (most most' : ℕ) (now : ℤ) (popped between popped_then : List Commit) (before middle after : List EventValue) (full full' : Bool)
    → config' ≡ config → at' ≡ at → most' ≡ most
    → HasDrained (opened config at) most now popped between before middle full → HasDrained (opened config' at') most' now between popped_then middle after full'
    → HasDrained (opened config at) most now popped popped_then before after (full || full')
drained_more config config' at at' most most' now popped between popped_then before middle after full full' same_config same_at same_most first second =
    let second_as : HasDrained (opened config at) most now between popped_then middle after full' =
    subst (λ (x : ConfigValue × ℤ × ℕ). HasDrained (opened x.0 x.1) x.2 now between popped_then middle after full') (λ k. (same_config k, same_at k, same_most k)) second in
    drained_both (opened config at) most now popped between popped_then before middle after full full' first second_as

-- nothing more was popped
pub drained_end : (opening : Machine) (most : ℕ) (now now' : ℤ) (popped between popped_then : List Commit) (before middle after : List EventValue) (full : Bool)
    → now' ≡ now → popped_then ≡ between → after ≡ middle → HasDrained opening most now' popped between before middle full → HasDrained opening most now popped popped_then before after full
drained_end opening most now now' popped between popped_then before middle after full same_now same_popped same_journal drained =
    subst (λ (x : ℤ × List Commit × List EventValue). HasDrained opening most x.0 popped x.1 before x.2 full) (λ k. (same_now k, sym same_popped k, sym same_journal k)) drained
