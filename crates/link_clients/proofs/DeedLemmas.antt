-- One deed more.
use Rattle.std.proofs.Common.{◌≡◌, refl, sym, ◌∙◌, ap, ℕ, ℤ, List, [], ◌∷◌, ◌++◌, Option, Some, None, append_assoc, append-nil}
use Rattle.std.specs.Option.{option_map}
use Rattle.lk_talks.specs.Talks.{Passed, Passes, TalksSeen}
use Rattle.lk_talks.specs.declared.talks.Said.{Said}
use Rattle.link_shared.specs.Passes.{AppView}
use Rattle.link_control.specs.Serving.{HasUsed}
use Rattle.link_clients.specs.Deeds.{Deed, commits_in, dropping, hearing, joining, last_in, leaving, newest_in, own_in, pairs_in, passed_by, passed_in, sight_in, telling}
use Rattle.link_clients.specs.Hosting.{EndsBetween, EndsHosting, HasHosted}
use Rattle.link_clients.specs.Lawful.{IsOver, MayFollow, NoneWaits}
use Rattle.link_clients.specs.Standing.{IsHosting, sight_of}
use Rattle.link_clients.specs.declared.hall.Hall.{Hall}
use Rattle.link_clients.specs.declared.terms.HostEnd.{HostEnd}
use Rattle.link_clients.specs.declared.terms.Terms.{Terms}

-- ---- what passed

pub passes_none : (passed : Option (List Passed)) → Passes passed [] passed
passes_none None = refl
passes_none (Some all) = ap Some (sym (append-nil all))

two_parts : (before : Option (List Passed)) (xs ys : List Passed)
    → option_map (λ all. all ++ ys) (option_map (λ all. all ++ xs) before) ≡ option_map (λ all. all ++ (xs ++ ys)) before
two_parts None xs ys = refl
two_parts (Some all) xs ys = ap Some (append_assoc all xs ys)

pub passes_more : (before mid after : Option (List Passed)) (xs ys : List Passed) → Passes before xs mid → Passes mid ys after → Passes before (xs ++ ys) after
passes_more before mid after xs ys one two = two ∙ (ap (option_map (λ all. all ++ ys)) one ∙ two_parts before xs ys)

-- ---- a deed

module _ (terms : Terms) (late : Option ℤ) (start now now_then : TalksSeen) (first pass pass_then : AppView) (hall : Hall) (done : List Deed) (deed : Deed) where
  passed_then : IsHosting terms late start now first pass hall done → Passes now.passed (passed_by terms.may_end first.own done deed) now_then.passed
      → Passes start.passed (passed_in terms.may_end first.own (deed ∷ done)) now_then.passed
  unfolding passed_in
  passed_then was passed = passes_more start.passed now.passed now_then.passed (passed_in terms.may_end first.own done) (passed_by terms.may_end first.own done deed) was.passed passed

  pub one_more : (hall_then : Hall) → IsHosting terms late start now first pass hall done → MayFollow late first.own done deed
      → Passes now.passed (passed_by terms.may_end first.own done deed) now_then.passed → now_then.opened ≡ now.opened → now_then.faults ≡ now.faults
      → HasUsed first pass_then (pairs_in (deed ∷ done)) (commits_in first.own (deed ∷ done)) → pass_then.own ≡ own_in first.own (deed ∷ done)
      → hall_then.last ≡ last_in (deed ∷ done) → hall_then.newest ≡ newest_in first.own (deed ∷ done)
      → sight_of hall_then.sighted ≡ sight_in (deed ∷ done) → (IsOver terms (deed ∷ done) → ⊥)
      → IsHosting terms late start now_then first pass_then hall_then (deed ∷ done)
  one_more hall_then was may passed opened quiet used own last newest sight goes_on = record {
    lawful = (may, was.goes_on, was.lawful);
    passed = passed_then was passed;
    opened = opened ∙ was.opened;
    quiet = quiet ∙ was.quiet;
    used = used;
    own = own;
    last = last;
    newest = newest;
    sight = sight;
    goes_on = goes_on;
  }

  -- the last one
  pub ends_by : (ended : HostEnd) → IsHosting terms late start now first pass hall done → MayFollow late first.own done deed
      → Passes now.passed (passed_by terms.may_end first.own done deed) now_then.passed → now_then.opened ≡ now.opened
      → HasUsed first pass_then (pairs_in (deed ∷ done)) (commits_in first.own (deed ∷ done)) → pass_then.own ≡ own_in first.own (deed ∷ done)
      → EndsHosting terms start now_then (deed ∷ done) ended → (EndsBetween ended → NoneWaits first.own (deed ∷ done))
      → HasHosted terms late start now_then first pass_then (deed ∷ done) ended
  ends_by ended was may passed opened used own ends settled = record {
    lawful = (may, was.goes_on, was.lawful);
    passed = passed_then was passed;
    opened = opened ∙ was.opened;
    used = used;
    own = own;
    ends = ends;
    settled = settled;
  }

-- serving ends without a deed
pub ends_there : (terms : Terms) (late : Option ℤ) (start now now_then : TalksSeen) (first pass : AppView) (hall : Hall) (done : List Deed) (ended : HostEnd)
    → IsHosting terms late start now first pass hall done → now_then.passed ≡ now.passed → now_then.opened ≡ now.opened
    → EndsHosting terms start now_then done ended → (EndsBetween ended → NoneWaits first.own done)
    → HasHosted terms late start now_then first pass done ended
ends_there terms late start now now_then first pass hall done ended was passed opened ends settled = record {
  lawful = was.lawful;
  passed = passed ∙ was.passed;
  opened = opened ∙ was.opened;
  used = was.used;
  own = was.own;
  ends = ends;
  settled = settled;
}

-- ---- deeds of the talks alone

module _ (terms : Terms) (late : Option ℤ) (start now now_then : TalksSeen) (first pass : AppView) (hall hall_then : Hall) (done : List Deed) (was : IsHosting terms late start now first pass hall done)
    (opened : now_then.opened ≡ now.opened) (quiet : now_then.faults ≡ now.faults) (last : hall_then.last ≡ hall.last) (newest : hall_then.newest ≡ hall.newest)
    (sight : sight_of hall_then.sighted ≡ sight_of hall.sighted) where
  pub joined : (s : ℕ) → MayFollow late first.own done (joining s) → Passes now.passed (passed_by terms.may_end first.own done (joining s)) now_then.passed
      → IsHosting terms late start now_then first pass hall_then (joining s ∷ done)
  unfolding pairs_in commits_in own_in last_in newest_in sight_in
  joined s may passed =
      one_more terms late start now now_then first pass pass hall done (joining s) hall_then was may passed opened quiet was.used was.own
      (last ∙ was.last) (newest ∙ was.newest) (sight ∙ was.sight) (λ over. over)

  pub heard : (s : ℕ) (bytes : List ℕ) → MayFollow late first.own done (hearing s bytes) → Passes now.passed (passed_by terms.may_end first.own done (hearing s bytes)) now_then.passed
      → IsHosting terms late start now_then first pass hall_then (hearing s bytes ∷ done)
  unfolding pairs_in commits_in own_in last_in newest_in sight_in
  heard s bytes may passed =
      one_more terms late start now now_then first pass pass hall done (hearing s bytes) hall_then was may passed opened quiet was.used was.own
      (last ∙ was.last) (newest ∙ was.newest) (sight ∙ was.sight) (λ over. over)

  pub told : (s : ℕ) (taken : Said) → MayFollow late first.own done (telling s taken) → Passes now.passed (passed_by terms.may_end first.own done (telling s taken)) now_then.passed
      → IsHosting terms late start now_then first pass hall_then (telling s taken ∷ done)
  unfolding pairs_in commits_in own_in last_in newest_in sight_in
  told s taken may passed =
      one_more terms late start now now_then first pass pass hall done (telling s taken) hall_then was may passed opened quiet was.used was.own
      (last ∙ was.last) (newest ∙ was.newest) (sight ∙ was.sight) (λ over. over)

  pub left : (s : ℕ) → MayFollow late first.own done (leaving s) → Passes now.passed (passed_by terms.may_end first.own done (leaving s)) now_then.passed
      → IsHosting terms late start now_then first pass hall_then (leaving s ∷ done)
  unfolding pairs_in commits_in own_in last_in newest_in sight_in
  left s may passed =
      one_more terms late start now now_then first pass pass hall done (leaving s) hall_then was may passed opened quiet was.used was.own
      (last ∙ was.last) (newest ∙ was.newest) (sight ∙ was.sight) (λ over. over)

  pub dropped : (s : ℕ) → MayFollow late first.own done (dropping s) → Passes now.passed (passed_by terms.may_end first.own done (dropping s)) now_then.passed
      → IsHosting terms late start now_then first pass hall_then (dropping s ∷ done)
  unfolding pairs_in commits_in own_in last_in newest_in sight_in
  dropped s may passed =
      one_more terms late start now now_then first pass pass hall done (dropping s) hall_then was may passed opened quiet was.used was.own
      (last ∙ was.last) (newest ∙ was.newest) (sight ∙ was.sight) (λ over. over)
