-- Serving from its begin to its end.
use Rattle.std.proofs.Common.{◌≡◌, refl, sym, ◌∙◌, subst, arith, ℤ, pos, ◌≤ℤ◌, of_z, to_z, w64, [], length, Option}
use Rattle.std.proofs.lemmas.Int.{ints}
use Rattle.lk_talks.specs.Talks.{TalksSeen}
use Rattle.link_shared.specs.Passes.{AppView}
use Rattle.link_control.proofs.UsedLemmas.{nothing_used}
use Rattle.link_clients.specs.Deeds.{commits_in, last_in, newest_in, own_in, pairs_in, passed_in, sight_in}
use Rattle.link_clients.specs.Seats.{seat_in}
use Rattle.link_clients.specs.Standing.{HasStopped, IsFresh, Stands}
use Rattle.link_clients.specs.declared.hall.Hall.{Hall}
use Rattle.link_clients.specs.declared.terms.HostEnd.{HostEnd}
use Rattle.link_clients.specs.declared.terms.HostEnd.TheVariants as end
use Rattle.link_clients.specs.declared.terms.Terms.{Terms}
use Rattle.link_clients.proofs.DeedLemmas.{ends_there, passes_none}
use Rattle.link_clients.proofs.LookLemmas.{none_waits, stored_moment}

pub begun : (terms : Terms) (late : Option ℤ) (start : TalksSeen) (first : AppView) (hall : Hall) → IsFresh hall → Stands terms late start start first first hall
unfolding pairs_in commits_in own_in last_in newest_in sight_in passed_in seat_in
begun terms late start first hall fresh = record {
  done = [];
  hosting = record {
    lawful = tt;
    passed = passes_none start.passed;
    opened = refl;
    quiet = refl;
    used = nothing_used first;
    own = refl;
    last = fresh.last;
    newest = fresh.newest;
    sight = fresh.sight;
    goes_on = λ over. over;
  };
  seats = λ t seat there. fresh.free t seat there;
}

-- a call after which the talks have seen the same
pub stands_same : (terms : Terms) (late : Option ℤ) (start now now_then : TalksSeen) (first pass : AppView) (hall : Hall) → now_then.passed ≡ now.passed → now_then.opened ≡ now.opened
    → now_then.faults ≡ now.faults → Stands terms late start now first pass hall → Stands terms late start now_then first pass hall
stands_same terms late start now now_then first pass hall passed opened quiet was = record {
  done = was.done;
  hosting = record {
    lawful = was.hosting.lawful;
    passed = passed ∙ was.hosting.passed;
    opened = opened ∙ was.hosting.opened;
    quiet = quiet ∙ was.hosting.quiet;
    used = was.hosting.used;
    own = was.hosting.own;
    last = was.hosting.last;
    newest = was.hosting.newest;
    sight = was.hosting.sight;
    goes_on = was.hosting.goes_on;
  };
  seats = was.seats;
}

pub closed : (terms : Terms) (late : Option ℤ) (start now now_then : TalksSeen) (first pass : AppView) (hall : Hall) → now_then.passed ≡ now.passed → now_then.opened ≡ now.opened
    → now_then.faults ≡ now.faults → length hall.seats.items ≡ 15 → Stands terms late start now first pass hall → HasStopped terms late start now_then first pass end.Closed
closed terms late start now now_then first pass hall passed opened quiet count was = (
  was.done,
  ends_there terms late start now now_then first pass hall was.done end.Closed was.hosting passed opened (quiet ∙ was.hosting.quiet, was.hosting.goes_on)
      (λ between. none_waits first.own was.done hall.seats.items count was.seats),
)

-- where the pace tells the same
pub stands_at : (terms : Terms) (late late_then : Option ℤ) (start now : TalksSeen) (first pass : AppView) (hall : Hall) → late ≡ late_then → Stands terms late start now first pass hall
    → Stands terms late_then start now first pass hall
stands_at terms late late_then start now first pass hall same was = subst (λ (l : Option ℤ). Stands terms l start now first pass hall) same was

pub stopped_at : (terms : Terms) (late late_then : Option ℤ) (start now : TalksSeen) (first pass : AppView) (ended : HostEnd) → late ≡ late_then → HasStopped terms late start now first pass ended
    → HasStopped terms late_then start now first pass ended
stopped_at terms late late_then start now first pass ended same was = subst (λ (l : Option ℤ). HasStopped terms l start now first pass ended) same was

-- how long a round waits, as it is stored
pub stored_wait : (z : ℤ) → (pos 0 ≤ℤ z) × (z ≤ℤ pos 250_000) → (pos 0 ≤ℤ to_z w64 (of_z w64 z)) × (to_z w64 (of_z w64 z) ≤ℤ pos 250_000)
stored_wait z range =
    subst (λ (x : ℤ). (pos 0 ≤ℤ x) × (x ≤ℤ pos 250_000)) (sym (stored_moment z (range.0, omega (arith, ints, range.1)))) range
