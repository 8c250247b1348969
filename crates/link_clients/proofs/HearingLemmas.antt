-- A client is heard once, and all are.
use Rattle.std.proofs.Common.{◌≡◌, ◌⊎◌, inl, inr, refl, sym, ◌∙◌, ap, subst, ℕ, ℤ, false, List, [], ◌++◌, Option, Some, None, append-nil}
use Rattle.std.specs.Option.{option_map}
use Rattle.std.specs.Prelude.{slice_get, pos}
use Rattle.lk_outside.specs.Faults.{Rose}
use Rattle.lk_talks.specs.Talks.{Passed, Passes, TalksSeen}
use Rattle.link_shared.specs.Passes.{AppView}
use Rattle.link_clients.specs.Seats.{SeatView, heard_of, nobody}
use Rattle.link_clients.specs.Standing.{GoesOn, GoesOnAmid, HasStopped, Hosts, IsSeat, IsSeated, Stands, sight_of}
use Rattle.link_clients.specs.declared.hall.Hall.{Hall}
use Rattle.link_clients.specs.declared.piece.Going.{Going}
use Rattle.link_clients.specs.declared.piece.Going.TheVariants as going
use Rattle.link_clients.specs.declared.seat.Seat.{Seat}
use Rattle.link_clients.specs.declared.terms.HostEnd.{HostEnd}
use Rattle.link_clients.specs.declared.terms.HostEnd.TheVariants as end
use Rattle.link_clients.specs.declared.terms.Terms.{Terms}
use Rattle.link_clients.proofs.DeedLemmas.{ends_there}
use Rattle.link_clients.proofs.PieceLemmas.{piece_done}

-- what is kept of a client that is heard
pub heard_seated : (seat was seat_then : Seat) (at : ℤ) (bytes : List ℕ) (view : SeatView) → was ≡ seat → seat_then ≡ record was { heard_at = at; eager = 0 }
    → IsSeated view seat → IsSeated (heard_of at bytes view) seat_then
unfolding heard_of
heard_seated seat was seat_then at bytes view same is seated = record {
  here = seated.here ∙ ap (λ (x : Seat). x.here) (sym same) ∙ ap (λ (x : Seat). x.here) (sym is);
  watching = seated.watching ∙ ap (λ (x : Seat). x.watching) (sym same) ∙ ap (λ (x : Seat). x.watching) (sym is);
  told = seated.told ∙ ap (λ (x : Seat). x.told) (sym same) ∙ ap (λ (x : Seat). x.told) (sym is);
  told_at = seated.told_at ∙ ap (λ (x : Seat). x.told_at) (sym same) ∙ ap (λ (x : Seat). x.told_at) (sym is);
  heard_at = ap (λ (x : Seat). x.heard_at) (sym is);
}

-- a free seat
pub is_free : (seat : Seat) → seat.here ≡ false → seat.watching ≡ false → seat.line.items ≡ [] → seat.told ≡ None → seat.told_at ≡ pos 0 → seat.heard_at ≡ pos 0 → IsSeat nobody seat
unfolding nobody
is_free seat here watching line told told_at heard_at = record {
  seated = record { here = sym here; watching = sym watching; told = sym told; told_at = sym told_at; heard_at = sym heard_at };
  waiting = refl;
  rest = line;
}

-- its piece was taken, or it is gone
pub piece_heard : (terms : Terms) (late : Option ℤ) (start now : TalksSeen) (first pass : AppView) (hall : Hall) (s : ℕ) (went : Going) → (went ≡ going.On) ⊎ (went ≡ going.Gone)
    → GoesOnAmid terms late start now first pass hall s [] went → Stands terms late start now first pass hall
piece_heard terms late start now first pass hall s going.On is goes = piece_done terms late start now first pass hall s goes
piece_heard terms late start now first pass hall s going.Gone is goes = goes
piece_heard terms late start now first pass hall s (going.Over ended) (inl is) goes = absurd (cc is)
piece_heard terms late start now first pass hall s (going.Over ended) (inr is) goes = absurd (cc is)

-- or serving ended
pub piece_ended : (terms : Terms) (late : Option ℤ) (start now : TalksSeen) (first pass : AppView) (hall : Hall) (s : ℕ) (went : Going) (ended : HostEnd) → went ≡ going.Over ended
    → GoesOnAmid terms late start now first pass hall s [] went → HasStopped terms late start now first pass ended
piece_ended terms late start now first pass hall s went ended is goes = subst (GoesOnAmid terms late start now first pass hall s []) is goes

-- ---- nothing passed

none_passed : (before after : Option (List Passed)) → Passes before [] after → after ≡ before
none_passed before after passes = passes ∙ go before
  where
    go : (o : Option (List Passed)) → option_map (λ all. all ++ []) o ≡ o
    go None = refl
    go (Some all) = ap Some (append-nil all)

module _ (terms : Terms) (late : Option ℤ) (start now now_then : TalksSeen) (first pass : AppView) (hall : Hall) where
  pub none_heard : Passes now.passed [] now_then.passed → now_then.opened ≡ now.opened → now_then.faults ≡ now.faults → Stands terms late start now first pass hall
      → Stands terms late start now_then first pass hall
  none_heard passed opened quiet was = record {
    done = was.done;
    hosting = record {
      lawful = was.hosting.lawful;
      passed = none_passed now.passed now_then.passed passed ∙ was.hosting.passed;
      opened = opened ∙ was.hosting.opened;
      quiet = quiet ∙ was.hosting.quiet;
      used = was.hosting.used;
      own = was.hosting.own;
      last = was.hosting.last;
      newest = was.hosting.newest;
      sight = was.hosting.sight;
      goes_on = was.hosting.goes_on;
    };
    seats = was.seats;
  }

  pub hearing_failed : Passes now.passed [] now_then.passed → now_then.opened ≡ now.opened → Rose now.faults now_then.faults → Stands terms late start now first pass hall
      → HasStopped terms late start now_then first pass end.Failed
  hearing_failed passed opened rose was = (
    was.done,
    ends_there terms late start now now_then first pass hall was.done end.Failed was.hosting (none_passed now.passed now_then.passed passed) opened
        (subst (λ (n : ℕ). Rose n now_then.faults) was.hosting.quiet rose) (λ between. absurd between),
  )

-- what is kept of the round doesn't matter
pub stands_same : (terms : Terms) (late : Option ℤ) (start now : TalksSeen) (first pass : AppView) (hall hall_then : Hall) → hall_then.seats.items ≡ hall.seats.items → hall_then.last ≡ hall.last → hall_then.newest ≡ hall.newest → hall_then.sighted ≡ hall.sighted
    → Stands terms late start now first pass hall → Stands terms late start now first pass hall_then
stands_same terms late start now first pass hall hall_then seats last newest sighted was = record {
  done = was.done;
  hosting = record {
    lawful = was.hosting.lawful;
    passed = was.hosting.passed;
    opened = was.hosting.opened;
    quiet = was.hosting.quiet;
    used = was.hosting.used;
    own = was.hosting.own;
    last = last ∙ was.hosting.last;
    newest = newest ∙ was.hosting.newest;
    sight = ap sight_of sighted ∙ was.hosting.sight;
    goes_on = was.hosting.goes_on;
  };
  seats = λ t seat at. was.seats t seat (ap (λ (l : List Seat). slice_get l t) (sym seats) ∙ at);
}

-- ---- one after another

pub hosts_then : (terms : Terms) (late late_then : Option ℤ) (now mid after : TalksSeen) (pass pass_mid pass_then : AppView) (hall hall_mid hall_then : Hall) (ended : Option HostEnd)
    → late_then ≡ late → Hosts terms late now mid pass pass_mid hall hall_mid None → Hosts terms late_then mid after pass_mid pass_then hall_mid hall_then ended
    → Hosts terms late now after pass pass_then hall hall_then ended
hosts_then terms late late_then now mid after pass pass_mid pass_then hall hall_mid hall_then ended late_is one two = λ start first was.
    subst (λ (z : Option ℤ). GoesOn terms z start after first pass_then hall_then ended) late_is
    (two start first (subst (λ (z : Option ℤ). Stands terms z start mid first pass_mid hall_mid) (sym late_is) (one start first was)))
