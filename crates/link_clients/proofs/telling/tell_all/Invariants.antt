use Rattle.std.proofs.Common.{◌≡◌, ℤ, Option}
use Rattle.lk_talks.specs.Talks.{TalksSeen}
use Rattle.link_shared.specs.Passes.{AppView}
use Rattle.link_clients.specs.Standing.{Stands}
use Rattle.link_clients.specs.declared.terms.Terms.{Terms}
use Rattle.link_clients.proofs.telling.tell_all.Given as goal

abbrev pub invariant-loop-seat : goal.invariant-loop-seat
invariant-loop-seat g l = record {
  goes : (terms : Terms) (late : Option ℤ) (pass : AppView) (start : TalksSeen) (first : AppView) → Stands terms late start (g.L.Talks.seen l.fn.talks) first pass l.fn.hall
      → Stands terms late start (g.L.Talks.seen l.talks) first pass l.hall;
  opened : (g.L.Talks.seen l.talks).opened ≡ (g.L.Talks.seen l.fn.talks).opened;
  newest : l.hall.newest ≡ l.fn.hall.newest;
}
