use Rattle.std.proofs.Common.{◌≡◌, ℤ, Option}
use Rattle.lk_talks.specs.Talks.{TalksSeen}
use Rattle.link_shared.specs.Passes.{AppView}
use Rattle.link_clients.specs.Standing.{Stands}
use Rattle.link_clients.specs.declared.terms.Terms.{Terms}
use Rattle.link_clients.proofs.coming.admit_all.Given as goal

abbrev pub invariant-loop : goal.invariant-loop
invariant-loop g l = record {
  goes : (terms : Terms) (late : Option ℤ) (pass : AppView) (start : TalksSeen) (first : AppView) → Stands terms late start (g.L.Talks.seen l.fn.talks) first pass l.fn.hall
      → Stands terms late start (g.L.Talks.seen l.talks) first pass l.hall;
  opened : (g.L.Talks.seen l.talks).opened ≡ (g.L.Talks.seen l.fn.talks).opened;
}
