use Rattle.std.proofs.Common.{◌∙◌}
use Rattle.link_clients.proofs.ComingLemmas.{said_on}
use Rattle.link_clients.proofs.telling.tell_all.Goals as goal

pub loop-seat-preserved : goal.loop-seat-preserved
loop-seat-preserved g c = record {
  goes = λ terms late pass start first was.
      said_on terms late start _ first pass _ _ c.in_default-tell_where_news.not-Failed (c.tell_where_news.ensures.goes terms late pass start first (c.loop-seat.invariant.goes terms late pass start first was));
  opened = c.tell_where_news.ensures.opened ∙ c.loop-seat.invariant.opened;
  newest = c.tell_where_news.ensures.newest ∙ c.loop-seat.invariant.newest;
}
