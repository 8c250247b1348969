use Rattle.std.proofs.Common.{ap}
use Rattle.link_text.specs.LoadRun.{LoadRun}
use Rattle.link_commands.specs.Loading.{told_of}
use Rattle.link_commands.proofs.LoadLemmas.{load_text}
use Rattle.link_commands.proofs.load.load_main.Goals as goal

pub returns-in-Ok-write_load-clause-ends : goal.returns-in-Ok-write_load-clause-ends
returns-in-Ok-write_load-clause-ends g c = (
  c.in-Ok.numbers.seed,
  c.in-Ok.numbers.count,
  c.in-Ok.ensures.named,
  (
    told_of c.take_events-counts.result c.state.result,
    load_text c.in-Ok.numbers.seed c.in-Ok.numbers.count _ _ _ _ c.take_events-counts.result c.state.result
        (rw (ap (λ (run : LoadRun). run.seed) c.in-Ok-new.ensures.run) at c.take_events-counts.ensures.taken)
        c.state.ensures.value c.take_events-counts.ensures.events,
    record { whole = c.in-Ok-write_load.ensures.whole; quiet = c.in-Ok-write_load.ensures.quiet },
  ),
)

pub returns-clause-ends : goal.returns-clause-ends
returns-clause-ends g c = (
  c.in-Ok.numbers.seed,
  c.in-Ok.numbers.count,
  c.in-Ok.ensures.named,
  (
    told_of c.take_events-counts.result c.state.result,
    load_text c.in-Ok.numbers.seed c.in-Ok.numbers.count _ _ _ _ c.take_events-counts.result c.state.result
        (rw (ap (λ (run : LoadRun). run.seed) c.in-Ok-new.ensures.run) at c.take_events-counts.ensures.taken)
        c.state.ensures.value c.take_events-counts.ensures.events,
    record { part = c.in-Err.ensures.part; rose = c.in-Err.ensures.cause },
  ),
)
