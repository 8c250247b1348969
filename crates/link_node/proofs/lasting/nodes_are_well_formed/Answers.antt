use Rattle.link_node.proofs.WellFormedLemmas.{opened_sound, step_sound, run_sound, published_tidy}
use Rattle.link_node.proofs.lasting.nodes_are_well_formed.Goals as goal

pub returns-clause-opening : goal.returns-clause-opening
returns-clause-opening c = opened_sound

pub returns-clause-step : goal.returns-clause-step
returns-clause-step c = step_sound

pub returns-clause-run : goal.returns-clause-run
returns-clause-run c =
    run_sound (record {
      config = c.moments_never_fall.ensures.config;
      app = c.commits_are_counted.ensures.app;
      audio = c.commits_are_counted.ensures.audio;
    })

pub returns-clause-published : goal.returns-clause-published
returns-clause-published c =
    published_tidy (record {
      config = c.moments_never_fall.ensures.config;
      app = c.commits_are_counted.ensures.app;
      audio = c.commits_are_counted.ensures.audio;
    })
