use Rattle.std.proofs.Common.{[]}
use Rattle.link_node.specs.Runs.{machine_after}
use Rattle.link_world.proofs.WorldLemmas.{origins, one_round, one_message, click_together, ClientsClick}
use Rattle.link_world.proofs.LowerLaws.{Laws}
use Rattle.link_world.proofs.laws.worlds_are_sound.Goals as goal

pub returns : goal.returns
unfolding machine_after
returns c =
    let laws : Laws = record {
      brought = c.timelines_are_brought.ensures;
      best = c.best_timelines_are_told.ensures.best;
      opening = c.nodes_are_well_formed.ensures.opening;
      step = c.nodes_are_well_formed.ensures.step;
      config = c.moments_never_fall.ensures.config;
      founds = c.who_is_left_founds.ensures.founds;
      alone = c.who_is_left_founds.ensures.alone;
      among = c.who_is_left_founds.ensures.among;
      opening_shows = λ config now is. c.clients_follow_sessions.ensures.run config now [] is;
      follows = c.clients_follow_sessions.ensures.step;
      shown = c.clients_follow_sessions.ensures.shown;
      keeps = c.timelines_stay.ensures.current;
      takes = c.told_timelines_are_held.ensures.taken;
      read = c.written_is_read.ensures.value;
      ping = c.measurements_tell_no_state.ensures.ping;
      pong = c.measurements_tell_no_state.ensures.pong;
    } in
    let clicks : ClientsClick = record {
      click = c.clients_of_a_session_click_together.ensures.click;
      accent = c.clients_of_a_session_click_together.ensures.accent;
    } in
    λ configs now turns w are stored moment led. record {
      origin = origins laws configs now turns w are stored moment led;
      round = one_round laws configs now turns w are stored moment led;
      message = one_message laws configs now turns w are stored moment led;
      clicks = click_together laws clicks configs now turns w are stored moment led;
    }
