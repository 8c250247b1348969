use Rattle.daemon_laws.proofs.ValidInputLemmas.{complete_valid}
use Rattle.daemon_laws.proofs.laws.valid_is_done.Goals as goal

pub returns : goal.returns
returns c =
    let laws = c.ends_tell_courses.ensures in
    complete_valid (record { well = laws.well; events = laws.events; audio = laws.audio; port = laws.port }) c.control_ends_tell.ensures
