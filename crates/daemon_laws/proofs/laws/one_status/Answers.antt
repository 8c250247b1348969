use Rattle.daemon_laws.proofs.FaultLineLemmas.{one_live_fault, one_head_fault}
use Rattle.daemon_laws.proofs.OneStatusLemmas.{one_status}
use Rattle.daemon_laws.proofs.laws.one_status.Goals as goal

pub returns : goal.returns
returns c =
    let laws = c.ends_tell_courses.ensures in
    one_status (record { well = laws.well; events = laws.events; audio = laws.audio; port = laws.port }) c.control_ends_tell.ensures
    c.one_script.ensures.fault (one_live_fault c.one_live_script.ensures.fault) (one_head_fault c.one_live_head.ensures.fault)
