use Rattle.link_control.proofs.CourseLemmas.{ends_tell}
use Rattle.link_control.proofs.run.control_ends_tell.Goals as goal

pub returns : goal.returns
returns c = ends_tell
