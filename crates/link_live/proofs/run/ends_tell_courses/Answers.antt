use Rattle.link_live.proofs.CourseLemmas.{audio_course, events_course, port_course, well_course}
use Rattle.link_live.proofs.run.ends_tell_courses.Goals as goal

pub returns-clause-well : goal.returns-clause-well
returns-clause-well c = well_course

pub returns-clause-events : goal.returns-clause-events
returns-clause-events c = events_course

pub returns-clause-audio : goal.returns-clause-audio
returns-clause-audio c = audio_course

pub returns-clause-port : goal.returns-clause-port
returns-clause-port c = port_course
