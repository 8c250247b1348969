-- By how a run under control ended, what it met.
use Rattle.std.proofs.Common.{◌≡◌, ◌⊎◌, inl, inr, Bool, true, false, refl}
use Rattle.link_control.specs.ControlRun.{EndsTell, first_of}
use Rattle.link_control.specs.declared.run.ControlEnd.TheVariants as end
use Rattle.link_control.specs.declared.server.Served.{Served}
use Rattle.link_control.specs.declared.server.Served.TheVariants as served

well_course : (ended : Served) (failed full : Bool) → end.Well ≡ first_of ended failed full → (ended ≡ served.Ended) × (failed ≡ false) × (full ≡ false)
well_course (served.Memory error) failed full is = absurd (cc is)
well_course served.Failed true full is = absurd (cc is)
well_course served.Failed false full is = absurd (cc is)
well_course served.Ended true full is = absurd (cc is)
well_course served.Ended false true is = absurd (cc is)
well_course served.Ended false false is = (refl, refl, refl)
well_course served.Lines true full is = absurd (cc is)
well_course served.Lines false true is = absurd (cc is)
well_course served.Lines false false is = absurd (cc is)

lines_course : (ended : Served) (failed full : Bool) → end.Lines ≡ first_of ended failed full → (ended ≡ served.Lines) × (failed ≡ false) × (full ≡ false)
lines_course (served.Memory error) failed full is = absurd (cc is)
lines_course served.Failed true full is = absurd (cc is)
lines_course served.Failed false full is = absurd (cc is)
lines_course served.Ended true full is = absurd (cc is)
lines_course served.Ended false true is = absurd (cc is)
lines_course served.Ended false false is = absurd (cc is)
lines_course served.Lines true full is = absurd (cc is)
lines_course served.Lines false true is = absurd (cc is)
lines_course served.Lines false false is = (refl, refl, refl)

events_course : (ended : Served) (failed full : Bool) → end.Events ≡ first_of ended failed full
    → ((ended ≡ served.Ended) ⊎ (ended ≡ served.Lines)) × (failed ≡ false) × (full ≡ true)
events_course (served.Memory error) failed full is = absurd (cc is)
events_course served.Failed true full is = absurd (cc is)
events_course served.Failed false full is = absurd (cc is)
events_course served.Ended true full is = absurd (cc is)
events_course served.Ended false true is = (inl refl, refl, refl)
events_course served.Ended false false is = absurd (cc is)
events_course served.Lines true full is = absurd (cc is)
events_course served.Lines false true is = (inr refl, refl, refl)
events_course served.Lines false false is = absurd (cc is)

talk_course : (ended : Served) (failed full : Bool) → end.Talk ≡ first_of ended failed full → (ended ≡ served.Failed) × (failed ≡ false)
talk_course (served.Memory error) failed full is = absurd (cc is)
talk_course served.Failed true full is = absurd (cc is)
talk_course served.Failed false full is = (refl, refl)
talk_course served.Ended true full is = absurd (cc is)
talk_course served.Ended false true is = absurd (cc is)
talk_course served.Ended false false is = absurd (cc is)
talk_course served.Lines true full is = absurd (cc is)
talk_course served.Lines false true is = absurd (cc is)
talk_course served.Lines false false is = absurd (cc is)

port_course : (ended : Served) (failed full : Bool) → end.Port ≡ first_of ended failed full
    → (failed ≡ true) × ((ended ≡ served.Ended) ⊎ ((ended ≡ served.Failed) ⊎ (ended ≡ served.Lines)))
port_course (served.Memory error) failed full is = absurd (cc is)
port_course served.Failed true full is = (refl, inr (inl refl))
port_course served.Failed false full is = absurd (cc is)
port_course served.Ended true full is = (refl, inl refl)
port_course served.Ended false true is = absurd (cc is)
port_course served.Ended false false is = absurd (cc is)
port_course served.Lines true full is = (refl, inr (inr refl))
port_course served.Lines false true is = absurd (cc is)
port_course served.Lines false false is = absurd (cc is)

pub ends_tell : EndsTell
ends_tell = record {
  well = well_course;
  lines = lines_course;
  events = events_course;
  talk = talk_course;
  port = port_course;
}
