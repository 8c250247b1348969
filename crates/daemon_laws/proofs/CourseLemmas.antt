-- By how a live run ended: which counts of failures rose and which stayed, and whether its journal has ended.
use Rattle.std.proofs.Common.{◌≡◌, Bool, true, false, ℤ, Option}
use Rattle.lk_outside.specs.Audio.{AudioSeen}
use Rattle.lk_outside.specs.Faults.{Rose}
use Rattle.lk_outside.specs.Port.{PortSeen}
use Rattle.link_live.specs.Headline.{LiveSetup}
use Rattle.link_live.specs.Journal.{has_ended}
use Rattle.link_live.specs.LiveRun.{EndsLiveRun, first_of}
use Rattle.link_live.specs.Report.{ReportValue}
use Rattle.link_live.specs.declared.run.LiveEnd.TheVariants as end

-- by how a run ended, what it met
pub record CourseLaws : Type 0 where
  pub well : (captured failed played full : Bool) → end.Well ≡ first_of captured failed played full → (captured ≡ true) × (failed ≡ false) × (played ≡ true) × (full ≡ false)
  pub events : (captured failed played full : Bool) → end.Events ≡ first_of captured failed played full → (captured ≡ true) × (failed ≡ false) × (played ≡ true) × (full ≡ true)
  pub audio : (captured failed played full : Bool) → end.Audio ≡ first_of captured failed played full → (captured ≡ true) × (failed ≡ false) × (played ≡ false)
  pub port : (captured failed played full : Bool) → end.Port ≡ first_of captured failed played full → (captured ≡ true) × (failed ≡ true)

module _ {setup : LiveSetup} {late : Option ℤ} {port port' : PortSeen} {audio audio' : AudioSeen}
    {report : ReportValue} where
  pub port_met : CourseLaws → EndsLiveRun setup late port port' audio audio' report end.Port
      → Rose port.faults port'.faults
  port_met laws run =
      let course = run.course in
      let met = laws.port course.captured course.failed course.played course.full run.ended_is in
      run.port_fails met.1

  pub audio_met : CourseLaws → EndsLiveRun setup late port port' audio audio' report end.Audio
      → (port'.faults ≡ port.faults) × Rose audio.faults audio'.faults
  audio_met laws run =
      let course = run.course in
      let met = laws.audio course.captured course.failed course.played course.full run.ended_is in
      (run.port_works met.1, run.audio_fails met.2)

  pub events_met : CourseLaws → EndsLiveRun setup late port port' audio audio' report end.Events
      → (port'.faults ≡ port.faults) × (audio'.faults ≡ audio.faults) × (has_ended report.events ≡ false)
  events_met laws run =
      let course = run.course in
      let met = laws.events course.captured course.failed course.played course.full run.ended_is in
      (run.port_works met.1, run.audio_works met.2, (run.run.recorded.journal.cut met.3).1)

  pub well_met : CourseLaws → EndsLiveRun setup late port port' audio audio' report end.Well
      → (port'.faults ≡ port.faults) × (audio'.faults ≡ audio.faults) × (has_ended report.events ≡ true)
  well_met laws run =
      let course = run.course in
      let met = laws.well course.captured course.failed course.played course.full run.ended_is in
      (run.port_works met.1, run.audio_works met.2, run.run.recorded.journal.ended met.3)
