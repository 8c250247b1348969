-- By how a run under control ended: which counts of failures rose and which stayed, whether its journal has ended, and whether its client
-- sent more lines than are answered.
use Rattle.std.proofs.Common.{◌≡◌, ◌⊎◌, inl, inr, ◌<◌, ◌≤◌, length, true, false, ℕ, ℤ, List, Option, Some, IsSome, ap, subst, arith}
use Rattle.std.proofs.lemmas.List.{length-map}
use Rattle.lk_base.specs.declared.endpoint.Endpoint.{Endpoint}
use Rattle.lk_outside.specs.Faults.{Rose}
use Rattle.lk_outside.specs.Port.{PortSeen}
use Rattle.lk_outside.specs.Source.{IsAtEnd, Takes}
use Rattle.lk_outside.specs.Talk.{TalkSeen}
use Rattle.link_shared.specs.Passes.{AppView}
use Rattle.link_live.specs.Journal.{has_ended}
use Rattle.link_live.specs.NodeRun.{new_app}
use Rattle.link_live.specs.Report.{ReportValue}
use Rattle.link_control.specs.ControlRun.{ControlSetup, EndsControlRun, EndsTell, IsTalked}
use Rattle.link_control.specs.Lines.{whole_lines_of}
use Rattle.link_control.specs.Log.{Answered}
use Rattle.link_control.specs.Serving.{HasServed, lines_in}
use Rattle.link_control.specs.declared.log.LineLog.{LineLog}
use Rattle.link_control.specs.declared.run.ControlEnd.TheVariants as end
use Rattle.link_control.specs.declared.server.Served.{Served}
use Rattle.link_control.specs.declared.server.Served.TheVariants as served
use Rattle.daemon_laws.proofs.CauseLemmas.{one_text}

-- ---- what the client sent

-- the bytes that were taken have more lines than are answered
pub record SendsMany (left left_then : Option (List ℕ)) : Type 0 where
  pub bytes : List ℕ
  pub taken : Takes left bytes left_then
  pub many : 4_096 < length (whole_lines_of bytes)

-- the client ended, and the bytes that were taken have no more lines
pub record SendsFew (left left_then : Option (List ℕ)) : Type 0 where
  pub bytes : List ℕ
  pub taken : Takes left bytes left_then
  pub ended : IsAtEnd left_then
  pub few : length (whole_lines_of bytes) ≤ 4_096

-- of a talk that tells these are the same bytes
pub sent_many_and_few : (left left_then : Option (List ℕ)) → IsSome left → SendsMany left left_then → SendsFew left left_then → ⊥
sent_many_and_few left left_then tells many few =
    let same : many.bytes ≡ few.bytes = one_text left left_then many.bytes few.bytes tells many.taken few.taken few.ended in
    let long : length (whole_lines_of many.bytes) ≡ length (whole_lines_of few.bytes) =
    ap (λ (bytes : List ℕ). length (whole_lines_of bytes)) same in
    omega (arith, long, many.many, few.few)

-- ---- how serving ended

-- each line of a client that ended was answered
few_served : (late : Option ℤ) (talk talk_then : TalkSeen) (before after : AppView) (log : List LineLog)
    → HasServed late talk talk_then before after log served.Ended → SendsFew talk.left talk_then.left
few_served late talk talk_then before after log client = record {
  bytes = client.bytes;
  taken = client.taken;
  ended = client.ends.1;
  few =
      (let all : length (lines_in client.answered) ≡ length (whole_lines_of client.bytes) = ap length client.ends.0 in
      let each : length (lines_in client.answered) ≡ length client.answered = length-map client.answered (λ (one : Answered). one.line) in
      omega (arith, all, each, client.few));
}

module _ (at : Endpoint) (late : Option ℤ) (talk talk_then : TalkSeen) (pass : AppView) (log : List LineLog) where
  told_as : (how other : Served) → how ≡ other → IsTalked at late talk talk_then pass log how → IsTalked at late talk talk_then pass log other
  told_as how other is talked = subst (λ (served_so : Served). IsTalked at late talk talk_then pass log served_so) is talked

  -- a call of the talk failed, be it the one that opens it
  failed_met : IsTalked at late talk talk_then pass log served.Failed → Rose talk.faults talk_then.faults
  failed_met (inl client) = client.ends.0
  failed_met (inr (failed, rose, stays, none, idle)) = rose

  ended_met : IsTalked at late talk talk_then pass log served.Ended → (talk_then.faults ≡ talk.faults) × SendsFew talk.left talk_then.left
  ended_met (inl client) = (
    client.ends.2.quiet,
    few_served late (record talk { opened = Some at }) talk_then new_app pass log client,
  )
  ended_met (inr (failed, rose, stays, none, idle)) = absurd (cc failed)

  lines_met : IsTalked at late talk talk_then pass log served.Lines → (talk_then.faults ≡ talk.faults) × SendsMany talk.left talk_then.left
  lines_met (inl client) = (client.ends.2.quiet, record { bytes = client.bytes; taken = client.taken; many = client.ends.1 })
  lines_met (inr (failed, rose, stays, none, idle)) = absurd (cc failed)

  quiet_met : (how : Served) → (how ≡ served.Ended) ⊎ (how ≡ served.Lines) → IsTalked at late talk talk_then pass log how
      → talk_then.faults ≡ talk.faults
  quiet_met how (inl is) talked = (ended_met (told_as how served.Ended is talked)).0
  quiet_met how (inr is) talked = (lines_met (told_as how served.Lines is talked)).0

-- ---- how the run ended

module _ {setup : ControlSetup} {late : Option ℤ} {port port' : PortSeen} {talk talk' : TalkSeen}
    {report : ReportValue} {log : List LineLog} where
  pub port_met : EndsTell → EndsControlRun setup late port port' talk talk' report log end.Port
      → Rose port.faults port'.faults
  port_met laws run = run.port_fails (laws.port run.served run.failed run.full run.ended_is).0

  pub talk_met : EndsTell → EndsControlRun setup late port port' talk talk' report log end.Talk
      → (port'.faults ≡ port.faults) × Rose talk.faults talk'.faults
  talk_met laws run =
      let met = laws.talk run.served run.failed run.full run.ended_is in
      let client = run.run.served in (
        run.port_works met.1,
        failed_met setup.at late talk talk' client.pass log
            (told_as setup.at late talk talk' client.pass log run.served served.Failed met.0 client.talked),
      )

  pub events_met : EndsTell → EndsControlRun setup late port port' talk talk' report log end.Events
      → (port'.faults ≡ port.faults) × (talk'.faults ≡ talk.faults) × (has_ended report.events ≡ false)
  events_met laws run =
      let met = laws.events run.served run.failed run.full run.ended_is in
      let client = run.run.served in (
        run.port_works met.1,
        quiet_met setup.at late talk talk' client.pass log run.served met.0 client.talked,
        (run.run.recorded.journal.cut met.2).1,
      )

  pub many_met : EndsTell → EndsControlRun setup late port port' talk talk' report log end.Lines
      → (port'.faults ≡ port.faults) × (talk'.faults ≡ talk.faults) × (has_ended report.events ≡ true) × SendsMany talk.left talk'.left
  many_met laws run =
      let met = laws.lines run.served run.failed run.full run.ended_is in
      let client = run.run.served in
      let talked = lines_met setup.at late talk talk' client.pass log
      (told_as setup.at late talk talk' client.pass log run.served served.Lines met.0 client.talked) in
      (run.port_works met.1, talked.0, run.run.recorded.journal.ended met.2, talked.1)

  pub well_met : EndsTell → EndsControlRun setup late port port' talk talk' report log end.Well
      → (port'.faults ≡ port.faults) × (talk'.faults ≡ talk.faults) × (has_ended report.events ≡ true) × SendsFew talk.left talk'.left
  well_met laws run =
      let met = laws.well run.served run.failed run.full run.ended_is in
      let client = run.run.served in
      let talked = ended_met setup.at late talk talk' client.pass log
      (told_as setup.at late talk talk' client.pass log run.served served.Ended met.0 client.talked) in
      (run.port_works met.1, talked.0, run.run.recorded.journal.ended met.2, talked.1)
