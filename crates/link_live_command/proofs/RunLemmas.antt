-- What holds of each run on the network, by what its parts say: of its opening, and of how much of its summary was written.
use Rattle.std.proofs.Common.{◌≡◌, inl, inr, ℕ, ℤ, Bool, true, false, List, [], Option, Result, Ok, Err, refl, sym, ◌∙◌, w64, FitsSigned, arith}
use Rattle.std.specs.Prelude.{OnErr, OnOk, is_ok}
use Rattle.std.proofs.lemmas.Int.{ints}
use Rattle.lk_base.specs.Ranges.{IsMoment}
use Rattle.lk_base.specs.declared.endpoint.Endpoint.{Endpoint}
use Rattle.lk_outside.specs.Faults.{Rose}
use Rattle.lk_outside.specs.Port.{PortContents}
use Rattle.lk_outside.specs.Sink.{Appends}
use Rattle.lk_outside.specs.Stream.{Stream}
use Rattle.lk_outside.specs.Transfer.{AppendsPrefix}
use Rattle.link_node.specs.Config.{ConfigValue}
use Rattle.link_node.specs.Runs.{published_of}
use Rattle.link_live.specs.Headline.{IsRecorded}
use Rattle.link_live.specs.Report.{ReportValue}
use Rattle.link_commands.specs.Statuses.{WritesPart, WritesSome, WritesWhole}

-- ---- the opening

-- a moment is a number of 64 bits
pub moment_fits : (z : ℤ) → IsMoment z → FitsSigned w64 z
moment_fits z range = grind (arith, ints)

-- a run that is recorded has published its opening state
pub has_published : {given : ConfigValue} {most : ℕ} {late : Option ℤ} {failed full : Bool} {port port' : Option PortContents} {gates : List Endpoint} {report : ReportValue}
    → IsRecorded given most late failed full port port' gates report → report.published ≡ [] → ⊥
has_published {report = report} recorded none =
    let told : [] ≡ published_of report.config report.now report.events = sym none ∙ recorded.published in
    cc

-- ---- the summary

-- what holds where a result is a success, by whether it is one
where_done : {T E P : Type 0} (result : Result T E) → OnOk result P → is_ok result ≡ true → P
where_done (Ok value) holds well = holds
where_done (Err fault) holds well = cc

where_failed : {T E P : Type 0} (result : Result T E) → OnErr result P → is_ok result ≡ false → P
where_failed (Ok value) holds not = cc
where_failed (Err fault) holds not = holds

-- a summary that was written, whole or its front
module _ {T E : Type 0} (result : Result T E) (wrote : Bool) (out out' : Stream) (text : List ℕ) (is : wrote ≡ is_ok result) where
  pub wrote_whole : OnOk result (Appends out.told text out'.told) → OnOk result (out'.faults ≡ out.faults) → wrote ≡ true → WritesWhole out out' text
  wrote_whole whole quiet well = record {
    whole = where_done result whole (sym is ∙ well);
    quiet = where_done result quiet (sym is ∙ well);
  }

  pub wrote_part : OnErr result (AppendsPrefix out.told text out'.told) → OnErr result (Rose out.faults out'.faults) → wrote ≡ false → WritesPart out out' text
  wrote_part part rose failed = record {
    part = where_failed result part (sym is ∙ failed);
    rose = where_failed result rose (sym is ∙ failed);
  }

pub wrote_some : (out out' : Stream) (text : List ℕ) (wrote : Bool) → (wrote ≡ true → WritesWhole out out' text)
    → (wrote ≡ false → WritesPart out out' text) → WritesSome out out' text
wrote_some out out' text true whole part = inl (whole refl)
wrote_some out out' text false whole part = inr (part refl)
