use Rattle.daemon_laws.proofs.FaultLineLemmas.{one_script_fault, one_bad_line, one_no_pair, one_live_fault, one_head_fault}
use Rattle.daemon_laws.proofs.laws.one_fault_line.Goals as goal

pub returns : goal.returns
returns c = (
  one_script_fault c.one_script.ensures.fault,
  (one_bad_line, (one_no_pair, (one_live_fault c.one_live_script.ensures.fault, one_head_fault c.one_live_head.ensures.fault))),
)
