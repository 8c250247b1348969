use Rattle.link_script.specs.ReplayScript.{IsSomeScript}
use Rattle.link_text.proofs.FirstFaultLemmas.{no_text, one_fault}
use Rattle.link_text.proofs.OneScriptLemmas.{one_config}
use Rattle.link_text.proofs.laws.one_script.Goals as goal

pub returns-clause-config : goal.returns-clause-config
returns-clause-config c = one_config

pub returns-clause-fault : goal.returns-clause-fault
returns-clause-fault c = one_fault IsSomeScript

pub returns-clause-no_fault : goal.returns-clause-no_fault
returns-clause-no_fault c = λ text k version config now es first is. no_text IsSomeScript text k first (version, config, now, es, is)
