use Rattle.link_lines.specs.Lines.{lines_of}
use Rattle.link_script.specs.LiveScript.{IsSomeLiveScript}
use Rattle.link_text.proofs.FirstFaultLemmas.{no_text, one_fault}
use Rattle.link_text.proofs.LiveLemmas.{one_script, one_text}
use Rattle.link_text.proofs.laws.one_live_script.Goals as goal

pub returns-clause-script : goal.returns-clause-script
returns-clause-script c = λ text. one_script (lines_of text)

pub returns-clause-lists : goal.returns-clause-lists
returns-clause-lists c = one_text

pub returns-clause-fault : goal.returns-clause-fault
returns-clause-fault c = one_fault IsSomeLiveScript

pub returns-clause-no_fault : goal.returns-clause-no_fault
returns-clause-no_fault c = λ text k m s gs apps blocks first is.
    no_text IsSomeLiveScript text k first (m, s, gs, is.commands, is.script)
