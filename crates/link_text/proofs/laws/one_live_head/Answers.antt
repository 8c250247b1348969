use Rattle.std.specs.Prelude.{[]}
use Rattle.link_lines.specs.Lines.{lines_of}
use Rattle.link_text.specs.LiveHead.{IsSomeHead}
use Rattle.link_text.proofs.FirstFaultLemmas.{no_text, one_fault}
use Rattle.link_text.proofs.LiveLemmas.{one_script}
use Rattle.link_text.proofs.laws.one_live_head.Goals as goal

pub returns-clause-head : goal.returns-clause-head
returns-clause-head c = λ text m n s t gs hs p q.
    let one = one_script (lines_of text) m n s t gs hs [] [] p q in
    (one.0, one.1, one.2)

pub returns-clause-fault : goal.returns-clause-fault
returns-clause-fault c = one_fault IsSomeHead

pub returns-clause-no_fault : goal.returns-clause-no_fault
returns-clause-no_fault c = λ text k m s gs first is. no_text IsSomeHead text k first (m, s, gs, is)
