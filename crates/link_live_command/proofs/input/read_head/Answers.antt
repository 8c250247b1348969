use Rattle.std.proofs.Common.{refl}
use Rattle.link_text.specs.LiveHead.{IsHeadLineFault}
use Rattle.link_commands.specs.declared.status.Grammar.TheVariants as grammar
use Rattle.link_live_command.proofs.InputLemmas.{fault_read, unread_of_any}
use Rattle.link_live_command.proofs.input.read_head.Goals as goal

pub returns-in-Err-clause-fault : goal.returns-in-Err-clause-fault
returns-in-Err-clause-fault g c = unread_of_any grammar.LiveHead IsHeadLineFault _ _ c.in-Err.status c.in-Err.ensures.fault

pub returns-clause-fault : goal.returns-clause-fault
returns-clause-fault g c =
    let is = c.in-Err-Bad.is in (
      refl,
      fault_read IsHeadLineFault _ _ c.in-Ok.text.items _ c.in-Err-Bad.bad.line c.deref.ensures.value c.in-Ok.ensures.text
          (c.read_live_head.ensures.bad c.in-Err-Bad.bad (rw c.in-Err-Bad.field-0-is at is)),
    )
