use Rattle.std.proofs.Common.{refl}
use Rattle.link_script.specs.LiveScript.{IsLiveLineFault}
use Rattle.link_commands.specs.declared.status.Grammar.TheVariants as grammar
use Rattle.link_live_command.proofs.InputLemmas.{fault_read, unread_of_any}
use Rattle.link_live_command.proofs.input.read_script.Goals as goal

pub returns-in-Err-clause-fault : goal.returns-in-Err-clause-fault
returns-in-Err-clause-fault g c = unread_of_any grammar.LiveScript IsLiveLineFault _ _ c.in-Err.status c.in-Err.ensures.fault

pub returns-in-Err-Bad-clause-fault : goal.returns-in-Err-Bad-clause-fault
returns-in-Err-Bad-clause-fault g c =
    let is = c.in-Err-Bad.is in (
      refl,
      fault_read IsLiveLineFault _ _ c.in-Ok.text.items _ c.in-Err-Bad.bad.line c.deref.ensures.value c.in-Ok.ensures.text
          (c.read_live.ensures.bad c.in-Err-Bad.bad (rw c.in-Err-Bad.field-0-is at is)),
    )
