use Rattle.std.proofs.Common.{arith, inr, length, map, refl}
use Rattle.link_script.specs.ReplayScript.{event_line}
use Rattle.link_text.proofs.WrittenScriptLemmas.{events_are_said, script_is_read}
use Rattle.link_text.proofs.laws.written_scripts_are_read.Goals as goal

pub returns : goal.returns
returns c config now es head sayable = record {
  known = inr refl;
  head = head;
  rest = map event_line es;
  said = script_is_read config now es head sayable;
  events = events_are_said (length config.gates) 0 es sayable;
  plain = λ one. absurd (omega (arith, one));
}
