use Rattle.std.specs.Prelude.{IsSome}
use Rattle.lk_outside.specs.ListTalk.{opened_of}
use Rattle.machine_tests.proofs.tests.base.outside.talks.play.Given as goal

abbrev pub invariant-loop-k : goal.invariant-loop-k
invariant-loop-k g l = IsSome (opened_of l.talk)
