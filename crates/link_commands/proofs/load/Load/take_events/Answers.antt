use Rattle.std.proofs.Common.{arith, refl}
use Rattle.link_commands.proofs.LoadLemmas.{run_none, taken_none}
use Rattle.link_commands.proofs.load.Load.take_events.Goals as goal

pub loop-counts-init : goal.loop-counts-init
loop-counts-init c = record {
  taken = taken_none c.args.self.now.events.seed c.args.self.now.events _ _ _ _
      (run_none c.args.self.now.events c.requires.run) c.requires.stands c.requires.gates c.requires.app refl;
  within = omega arith;
}
