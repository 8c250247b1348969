use Rattle.std.specs.Prelude.{All}
use Rattle.lk_base.specs.declared.block.Block.{Block}
use Rattle.lk_outside.specs.Audio.{IsBlock}
use Rattle.live_tests.proofs.tests.live.devices.blocks_of.Given as goal

abbrev pub invariant-loop-k : goal.invariant-loop-k
invariant-loop-k l = All (λ (block : Block). IsBlock block) l.all.items
