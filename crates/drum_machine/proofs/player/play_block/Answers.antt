use Rattle.drum_machine.proofs.PlayedLemmas.{block_cut, block_played}
use Rattle.drum_machine.proofs.PlayerLemmas.{block_messages, has_played_one}
use Rattle.drum_machine.proofs.player.play_block.Goals as goal

pub write-requires : goal.write-requires
write-requires g c = record {
  messages = block_messages c.positions_are_short.ensures c.callback.result.shown _ _ _ _ c.callback.ensures.events;
}

pub returns-clause-played : goal.returns-clause-played
returns-clause-played g c = has_played_one _ _ _ _ _ c.callback.ensures.read

pub returns-clause-block : goal.returns-clause-block
returns-clause-block g c =
    block_played _ _ _ _ _ _ _ _ _ _ _ _ _ _ _ c.callback.ensures.read c.callback.ensures.sounds c.callback.ensures.kit c.callback.ensures.events c.callback.ensures.clock
    c.write.ensures.sound c.write.ensures.midi

pub returns-clause-cut : goal.returns-clause-cut
returns-clause-cut g c =
    block_cut _ _ _ _ _ _ _ _ _ _ _ _ _ _ c.callback.ensures.read c.callback.ensures.sounds c.callback.ensures.events c.write.ensures.front
