use Rattle.midi_clock.proofs.PlayedLemmas.{before_within, block_messages, end_within}
use Rattle.midi_clock.proofs.player.make_block.Goals as goal

pub block_into-requires-clause-before : goal.block_into-requires-clause-before
block_into-requires-clause-before g c = before_within c.args.start c.requires.start

pub block_into-requires-clause-end : goal.block_into-requires-clause-end
block_into-requires-clause-end g c = end_within c.args.start c.requires.start

pub returns-clause-messages : goal.returns-clause-messages
returns-clause-messages g c = block_messages c.positions_are_short.ensures _ _ _ _ _ c.block_into.ensures.events
