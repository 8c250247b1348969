use Rattle.drum_machine.proofs.CallbackLemmas.{before_within, end_within}
use Rattle.drum_machine.proofs.callback.callback.Goals as goal

pub block_into-requires-clause-before : goal.block_into-requires-clause-before
block_into-requires-clause-before g c = before_within _ _ _ c.frame_time.ensures c.requires.origin c.requires.first

pub block_into-requires-clause-end : goal.block_into-requires-clause-end
block_into-requires-clause-end g c = end_within _ _ _ c.frame_time.ensures c.requires.origin c.requires.first
