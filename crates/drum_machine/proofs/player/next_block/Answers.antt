use Rattle.drum_machine.proofs.CountLemmas.{begins_there, stays_at_last}
use Rattle.drum_machine.proofs.player.next_block.Goals as goal

pub returns-in-Block-clause-begins : goal.returns-in-Block-clause-begins
returns-in-Block-clause-begins g c =
    begins_there c.in-Block.block (g.A.Audio.seen c.args.audio.now).told (g.A.Audio.seen c.next.new.self).told c.in-Block.ensures.contents

pub returns-in-Block-clause-given : goal.returns-in-Block-clause-given
returns-in-Block-clause-given g c = c.in-Block.ensures.contents

pub returns-in-Closed-clause-stays : goal.returns-in-Closed-clause-stays
returns-in-Closed-clause-stays g c = stays_at_last (g.A.Audio.seen c.args.audio.now).told (g.A.Audio.seen c.next.new.self).told c.in-Closed.ensures.contents
