use Rattle.std.proofs.Common.{rules}
use Rattle.link_node.specs.Commits.{audio_taken}
use Rattle.link_node.proofs.node.Node.take_audio.Goals as goal

pub returns-clause-stands : goal.returns-clause-stands
unfolding audio_taken
returns-clause-stands c m stands = c.take_commit.ensures.stands (record m { audio = c.args.number }) (search rules)
