use Rattle.link_adapters.proofs.counted.put_digits.Given as goal

abbrev pub decreases-loop-left : goal.decreases-loop-left
decreases-loop-left g l = l.place
