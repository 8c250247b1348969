use Rattle.std.proofs.Common.{◌≡◌, take}
use Rattle.step_sequencer.specs.Wav.{samples_bytes}
use Rattle.step_sequencer.proofs.wav.put_samples.Given as goal

abbrev pub invariant-loop-sample : goal.invariant-loop-sample
invariant-loop-sample l = l.bytes.items ≡ samples_bytes (take l.sample-index l.samples.items)
