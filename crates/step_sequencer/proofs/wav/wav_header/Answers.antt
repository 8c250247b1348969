use Rattle.std.proofs.Common.{refl}
use Rattle.step_sequencer.specs.Wav.{header_of}
use Rattle.step_sequencer.proofs.wav.wav_header.Goals as goal

pub returns : goal.returns
unfolding header_of
returns c = rw (c.to_le_bytes.ensures, c.to_le_bytes-2.ensures) refl
