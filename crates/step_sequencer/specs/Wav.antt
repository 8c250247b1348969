-- The bytes of a WAV file of one channel, 48,000 frames a second and 16 bits.
use Rattle.std.specs.Prelude.{ℕ, ◌+◌, ◌*◌, ℤ, List, ◌++◌, codes}
use Rattle.std.specs.Int.{w16, w32, cast_unsigned, to_le_bytes}
use Rattle.std.specs.List.{flat_map}

-- two bytes and four, the lowest first
abbrev pub two_bytes : ℕ → List ℕ
two_bytes n = to_le_bytes w16 n

abbrev pub four_bytes : ℕ → List ℕ
four_bytes n = to_le_bytes w32 n

-- Rule: A WAV header says the length of the file and of its samples.
-- What stands before the samples: how many bytes follow, the format (16 bytes: PCM, the channels, the frames and the bytes of a second,
-- the bytes of a frame, the bits of a sample), how many bytes of samples follow
unfoldable pub header_of : ℕ → List ℕ
header_of frames =
    codes "RIFF" ++ four_bytes (36 + 2 * frames) ++ codes "WAVE"
    ++ codes "fmt " ++ four_bytes 16
    ++ two_bytes 1 ++ two_bytes 1 ++ four_bytes 48_000 ++ four_bytes 96_000 ++ two_bytes 2 ++ two_bytes 16
    ++ codes "data" ++ four_bytes (2 * frames)

-- Rule: A sample is two bytes in two's complement, the lower first.
abbrev pub sample_bytes : ℤ → List ℕ
sample_bytes sample = two_bytes (cast_unsigned w16 sample)

unfoldable pub samples_bytes : List ℤ → List ℕ
samples_bytes samples = flat_map sample_bytes samples
