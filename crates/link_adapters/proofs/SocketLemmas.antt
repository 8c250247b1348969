-- The bits of an address that was made of them.
use Rattle.std.proofs.Common.{◌≡◌, ◌<◌, ◌^◌, ℕ, ap, ◌∙◌, w32}
use Rattle.std.specs.Int.{from_be_bytes}
use Rattle.std.specs.Net.Addr.{ipv4_bits, IsIpv4OfBits}
use Rattle.std.specs.declared.net.ipv4_addr.Ipv4Addr.{Ipv4Addr}
use Rattle.std.proofs.lemmas.Nat.{from_be_bytes-to_be_bytes_4}

pub bits_of_made : (address : Ipv4Addr) (bits : ℕ) → bits < 2 ^ 32 → IsIpv4OfBits address bits → ipv4_bits address ≡ bits
unfolding ipv4_bits IsIpv4OfBits
bits_of_made address bits fits made = ap (from_be_bytes w32) made ∙ from_be_bytes-to_be_bytes_4 bits fits
