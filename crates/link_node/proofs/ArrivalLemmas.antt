-- How long a ping's payload is.
use Rattle.std.proofs.Common.{◌≡◌, ℕ, ◌<◌, nat_lt, true, false, arith}
use Rattle.std.proofs.lemmas.Bool.Decides.{nat_tests}

pub is_short : (n : ℕ) → (32 < n → true ≡ false) → nat_lt 32 n ≡ false
is_short n short = grind (arith, nat_tests)

pub is_long : (n : ℕ) → 32 < n → nat_lt 32 n ≡ true
is_long n long = grind (arith, nat_tests)
