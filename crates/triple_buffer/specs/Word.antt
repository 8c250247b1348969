-- Only for proofs: the state word: the number of the back row, whether the reader hasn't had it yet, and which row it is.
use Rattle.std.specs.Prelude.{ℕ, ◌+◌, ◌*◌, ◌/◌, ◌%◌}

abbrev pub word_of : ℕ → ℕ → ℕ → ℕ
word_of number fresh back = 8 * number + 4 * fresh + back

abbrev pub number_in : ℕ → ℕ
number_in word = word / 8

abbrev pub fresh_in : ℕ → ℕ
fresh_in word = word / 4 % 2

abbrev pub back_in : ℕ → ℕ
back_in word = word % 4
