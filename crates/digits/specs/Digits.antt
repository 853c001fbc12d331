-- A number's digits by the powers of ten. Assumes nothing: these are definitions.
use Rattle.std.specs.Prelude.{List, [], ◌∷◌, ℕ, zero, suc, ◌+◌, ◌/◌, ◌%◌, ◌^◌}

-- the digit of n at the power 10 ^ k, as a byte
unfoldable pub digit_byte : ℕ → ℕ → ℕ
digit_byte n k = 48 + n / 10 ^ k % 10

-- the last k digits of n, the highest first
unfoldable pub last_digits : ℕ → ℕ → List ℕ
last_digits zero n = []
last_digits (suc k) n = digit_byte n k ∷ last_digits k n
