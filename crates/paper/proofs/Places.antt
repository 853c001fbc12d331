-- A place's number is below the number of places. Assumes nothing.
use Prim.Native.Nat.{ℕ, suc, ◌+◌, ◌*◌, ◌<◌}
use native.Mathlib.Nat.{mul-le-mul_right, suc-mul}
use native.Mathlib.Omega.{arith}

pub place_lt : (n p x y : ℕ) → x < n → y < p → x * p + y < n * p
place_lt n p x y hx hy = omega (arith, mul-le-mul_right {m = suc x} {n = n} p hx, suc-mul x p)
