-- Where a place's row begins in the rooms. Assumes nothing.
use Prim.Native.Nat.{ℕ, suc, ◌+◌, ◌*◌, ◌<◌, ◌≤◌}
use native.Mathlib.Omega.{arith}
use native.Mathlib.Nat.{mul-le-mul_right, mul-le-mul, suc-mul}

pub begin_le : (size q : ℕ) → q < size → q * size + size ≤ size * size
begin_le size q h = omega (arith, mul-le-mul_right {m = suc q} {n = size} size h, suc-mul q size)

pub square : (size : ℕ) → size ≤ 1024 → size * size ≤ 1048576
square size h = mul-le-mul h h
