-- Where the entry of two places stands: within the first N² entries, which are few. Assumes nothing.
use Prim.Native.Nat.{ℕ, ◌+◌, ◌*◌, ◌<◌, ◌≤◌}
use native.Mathlib.Nat.{mul-le-mul}
use Rattle.paper.proofs.Places.{place_lt}

pub paired_at : (N u v : ℕ) → N ≤ 1024 → u < N → v < N → (u * N + v < N * N) × (N * N ≤ 1048576)
paired_at N u v h hu hv = (place_lt N N u v hu hv, mul-le-mul h h)
