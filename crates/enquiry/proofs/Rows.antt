-- What a pair's two entries say of the outcome: 8, 9, 10, or a route within the limits. Assumes nothing.
use Prim.Native.Nat.{ℕ, ◌<◌, ◌≤◌}
use mathlib.Core.Path.{◌≡◌}
use mathlib.Core.Option.{Option}
use native.Mathlib.Omega.{arith}
use Rattle.paper.specs.Limits.{longest, over_mark, never_mark}
use Rattle.paper.specs.Net.{Key}
use Rattle.paper.specs.Rooms.{NoRoute, AllHeavy, LeastWeight, MoreSteps, Entries, least, long, heavy, nowhere}

module _ (hop : Key → ℕ → Option (ℕ × ℕ)) (S a D b : ℕ) where
  pub row_8 : {w s : ℕ} → Entries hop S a D b w s → w ≡ never_mark → NoRoute hop S a D b
  row_8 (least p f h) e = absurd (omega (arith, p.limit))
  row_8 (long p f) e = absurd (omega (arith, p.limit))
  row_8 (heavy p) e = absurd (omega arith)
  row_8 (nowhere p) e = p

  pub row_9 : {w s : ℕ} → Entries hop S a D b w s → w ≡ over_mark → AllHeavy hop S a D b
  row_9 (least p f h) e = absurd (omega (arith, p.limit))
  row_9 (long p f) e = absurd (omega (arith, p.limit))
  row_9 (heavy p) e = p
  row_9 (nowhere p) e = absurd (omega arith)

  -- neither mark: a weight within the limit
  pub row_light : {w s : ℕ} → Entries hop S a D b w s → (w ≡ never_mark → ⊥) → (w ≡ over_mark → ⊥) → LeastWeight hop S a D b w
  row_light (least p f h) i j = p
  row_light (long p f) i j = p
  row_light (heavy p) i j = absurd (j (omega arith))
  row_light (nowhere p) i j = absurd (i (omega arith))

  pub row_10 : {w s : ℕ} (m : ℕ) → m ≤ longest → Entries hop S a D b w s → (w ≡ never_mark → ⊥) → (w ≡ over_mark → ⊥) → m < s → MoreSteps hop S a D b w m
  row_10 m g (least p f h) i j k = record { long = λ ks r. omega (arith, k, f.fewest ks r) }
  row_10 m g (long p f) i j k = record { long = λ ks r. omega (arith, g, f.long ks r) }
  row_10 m g (heavy p) i j k = absurd (j (omega arith))
  row_10 m g (nowhere p) i j k = absurd (i (omega arith))
