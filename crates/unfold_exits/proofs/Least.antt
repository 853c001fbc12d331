-- The least of the numbers f 0 to f (n - 1): none of them is less, and it is one of them unless it is far. Assumes nothing.
use Prim.Native.Nat.{ℕ, zero, suc, ◌+◌, ◌<◌, ◌≤◌, min}
use mathlib.Core.Path.{◌≡◌}
use native.Mathlib.Omega.{arith}
use native.Mathlib.Decide.{dec_lt}
use native.Mathlib.Numerals.{add-one}
use Rattle.tables_costs.specs.Costs.{far}
use Rattle.unfold_exits.specs.Cost.{least}

pub least_far : (f : ℕ → ℕ) (n : ℕ) → least f n ≤ far
unfolding least
least_far f zero = omega arith
least_far f (suc n) = omega (arith, least_far f n)

pub least_low : (f : ℕ → ℕ) (n i : ℕ) → i < n → least f n ≤ f i
unfolding least
least_low f zero i h = absurd (omega arith)
least_low f (suc n) i h = go (dec_lt i n) (λ k. least_low f n i k)
  where
    go : Dec (i < n) → (i < n → least f n ≤ f i) → min (least f n) (f n) ≤ f i
    go (yes k) rec = omega (arith, rec k)
    go (no k) rec = let e : i ≡ n = omega arith in rw e (omega arith)

-- one of the numbers
pub record Met (f : ℕ → ℕ) (n c : ℕ) : Type 0 where
  pub at : ℕ
  pub below : at < n
  pub is : f at ≡ c

pub least_met : (f : ℕ → ℕ) (n : ℕ) → least f n < far → Met f n (least f n)
unfolding least
least_met f zero h = absurd (omega arith)
least_met f (suc n) h = go (dec_lt (least f n) (f n)) (λ k. least_met f n k)
  where
    go : Dec (least f n < f n) → (least f n < far → Met f n (least f n)) → Met f (suc n) (min (least f n) (f n))
    go (yes k) rec = let r = rec (omega arith) in record { at = r.at; below = omega (arith, r.below); is = omega (arith, r.is) }
    go (no k) rec = record { at = n; below = omega arith; is = omega arith }

-- one turn more of a loop
pub least_more : (f : ℕ → ℕ) (i b c m : ℕ) → b ≡ least f i → c ≡ f i → m ≡ min b c → m ≡ least f (i + 1)
unfolding least
least_more f i b c m e g h = rw (add-one i, ← e, ← g) h

pub least_all : (f : ℕ → ℕ) (i n b : ℕ) → i ≤ n → n ≤ i → b ≡ least f i → (b ≡ least f n) × (b ≤ far)
least_all f i n b h k e = let g : i ≡ n = omega arith in (rw g at e, omega (arith, least_far f i))
