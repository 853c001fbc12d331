-- A number's digits: how many there are, and which. Assumes nothing.
use mathlib.Core.Path.{◌≡◌, refl, sym, ap}
use mathlib.Core.Bool.{Bool, true, false, cond}
use mathlib.Core.List.{List, [], ◌∷◌, ◌++◌}
use Prim.Native.Nat.{ℕ, zero, suc, ◌+◌, ◌-◌, ◌/◌, ◌%◌, ◌^◌, ◌≤◌, ◌<◌}
use native.Mathlib.Nat.{div-one, div-div-eq-div-mul, pow-suc, pow-succ', le_of_suc-le-suc}
use native.Mathlib.Omega.{arith}
use lib.Dec.{ltb}
use lib.ListN.{length, length-append}
use borrow.Author.Tests.{ltb-true, lt-ltb, le-ltb}
use Rattle.paper.specs.Text.{decimal_to, decimal}
use Rattle.laws.proofs.Before.{Test, holds, fails, test}
use Rattle.digits.specs.Digits.{digit_byte, last_digits}

pub ten_power_pos : (k : ℕ) → 0 < 10 ^ k
ten_power_pos zero = omega arith
ten_power_pos (suc k) = rw pow-suc (omega (arith, ten_power_pos k))

-- ## The count, over any fuel that suffices

counted : (w m n : ℕ) → n < 10 ^ suc w → (0 < w → 10 ^ w ≤ n) → w < m → length (decimal_to m n) ≡ suc w
unfolding decimal_to
counted w zero n hi lo h = absurd (omega arith)
counted zero (suc m) n hi lo h = rw (lt-ltb n 10 hi)
counted (suc w) (suc m) n hi lo h =
    rw (le-ltb n 10 (omega (arith, lo (omega arith), pow-suc 10 w, ten_power_pos w)), length-append)
    (omega (arith, counted w m (n / 10) (omega (arith, pow-suc 10 (suc w))) (λ p. omega (arith, pow-suc 10 w, lo (omega arith))) (le_of_suc-le-suc h)))

pub digit_count : (n w : ℕ) → 1 ≤ w → w ≤ 20 → n < 10 ^ w → (1 < w → 10 ^ (w - 1) ≤ n) → w ≡ length (decimal n)
unfolding decimal
digit_count n zero some most hi lo = absurd (omega arith)
digit_count n (suc v) some most hi lo =
    let e : suc v - 1 ≡ v = omega arith in
    sym (counted v 20 n hi (λ p. rw e at (lo (omega arith))) most)

-- ## The digits

pub length_digits : (k n : ℕ) → length (last_digits k n) ≡ k
unfolding last_digits
length_digits zero n = refl
length_digits (suc k) n = ap suc (length_digits k n)

-- one digit more, in front
pub digits_first : (k n : ℕ) → 0 < k → last_digits k n ≡ digit_byte n (k - 1) ∷ last_digits (k - 1) n
unfolding last_digits
digits_first zero n h = absurd (omega arith)
digits_first (suc k) n h = let e : suc k - 1 ≡ k = omega arith in rw e

-- one digit more, at the end
digits_last : (k n : ℕ) → last_digits (suc k) n ≡ last_digits k (n / 10) ++ ((48 + n % 10) ∷ [])
unfolding last_digits digit_byte
digits_last zero n = rw div-one
digits_last (suc k) n = rw (pow-succ' 10 k, ← div-div-eq-div-mul, digits_last k n)

one_digit : (n : ℕ) → n < 10 → (48 + n) ∷ [] ≡ last_digits 1 n
unfolding last_digits digit_byte
one_digit n h = let e : n % 10 ≡ n = omega arith in rw (div-one, e)

digit_more : (s : List ℕ) (n : ℕ) → s ≡ last_digits (length s) (n / 10) → s ++ ((48 + n % 10) ∷ []) ≡ last_digits (length (s ++ ((48 + n % 10) ∷ []))) n
digit_more s n h =
    let e : length (s ++ ((48 + n % 10) ∷ [])) ≡ suc (length s) = omega (arith, length-append s ((48 + n % 10) ∷ [])) in
    rw (e, digits_last (length s) n) (ap (λ (t : List ℕ). t ++ ((48 + n % 10) ∷ [])) h)

spelt : (m n : ℕ) → decimal_to m n ≡ last_digits (length (decimal_to m n)) n
unfolding decimal_to
spelt zero n = unfold last_digits in refl
spelt (suc m) n = go (test (ltb n 10)) (spelt m (n / 10))
  where
    go : Test (ltb n 10) → decimal_to m (n / 10) ≡ last_digits (length (decimal_to m (n / 10))) (n / 10)
        → decimal_to (suc m) n ≡ last_digits (length (decimal_to (suc m) n)) n
    go (holds t) h = rw t (one_digit n (ltb-true n 10 t))
    go (fails t) h = rw t (digit_more (decimal_to m (n / 10)) n h)

-- a number is its last digits, as many as it has
pub decimal_digits : (n : ℕ) → decimal n ≡ last_digits (length (decimal n)) n
unfolding decimal
decimal_digits n = spelt 20 n

-- ## A number has at most 20 digits

digits_most : (f n : ℕ) → length (decimal_to f n) ≤ f
unfolding decimal_to
digits_most zero n = omega arith
digits_most (suc f) n = go (ltb n 10) (digits_most f (n / 10))
  where
    go : (b : Bool) → length (decimal_to f (n / 10)) ≤ f → length (cond b ((48 + n) ∷ []) (decimal_to f (n / 10) ++ ((48 + n % 10) ∷ []))) ≤ suc f
    go true h = omega arith
    go false h = omega (arith, length-append (decimal_to f (n / 10)) ((48 + n % 10) ∷ []))

pub decimal_most : (n : ℕ) → length (decimal n) ≤ 20
unfolding decimal
decimal_most n = digits_most 20 n
