-- What holds of every turn of a counting loop holds of the loop. Assumes nothing.
use Prim.Native.Nat.{ℕ, zero, suc, ◌+◌, ◌<◌, ◌≤◌}
use mathlib.Core.Path.{◌≡◌, refl, ap, ◌∙◌}
use native.Mathlib.Omega.{arith}
use native.Mathlib.Nat.{not-suc-le-zero}
use native.Mathlib.Decide.{dec_lt}
use native.Mathlib.Numerals.{add-one}
use Rattle.tables_costs.specs.Loop.{upto}

-- no turn yet, and one turn more
pub upto_start : {S : Type 0} (f : ℕ → S → S) (s : S) → upto f 0 s ≡ s
unfolding upto
upto_start f s = refl

pub upto_more : {S : Type 0} (f : ℕ → S → S) (i : ℕ) (s : S) → upto f (i + 1) s ≡ f i (upto f i s)
unfolding upto
upto_more f i s = rw (add-one i) refl

-- what a counting loop has done so far
pub ruleset turns = (upto_start, upto_more)

pub turn : {S : Type 0} (f : ℕ → S → S) (i : ℕ) (s₀ s t : S) → s ≡ upto f i s₀ → t ≡ f i s → t ≡ upto f (i + 1) s₀
unfolding upto
turn f i s₀ s t h k = rw (add-one i) (k ∙ ap (f i) h)

-- turns that do nothing
pub upto_skip : {S : Type 0} (f : ℕ → S → S) (i r : ℕ) (s : S) → i ≤ r → ((k : ℕ) → i ≤ k → k < r → (t : S) → f k t ≡ t) → upto f r s ≡ upto f i s
unfolding upto
upto_skip f i zero s h p = let e : i ≡ 0 = omega arith in rw e
upto_skip f i (suc r) s h p = go (dec_lt r i) (λ l. upto_skip f i r s l (λ k a b. p k a (omega arith)))
  where
    go : Dec (r < i) → (i ≤ r → upto f r s ≡ upto f i s) → f r (upto f r s) ≡ upto f i s
    go (yes l) rec = let e : i ≡ suc r = omega arith in rw e refl
    go (no l) rec = p r (omega arith) (omega arith) (upto f r s) ∙ rec (omega arith)

-- a loop that does nothing to s
pub upto_none : {S : Type 0} (f : ℕ → S → S) (n : ℕ) (s : S) → ((k : ℕ) → k < n → f k s ≡ s) → upto f n s ≡ s
unfolding upto
upto_none f zero s p = refl
upto_none f (suc n) s p = ap (f n) (upto_none f n s (λ k l. p k (omega arith))) ∙ p n (omega arith)

-- To is what turns do: it is kept by doing nothing and by one after another
module _ {S : Type 0} (Ok : S → Type 0) (To : S → S → Type 0) (none : (s : S) → Ok s → To s s) (next : (s t u : S) → To s t → To t u → To s u) (ok : (s t : S) → To s t → Ok t) (f : ℕ → S → S) where
  pub upto_step : (n : ℕ) → ((k : ℕ) → k < n → (s : S) → Ok s → To s (f k s)) → (s : S) → Ok s → To s (upto f n s)
  unfolding upto
  upto_step zero p s h = none s h
  upto_step (suc n) p s h =
      let a = upto_step n (λ k l. p k (omega arith)) s h in
      next s (upto f n s) (f n (upto f n s)) a (p n (omega arith) (upto f n s) (ok s (upto f n s) a))

  -- what one turn brings about, the later ones keep
  pub upto_hit : (n : ℕ) → ((k : ℕ) → k < n → (s : S) → Ok s → To s (f k s)) → (P : S → Type 0) → ((s t : S) → To s t → P s → P t)
      → (k : ℕ) → k < n → ((s : S) → Ok s → P (f k s)) → (s : S) → Ok s → P (upto f n s)
  unfolding upto
  upto_hit zero p P keep k l q s h = absurd (not-suc-le-zero l)
  upto_hit (suc n) p P keep k l q s h = go (dec_lt k n) (λ o. upto_hit n (λ j r. p j (omega arith)) P keep k o q s h)
    where
      before : Ok (upto f n s)
      before = ok s (upto f n s) (upto_step n (λ j r. p j (omega arith)) s h)

      go : Dec (k < n) → (k < n → P (upto f n s)) → P (f n (upto f n s))
      go (yes o) rec = keep (upto f n s) (f n (upto f n s)) (p n (omega arith) (upto f n s) before) (rec o)
      go (no o) rec = let r : k ≡ n = omega arith in rw (← r) (q (upto f k s) (rw (← r) at before))
