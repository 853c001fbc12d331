-- Rows f i, f (i + 1), ..: how they are cut, who is among them, and what it means that they are in order. Assumes nothing.
use mathlib.Core.Path.{◌≡◌, refl, sym, ap, ◌∙◌}
use mathlib.Core.Bool.{true, true≢false}
use mathlib.Core.List.{List, [], ◌∷◌, ◌++◌}
use mathlib.Core.Logic.{◌⊎◌, inl, inr}
use Prim.Native.Nat.{ℕ, zero, suc, ◌+◌, ◌≤◌, ◌<◌}
use native.Mathlib.Omega.{arith}
use native.Mathlib.Nat.{add-zero, zero-add, suc-add}
use native.Mathlib.Decide.{ℕ_discrete}
use lib.ListN.{length}
use Rattle.paper.specs.Net.{before}
use Rattle.laws.specs.Sets.{Mem}
use Rattle.laws.proofs.Before.{Three, less, equal, more, three, before_irr}
use Rattle.laws.proofs.Insert.{Sorted}
use Rattle.network_records.specs.Columns.{rows}

module _ {A : Type 0} where
  pub rows_none : (f : ℕ → A) (i : ℕ) → rows f i 0 ≡ []
  unfolding rows
  rows_none f i = refl

  pub rows_cons : (f : ℕ → A) (i k : ℕ) → rows f i (suc k) ≡ f i ∷ rows f (suc i) k
  unfolding rows
  rows_cons f i k = refl

  pub length_rows : (f : ℕ → A) (i k : ℕ) → length (rows f i k) ≡ k
  unfolding rows
  length_rows f i zero = refl
  length_rows f i (suc k) = ap suc (length_rows f (suc i) k)

  -- rows of f from i on are rows of g from m on
  pub rows_same : (k i m : ℕ) (f g : ℕ → A) → ((j : ℕ) → j < k → f (i + j) ≡ g (m + j)) → rows f i k ≡ rows g m k
  unfolding rows
  rows_same zero i m f g h = refl
  rows_same (suc k) i m f g h =
      let z : f i ≡ g m = rw (add-zero i, add-zero m) at (h 0 (omega arith)) in
      cc (z, rows_same k (suc i) (suc m) f g (λ j b. on j (h (suc j) (omega arith))))
    where
      on : (j : ℕ) → f (i + suc j) ≡ g (m + suc j) → f (suc i + j) ≡ g (suc m + j)
      on j e =
          let a : i + suc j ≡ suc i + j = omega arith in
          let b : m + suc j ≡ suc m + j = omega arith in
          rw (a, b) at e

  pub rows_cut : (k m i : ℕ) (f : ℕ → A) → rows f i (k + m) ≡ rows f i k ++ rows f (i + k) m
  unfolding rows
  rows_cut zero m i f = rw (zero-add m, add-zero i)
  rows_cut (suc k) m i f =
      let e : i + suc k ≡ suc i + k = omega arith in
      rw (suc-add k m, e) (ap (λ (r : List A). f i ∷ r) (rows_cut k m (suc i) f))

  -- ## Members

  pub rows_mem : (k i j : ℕ) (f : ℕ → A) → i ≤ j → j < i + k → Mem (f j) (rows f i k)
  unfolding rows Mem
  rows_mem zero i j f h g = absurd (omega arith)
  rows_mem (suc k) i j f h g = go (ℕ_discrete j i) (λ l. rows_mem k (suc i) j f l (omega arith))
    where
      go : Dec (j ≡ i) → (suc i ≤ j → Mem (f j) (rows f (suc i) k)) → (f j ≡ f i) ⊎ Mem (f j) (rows f (suc i) k)
      go (yes e) rec = inl (ap f e)
      go (no e) rec = inr (rec (omega arith))

  -- a member is a row
  pub record Row (f : ℕ → A) (i k : ℕ) (t : A) : Type 0 where
    pub at : ℕ
    pub low : i ≤ at
    pub high : at < i + k
    pub is : t ≡ f at

  pub mem_row : (k i : ℕ) (f : ℕ → A) (t : A) → Mem t (rows f i k) → Row f i k t
  unfolding rows Mem
  mem_row zero i f t m = absurd m
  mem_row (suc k) i f t (inl e) = record { at = i; low = omega arith; high = omega arith; is = e }
  mem_row (suc k) i f t (inr m) =
      let r = mem_row k (suc i) f t m in
      record { at = r.at; low = omega (arith, r.low); high = omega (arith, r.high); is = r.is }

  -- ## In order

  pub sorted_rows : (key : A → List ℕ) (k i : ℕ) (f : ℕ → A) → Sorted key (rows f i k) → (a b : ℕ) → i ≤ a → a < b → b < i + k → before (key (f a)) (key (f b)) ≡ true
  unfolding rows Sorted
  sorted_rows key zero i f o a b h g l = absurd (omega arith)
  sorted_rows key (suc k) i f o a b h g l = go (ℕ_discrete a i) (λ m. sorted_rows key k (suc i) f o.1 a b m g (omega arith))
    where
      go : Dec (a ≡ i) → (suc i ≤ a → before (key (f a)) (key (f b)) ≡ true) → before (key (f a)) (key (f b)) ≡ true
      go (yes e) rec = rw e (o.0 (f b) (rows_mem k (suc i) b f (omega arith) (omega arith)))
      go (no e) rec = rec (omega arith)

  -- none is there twice
  pub sorted_once : (key : A → List ℕ) (n : ℕ) (f : ℕ → A) → Sorted key (rows f 0 n) → (i j : ℕ) → i < n → j < n → key (f i) ≡ key (f j) → i ≡ j
  sorted_once key n f o i j h g e = go (three i j)
    where
      never : (a b : ℕ) → a < b → b < n → key (f a) ≡ key (f b) → ⊥
      never a b l m q = true≢false (sym (sorted_rows key n 0 f o a b (omega arith) l (omega arith)) ∙ rw q (before_irr (key (f b))))

      go : Three i j → i ≡ j
      go (less l) = absurd (never i j l g e)
      go (equal l) = l
      go (more l) = absurd (never j i l h (sym e))
