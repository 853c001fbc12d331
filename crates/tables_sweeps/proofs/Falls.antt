-- Lists of costs that only fall: each cost stays the worth of something, and at most what it was lowered to.
-- Assumes nothing.
use Prim.Native.Nat.{ℕ, ◌<◌, ◌≤◌, min}
use mathlib.Core.Path.{◌≡◌}
use mathlib.Core.List.{List}
use mathlib.Core.Logic.{◌≢◌}
use native.Mathlib.Omega.{arith}
use native.Mathlib.Nat.{le_refl}
use native.Mathlib.Decide.{ℕ_discrete, dec_le}
use lib.ListN.{length, get_or, length-set, length-replicate, get_or-replicate}
use lib.Seq.{get_or-set_same, get_or-set_other}
use Rattle.laws.specs.Value.{Value, never}
use Rattle.tables_costs.specs.Loop.{upto}
use Rattle.tables_costs.specs.Costs.{far, worth, lower_to, blank}
use Rattle.tables_costs.proofs.Worth.{Sized, sized_far, worth_far}
use Rattle.tables_sweeps.proofs.Loops as loops

lowered_same : (l : List ℕ) (i k : ℕ) → i < length l → get_or (lower_to i k l) i 0 ≡ min k (get_or l i 0)
unfolding lower_to
lowered_same l i k h = get_or-set_same l i (min k (get_or l i 0)) 0 h

lowered_other : (l : List ℕ) (i j k : ℕ) → j ≢ i → get_or (lower_to i k l) j 0 ≡ get_or l j 0
unfolding lower_to
lowered_other l i j k h = get_or-set_other l i j (min k (get_or l i 0)) 0 h

lowered_length : (l : List ℕ) (i k : ℕ) → length (lower_to i k l) ≡ length l
unfolding lower_to
lowered_length l i k = length-set l i (min k (get_or l i 0))

-- a fact of two numbers is one of the less
least_is : (P : ℕ → Type 0) (a b : ℕ) → P a → P b → P (min a b)
least_is P a b p q = go (dec_le a b)
  where
    go : Dec (a ≤ b) → P (min a b)
    go (yes h) = let e : min a b ≡ a = omega arith in rw e p
    go (no h) = let e : min a b ≡ b = omega arith in rw e q

module _ (lim m : ℕ) (A : ℕ → Value → Type 0) where
  -- each cost below the limit is of at most m parts, and its worth is as A says
  pub record Local (l : List ℕ) : Type 0 where
    pub long : lim ≤ length l
    pub near : (i : ℕ) → i < lim → get_or l i 0 ≤ far
    pub sized : (i : ℕ) → i < lim → Sized m (get_or l i 0)
    pub is : (i : ℕ) → i < lim → A i (worth (get_or l i 0))

  -- t comes from l by lowering costs
  pub record Fall (l t : List ℕ) : Type 0 where
    pub local : Local t
    pub below : (i : ℕ) → i < lim → get_or t i 0 ≤ get_or l i 0

  pub fall_none : (l : List ℕ) → Local l → Fall l l
  fall_none l h = record { local = h; below = λ i b. le_refl (get_or l i 0) }

  pub fall_then : (l t u : List ℕ) → Fall l t → Fall t u → Fall l u
  fall_then l t u a b = record { local = b.local; below = λ i h. omega (arith, a.below i h, b.below i h) }

  -- ## One cost lowered

  module _ (i k : ℕ) (h : i < lim) (s : Sized m k) (a : A i (worth k)) (l : List ℕ) (o : Local l) where
    here : get_or (lower_to i k l) i 0 ≡ min k (get_or l i 0)
    here = lowered_same l i k (omega (arith, o.long))

    pub lower_fall : Fall l (lower_to i k l)
    lower_fall =
        record {
          local =
              record {
                long = rw (lowered_length l i k) o.long;
                near = λ j b. omega (arith, low j (ℕ_discrete j i), o.near j b);
                sized = λ j b. of_size j b (ℕ_discrete j i);
                is = λ j b. of_a j b (ℕ_discrete j i);
              };
          below = λ j b. low j (ℕ_discrete j i);
        }
      where
        low : (j : ℕ) → Dec (j ≡ i) → get_or (lower_to i k l) j 0 ≤ get_or l j 0
        low j (yes q) = rw (q, here) (omega arith)
        low j (no q) = rw (lowered_other l i j k q) (le_refl (get_or l j 0))

        of_size : (j : ℕ) → j < lim → Dec (j ≡ i) → Sized m (get_or (lower_to i k l) j 0)
        of_size j b (yes q) = rw (q, here) (least_is (λ e. Sized m e) k (get_or l i 0) s (o.sized i h))
        of_size j b (no q) = rw (lowered_other l i j k q) (o.sized j b)

        of_a : (j : ℕ) → j < lim → Dec (j ≡ i) → A j (worth (get_or (lower_to i k l) j 0))
        of_a j b (yes q) = rw (q, here) (least_is (λ e. A i (worth e)) k (get_or l i 0) a (o.is i h))
        of_a j b (no q) = rw (lowered_other l i j k q) (o.is j b)

    pub lower_hit : get_or (lower_to i k l) i 0 ≤ k
    lower_hit = rw here (omega arith)

  -- ## A loop

  module _ (f : ℕ → List ℕ → List ℕ) (n : ℕ) (turns : (k : ℕ) → k < n → (l : List ℕ) → Local l → Fall l (f k l)) where
    pub upto_fall : (l : List ℕ) → Local l → Fall l (upto f n l)
    upto_fall = loops.upto_step Local Fall fall_none fall_then (λ s t a. a.local) f n turns

    -- what one turn lowers a cost to, it stays down to
    pub upto_low : (k i c : ℕ) → k < n → i < lim → ((l : List ℕ) → Local l → get_or (f k l) i 0 ≤ c) → (l : List ℕ) → Local l → get_or (upto f n l) i 0 ≤ c
    upto_low k i c h b =
        loops.upto_hit Local Fall fall_none fall_then (λ s t a. a.local) f n turns (λ l. get_or l i 0 ≤ c) (λ s t a q. omega (arith, a.below i b)) k h

  -- ## The beginning

  pub blank_local : (r : ℕ) → lim ≤ r → ((i : ℕ) → i < lim → A i never) → Local (blank r)
  unfolding blank
  blank_local r h a =
      record {
        long = rw (length-replicate {A = ℕ} r far) h;
        near = λ i l. rw (get_or-replicate {A = ℕ} r i far 0 (omega arith)) (le_refl far);
        sized = λ i l. rw (get_or-replicate {A = ℕ} r i far 0 (omega arith)) (sized_far m far (le_refl far));
        is = λ i l. rw (get_or-replicate {A = ℕ} r i far 0 (omega arith), worth_far far (le_refl far)) (a i l);
      }
