-- The rooms, whose entries only fall: each stays the spelling of a value that is as A says, those past the limit stay, and a measure falls.
-- Assumes nothing.
use Prim.Native.Nat.{ℕ, zero, suc, ◌+◌, ◌*◌, ◌<◌, ◌≤◌}
use mathlib.Core.Path.{◌≡◌, refl, ◌∙◌}
use mathlib.Core.Bool.{Bool, true, false, cond}
use mathlib.Core.List.{List, [], ◌∷◌}
use mathlib.Core.Logic.{◌⊎◌, inl, inr, ◌≢◌}
use native.Mathlib.Omega.{arith}
use native.Mathlib.Nat.{not-suc-le-zero, le_refl, le_of_suc-le-suc}
use native.Mathlib.Decide.{ℕ_discrete}
use lib.ListN.{length, get_or, set, length-set}
use lib.Seq.{get_or-set_same, get_or-set_other}
use Rattle.laws.specs.Value.{Value, Le, heft, count}
use Rattle.laws.proofs.Cap.{le_refl_v, le_trans_v}
use Rattle.tables_costs.specs.Loop.{upto}
use Rattle.tables_costs.specs.Cells.{Spells, less, Cells, cells, value_at, lowered}
use Rattle.tables_sweeps.specs.Row.{reached}
use Rattle.tables_sweeps.proofs.Loops as loops
use Rattle.tables_costs.proofs.Values.{Good, value_good, count_small, less_true, less_le, not_less_le}

abbrev pub ws : Cells → List ℕ
ws (cells W C b) = W

abbrev pub cs : Cells → List ℕ
cs (cells W C b) = C

abbrev pub fell : Cells → Bool
fell (cells W C b) = b

unfoldable pub val : Cells → ℕ → Value
val (cells W C b) i = value_at W C i

-- ## The measure

unfoldable pub total : List ℕ → ℕ
total [] = 0
total (x ∷ xs) = x + total xs

total_set : (l : List ℕ) (i v : ℕ) → i < length l → total (set l i v) + get_or l i 0 ≡ total l + v
unfolding total
total_set [] i v h = absurd (not-suc-le-zero h)
total_set (x ∷ l) zero v h = omega arith
total_set (x ∷ l) (suc i) v h = omega (arith, total_set l i v (le_of_suc-le-suc h))

unfoldable pub size : Cells → ℕ
size (cells W C b) = 4098 * total W + total C

-- ## One entry

module _ (lim : ℕ) (A : ℕ → Value → Type 0) where
  -- each entry below the limit spells a value, which is as A says
  pub record Held (s : Cells) : Type 0 where
    pub long_ws : lim ≤ length (ws s)
    pub long_cs : lim ≤ length (cs s)
    pub good : (i : ℕ) → i < lim → Good (val s i)
    pub spelt : (i : ℕ) → i < lim → Spells (get_or (ws s) i 0) (get_or (cs s) i 0) (val s i)
    pub is : (i : ℕ) → i < lim → A i (val s i)

  -- t comes from s by lowering entries below the limit
  pub record Step (s t : Cells) : Type 0 where
    pub held : Held t
    pub same_ws : length (ws t) ≡ length (ws s)
    pub same_cs : length (cs t) ≡ length (cs s)
    pub past_ws : (i : ℕ) → lim ≤ i → get_or (ws t) i 0 ≡ get_or (ws s) i 0
    pub past_cs : (i : ℕ) → lim ≤ i → get_or (cs t) i 0 ≡ get_or (cs s) i 0
    pub below : (i : ℕ) → i < lim → Le (val t i) (val s i)
    pub no_more : size t ≤ size s
    pub falls : fell t ≡ true → (fell s ≡ true) ⊎ (size t < size s)

  pub step_none : (s : Cells) → Held s → Step s s
  step_none s h =
      record {
        held = h;
        same_ws = refl;
        same_cs = refl;
        past_ws = λ i l. refl;
        past_cs = λ i l. refl;
        below = λ i l. le_refl_v (val s i);
        no_more = le_refl (size s);
        falls = λ e. inl e;
      }

  pub step_then : (s t u : Cells) → Step s t → Step t u → Step s u
  step_then s t u a b =
      record {
        held = b.held;
        same_ws = b.same_ws ∙ a.same_ws;
        same_cs = b.same_cs ∙ a.same_cs;
        past_ws = λ i l. b.past_ws i l ∙ a.past_ws i l;
        past_cs = λ i l. b.past_cs i l ∙ a.past_cs i l;
        below = λ i l. le_trans_v (val u i) (val t i) (val s i) (b.below i l) (a.below i l);
        no_more = omega (arith, a.no_more, b.no_more);
        falls = λ e. go (b.falls e);
      }
    where
      go : (fell t ≡ true) ⊎ (size u < size t) → (fell s ≡ true) ⊎ (size u < size s)
      go (inl e) = more (a.falls e)
        where
          more : (fell s ≡ true) ⊎ (size t < size s) → (fell s ≡ true) ⊎ (size u < size s)
          more (inl f) = inl f
          more (inr f) = inr (omega (arith, b.no_more))
      go (inr f) = inr (omega (arith, a.no_more))

  -- what stands at an index after a store
  at_same : (W C : List ℕ) (i : ℕ) (e : Value) → i < length W → i < length C → Good e → value_at (set W i (heft e)) (set C i (count e)) i ≡ e
  unfolding value_at
  at_same W C i e hW hC g = rw (get_or-set_same W i (heft e) 0 hW, get_or-set_same C i (count e) 0 hC) (value_good e g)

  at_other : (W C : List ℕ) (i j w s : ℕ) → j ≢ i → value_at (set W i w) (set C i s) j ≡ value_at W C j
  unfolding value_at
  at_other W C i j w s h = rw (get_or-set_other W i j w 0 h, get_or-set_other C i j s 0 h)

  module _ (W C : List ℕ) (b : Bool) (i : ℕ) (e : Value) (h : i < lim) (g : Good e) (a : A i e) (held : Held (cells W C b)) where
    abbrev s : Cells
    s = cells W C b

    abbrev t : Cells
    t = cells (set W i (heft e)) (set C i (count e)) true

    stored_held : Held t
    unfolding val
    stored_held =
        record {
          long_ws = rw (length-set W i (heft e)) held.long_ws;
          long_cs = rw (length-set C i (count e)) held.long_cs;
          good = λ j l. is_good j l (ℕ_discrete j i);
          spelt = λ j l. is_spelt j l (ℕ_discrete j i);
          is = λ j l. is_a j l (ℕ_discrete j i);
        }
      where
        same : value_at (set W i (heft e)) (set C i (count e)) i ≡ e
        same = at_same W C i e (omega (arith, held.long_ws)) (omega (arith, held.long_cs)) g

        is_good : (j : ℕ) → j < lim → Dec (j ≡ i) → Good (value_at (set W i (heft e)) (set C i (count e)) j)
        is_good j l (yes q) = rw (q, same) g
        is_good j l (no q) = rw (at_other W C i j (heft e) (count e) q) (held.good j l)

        is_spelt : (j : ℕ) → j < lim → Dec (j ≡ i)
            → Spells (get_or (set W i (heft e)) j 0) (get_or (set C i (count e)) j 0) (value_at (set W i (heft e)) (set C i (count e)) j)
        is_spelt j l (yes q) =
            rw (q, same, get_or-set_same W i (heft e) 0 (omega (arith, held.long_ws)), get_or-set_same C i (count e) 0 (omega (arith, held.long_cs)))
            (record { of_weight = refl; of_count = refl })
        is_spelt j l (no q) = rw (at_other W C i j (heft e) (count e) q, get_or-set_other W i j (heft e) 0 q, get_or-set_other C i j (count e) 0 q) (held.spelt j l)

        is_a : (j : ℕ) → j < lim → Dec (j ≡ i) → A j (value_at (set W i (heft e)) (set C i (count e)) j)
        is_a j l (yes q) = rw (q, same) a
        is_a j l (no q) = rw (at_other W C i j (heft e) (count e) q) (held.is j l)

    -- the test, in the words of the entry's value
    tested : {r : Bool} → less (heft e) (count e) (get_or W i 0) (get_or C i 0) ≡ r → less (heft e) (count e) (heft (value_at W C i)) (count (value_at W C i)) ≡ r
    unfolding val
    tested k = rw ((held.spelt i h).of_weight, (held.spelt i h).of_count) at k

    stored_step : less (heft e) (count e) (get_or W i 0) (get_or C i 0) ≡ true → Step s t
    unfolding val size
    stored_step k =
        record {
          held = stored_held;
          same_ws = length-set W i (heft e);
          same_cs = length-set C i (count e);
          past_ws = λ j l. get_or-set_other W i j (heft e) 0 (λ q. omega arith);
          past_cs = λ j l. get_or-set_other C i j (count e) 0 (λ q. omega arith);
          below = λ j l. go j l (ℕ_discrete j i);
          no_more = (less_size (less_true _ _ _ _ k)).0;
          falls = λ f. inr (less_size (less_true _ _ _ _ k)).1;
        }
      where
        go : (j : ℕ) → j < lim → Dec (j ≡ i) → Le (value_at (set W i (heft e)) (set C i (count e)) j) (value_at W C j)
        go j l (yes q) =
            rw (q, at_same W C i e (omega (arith, held.long_ws)) (omega (arith, held.long_cs)) g)
            (less_le e (value_at W C i) g (held.good i h) (tested k))
        go j l (no q) = rw (at_other W C i j (heft e) (count e) q) (le_refl_v (value_at W C j))

        less_size : (heft e < get_or W i 0) ⊎ ((heft e ≡ get_or W i 0) × (count e < get_or C i 0))
            → (4098 * total (set W i (heft e)) + total (set C i (count e)) ≤ 4098 * total W + total C)
            × (4098 * total (set W i (heft e)) + total (set C i (count e)) < 4098 * total W + total C)
        less_size (inl m) =
            let x = total_set W i (heft e) (omega (arith, held.long_ws)) in
            let y = total_set C i (count e) (omega (arith, held.long_cs)) in
            let z = count_small e g in
            (omega arith, omega arith)
        less_size (inr m) =
            let x = total_set W i (heft e) (omega (arith, held.long_ws)) in
            let y = total_set C i (count e) (omega (arith, held.long_cs)) in
            let z = count_small e g in
            (omega arith, omega arith)

    one_step : Step s (reached i e s)
    unfolding reached lowered
    one_step = go (less (heft e) (count e) (get_or W i 0) (get_or C i 0)) refl
      where
        go : (r : Bool) → less (heft e) (count e) (get_or W i 0) (get_or C i 0) ≡ r
            → Step (cells W C b) (cond r (cells (set W i (heft e)) (set C i (count e)) true) (cells W C b))
        go true k = stored_step k
        go false k = step_none (cells W C b) held

    one_hit : Le (val (reached i e s) i) e
    unfolding reached lowered val
    one_hit = go (less (heft e) (count e) (get_or W i 0) (get_or C i 0)) refl
      where
        go : (r : Bool) → less (heft e) (count e) (get_or W i 0) (get_or C i 0) ≡ r
            → Le (val (cond r (cells (set W i (heft e)) (set C i (count e)) true) (cells W C b)) i) e
        go true k = rw (at_same W C i e (omega (arith, held.long_ws)) (omega (arith, held.long_cs)) g) (le_refl_v e)
        go false k = not_less_le e (value_at W C i) g (held.good i h) (tested k)

  pub reached_step : (i : ℕ) (e : Value) → i < lim → Good e → A i e → (s : Cells) → Held s → Step s (reached i e s)
  reached_step i e h g a (cells W C b) k = one_step W C b i e h g a k

  pub reached_hit : (i : ℕ) (e : Value) → i < lim → Good e → A i e → (s : Cells) → Held s → Le (val (reached i e s) i) e
  reached_hit i e h g a (cells W C b) k = one_hit W C b i e h g a k

  -- ## A loop

  module _ (f : ℕ → Cells → Cells) (n : ℕ) (turns : (k : ℕ) → k < n → (s : Cells) → Held s → Step s (f k s)) where
    pub upto_step : (s : Cells) → Held s → Step s (upto f n s)
    upto_step = loops.upto_step Held Step step_none step_then (λ s t a. a.held) f n turns

    -- what one turn brings an entry down to, it stays down to
    pub upto_hit : (k i : ℕ) (e : Value) → k < n → i < lim → ((s : Cells) → Held s → Le (val (f k s) i) e) → (s : Cells) → Held s → Le (val (upto f n s) i) e
    upto_hit k i e h b =
        loops.upto_hit Held Step step_none step_then (λ s t a. a.held) f n turns (λ s. Le (val s i) e) (λ s t a q. le_trans_v (val t i) (val s i) e (a.below i b) q) k h
