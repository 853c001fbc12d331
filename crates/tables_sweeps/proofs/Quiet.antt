-- Where nothing fell, every part of what was done left all as it was. Assumes nothing.
use Prim.Native.Nat.{ℕ, zero, suc, ◌+◌, ◌<◌}
use mathlib.Core.Path.{◌≡◌, refl, sym, ap, ◌∙◌}
use mathlib.Core.Bool.{Bool, true, false, cond, ◌||◌}
use mathlib.Core.List.{List}
use native.Mathlib.Omega.{arith}
use native.Mathlib.Nat.{not-suc-le-zero}
use native.Mathlib.Decide.{dec_lt}
use lib.Dec.{ltb}
use lib.ListN.{get_or, set}
use Rattle.laws.specs.Value.{Value, heft, count}
use Rattle.network.specs.Network.{nodes, protocols, places, place_in}
use Rattle.tables_costs.specs.Loop.{upto}
use Rattle.tables_costs.specs.Costs.{worth, cost_at}
use Rattle.tables_costs.specs.Cells.{less, Cells, cells, lowered}
use Rattle.tables_sweeps.specs.Row.{reached, merging, merged, row}
use Rattle.tables_sweeps.specs.Sweep.{Stage, stage, stamped, turned, visited, node_rows, sweep}
use Rattle.tables_sweeps.proofs.Lowering.{fell}

pub not_both : true ≡ false → ⊥
not_both e = let z : ◌≡◌ {A = ℕ} 0 1 = cc in omega arith

module _ {S : Type 0} (flag : S → Bool) where
  pub record Quiet (f : S → S) : Type 0 where
    pub still : (s : S) → flag (f s) ≡ false → f s ≡ s

  module _ (f : ℕ → S → S) (q : (k : ℕ) → Quiet (f k)) where
    pub upto_quiet : (n : ℕ) → Quiet (upto f n)
    unfolding upto
    upto_quiet n = record { still = still n }
      where
        still : (n : ℕ) (s : S) → flag (upto f n s) ≡ false → upto f n s ≡ s
        still zero s e = refl
        still (suc n) s e = let a = (q n).still (upto f n s) e in a ∙ still n s (ap flag (sym a) ∙ e)

    pub upto_each : (n : ℕ) (s : S) → flag (upto f n s) ≡ false → (k : ℕ) → k < n → f k s ≡ s
    unfolding upto
    upto_each zero s e k l = absurd (not-suc-le-zero l)
    upto_each (suc n) s e k l = go (dec_lt k n) (λ m. upto_each n s quiet k m)
      where
        last : f n (upto f n s) ≡ upto f n s
        last = (q n).still (upto f n s) e

        quiet : flag (upto f n s) ≡ false
        quiet = ap flag (sym last) ∙ e

        go : Dec (k < n) → (k < n → f k s ≡ s) → f k s ≡ s
        go (yes m) rec = rec m
        go (no m) rec = let r : k ≡ n = omega arith in rw (r) (rw ((upto_quiet n).still s quiet) at last)

-- ## A row

reached_quiet : (i : ℕ) (e : Value) → Quiet fell (reached i e)
unfolding reached lowered
reached_quiet i e = record { still = still }
  where
    still : (s : Cells) → fell (reached i e s) ≡ false → reached i e s ≡ s
    still (cells W C b) = go (less (heft e) (count e) (get_or W i 0) (get_or C i 0))
      where
        go : (r : Bool) → fell (cond r (cells (set W i (heft e)) (set C i (count e)) true) (cells W C b)) ≡ false
            → cond r (cells (set W i (heft e)) (set C i (count e)) true) (cells W C b) ≡ cells W C b
        go true f = absurd (not_both f)
        go false f = refl

-- an entry that was not lowered
pub not_lowered : (i : ℕ) (e : Value) (W C : List ℕ) → reached i e (cells W C false) ≡ cells W C false → less (heft e) (count e) (get_or W i 0) (get_or C i 0) ≡ false
unfolding reached lowered
not_lowered i e W C = go (less (heft e) (count e) (get_or W i 0) (get_or C i 0))
  where
    go : (r : Bool) → cond r (cells (set W i (heft e)) (set C i (count e)) true) (cells W C false) ≡ cells W C false → r ≡ false
    go true f = ap fell f
    go false f = refl

merging_quiet : (base : ℕ) (y : List ℕ) (q : ℕ) → Quiet fell (merging base y q)
unfolding merging
merging_quiet base y q = record { still = still }
  where
    still : (s : Cells) → fell (merging base y q s) ≡ false → merging base y q s ≡ s
    still (cells W C b) = go (ltb (get_or y q 0) (cost_at W C (base + q)))
      where
        go : (r : Bool) → fell (cond r (reached (base + q) (worth (get_or y q 0)) (cells W C b)) (cells W C b)) ≡ false
            → cond r (reached (base + q) (worth (get_or y q 0)) (cells W C b)) (cells W C b) ≡ cells W C b
        go true f = (reached_quiet (base + q) (worth (get_or y q 0))).still (cells W C b) f
        go false f = refl

pub merged_each : (base size : ℕ) (y : List ℕ) (s : Cells) → fell (merged base size y s) ≡ false → (q : ℕ) → q < size → merging base y q s ≡ s
unfolding merged
merged_each base size y s e = upto_each fell _ (merging_quiet base y) size s e

-- ## A sweep

abbrev pub dropped : Stage → Bool
dropped (stage W C H b) = b

or_false : (a b : Bool) → (a || b) ≡ false → (a ≡ false) × (b ≡ false)
or_false true b e = absurd (not_both e)
or_false false b e = (refl, e)

-- the order of the nodes
pub turned_lt : (back : Bool) (n k : ℕ) → k < n → turned back n k < n
unfolding turned
turned_lt false n k h = h
turned_lt true n k h = omega arith

turned_twice : (back : Bool) (n k : ℕ) → k < n → turned back n (turned back n k) ≡ k
unfolding turned
turned_twice false n k h = refl
turned_twice true n k h = omega arith

module _ (g : List ℕ) where
  row_quiet : (H : List ℕ) (since v x : ℕ) → Quiet fell (row g H since v x)
  unfolding row merged
  row_quiet H since v x = record { still = still }
    where
      still : (s : Cells) → fell (row g H since v x s) ≡ false → row g H since v x s ≡ s
      still (cells W C b) e = (upto_quiet fell _ (merging_quiet _ _) (places g)).still (cells W C b) e

  module _ (stamp since : ℕ) where
    visited_quiet : (v x : ℕ) → Quiet dropped (visited g stamp since v x)
    unfolding visited stamped
    visited_quiet v x = record { still = still }
      where
        still : (s : Stage) → dropped (visited g stamp since v x s) ≡ false → visited g stamp since v x s ≡ s
        still (stage W C H b) = go (row g H since v x (cells W C false)) ((row_quiet H since v x).still (cells W C false))
          where
            go : (t : Cells) → (fell t ≡ false → t ≡ cells W C false) → dropped (stamped stamp (place_in g v x) H b t) ≡ false → stamped stamp (place_in g v x) H b t ≡ stage W C H b
            go (cells W' C' r) q e =
                let o = or_false b r e in
                let z = q o.1 in
                let a : W' ≡ W = cc in
                let c : C' ≡ C = cc in
                rw (o.0, o.1, a, c)

    visited_row : (v x : ℕ) (W C H : List ℕ) → visited g stamp since v x (stage W C H false) ≡ stage W C H false
        → row g H since v x (cells W C false) ≡ cells W C false
    unfolding visited stamped
    visited_row v x W C H = go (row g H since v x (cells W C false))
      where
        go : (t : Cells) → stamped stamp (place_in g v x) H false t ≡ stage W C H false → t ≡ cells W C false
        go (cells W' C' r) e = cc

    node_rows_quiet : (v : ℕ) → Quiet dropped (node_rows g stamp since v)
    unfolding node_rows
    node_rows_quiet v = upto_quiet dropped _ (visited_quiet v) (protocols g)

    pub sweep_quiet : (back : Bool) → Quiet dropped (sweep g stamp since back)
    unfolding sweep
    sweep_quiet back = upto_quiet dropped _ (λ k. node_rows_quiet (turned back (nodes g) k)) (nodes g)

    -- where a sweep lowers nothing, no row does
    pub sweep_each : (back : Bool) (W C H : List ℕ) → dropped (sweep g stamp since back (stage W C H false)) ≡ false
        → (v x : ℕ) → v < nodes g → x < protocols g → row g H since v x (cells W C false) ≡ cells W C false
    unfolding sweep node_rows
    sweep_each back W C H e v x hv hx =
        let a = upto_each dropped _ (λ k. node_rows_quiet (turned back (nodes g) k)) (nodes g) (stage W C H false) e (turned back (nodes g) v) (turned_lt back (nodes g) v hv) in
        let b = rw (turned_twice back (nodes g) v hv) at a in
        visited_row v x W C H (upto_each dropped _ (visited_quiet v) (protocols g) (stage W C H false) (ap dropped b) x hx)
