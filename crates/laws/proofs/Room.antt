-- How many levels are open at once: at most the square of the places, and at most one more than half the steps; so their records fit the choice room.
-- Assumes nothing.
use Prim.Native.Nat.{ℕ, suc, ◌+◌, ◌*◌, ◌≤◌}
use mathlib.Core.Path.{◌≡◌}
use mathlib.Core.List.{List, [], ◌∷◌, ◌++◌}
use mathlib.Core.Option.{Option, some}
use native.Mathlib.Omega.{arith}
use native.Mathlib.Nat.{mul-le-mul_right, le_refl}
use native.Mathlib.Decide.{dec_le}
use lib.ListN.{length, length-append}
use Rattle.paper.specs.Net.{wrap, unwrap, Key, key}
use Rattle.laws.specs.Level.{Level, stay, carry, tunnel, keys, weight}
use Rattle.laws.specs.Value.{Value}
use Rattle.laws.specs.Rest.{Exit, end, out, trail, toll, Rest, rest, path, price}
use Rattle.laws.specs.Unfold.{Exact, Begun, Passes, wrap_passes, Frame, hides, Nest, base, over}
use Rattle.laws.proofs.Fixpoint.{Valid}
use Rattle.laws.proofs.Depth.{depth, half, levels_bound}
use Rattle.laws.proofs.Tight.{join, join_weight, join_steps, least_cheapest}
use Rattle.laws.proofs.Nest.{test_open}

module _ (hop : Key → ℕ → Option (ℕ × ℕ)) where
  join_depth : {v x r q u y : ℕ} (d : Level hop v x r q) (e : Level hop r q u y) → depth hop e ≤ depth hop (join hop d e)
  unfolding join depth
  join_depth stay e = le_refl (depth hop e)
  join_depth (carry l w h d) e = join_depth d e
  join_depth (tunnel l w m f h i k d) e = omega (arith, join_depth d e)

  module _ (N P : ℕ) (t : ℕ → ℕ → ℕ → ℕ → Value) (D b : ℕ) where
    -- a whole route of the bottom level's cost, k levels deep
    record Whole (k : ℕ) : Type 0 where
      S : ℕ
      a : ℕ
      w : ℕ
      n : ℕ
      begun : Begun hop N P t D b S a [] w n
      by : Level hop S a D b
      weighs : weight hop by ≡ w
      counts : length (keys hop by) ≡ n
      deep : k ≤ depth hop by

    -- what has been reached, with a rest behind it, makes one
    whole : {f : Frame} {fs : List Frame} {v x w n u y : ℕ} → Nest hop N P t D b f fs v x w n → (d : Level hop v x u y) (o : Exit hop D b u y (hides f fs))
        → weight hop d + toll hop D b o ≡ w → length (keys hop d) + length (trail hop D b o) ≡ n → Whole (length fs + depth hop d)
    unfolding hides trail toll keys weight depth
    whole (base e m i) d end p q =
        record {
          S = _;
          a = _;
          w = _;
          n = _;
          begun = e;
          by = join hop i.by d;
          weighs = omega (arith, i.weighs, join_weight hop i.by d);
          counts = omega (arith, i.counts, join_steps hop i.by d);
          deep = omega (arith, join_depth i.by d);
        }
    whole {f} (over {fs = fs} l c k h p q m i) d (out {y = y} s e g j o) a z =
        let d' = tunnel l c s e h (join hop i.by d) g j in
        let r = whole k d' o
        (omega (arith, i.weighs, join_weight hop i.by d))
        (omega (arith, i.counts, join_steps hop i.by d, length-append (keys hop (join hop i.by d)) (key s unwrap f.hidden y ∷ keys hop j), length-append (keys hop j) (trail hop D b o))) in
        record { S = r.S; a = r.a; w = r.w; n = r.n; begun = r.begun; by = r.by; weighs = r.weighs; counts = r.counts; deep = omega (arith, r.deep, join_depth i.by d) }

    few : (k : ℕ) → Valid hop N P → Whole k → (suc k ≤ N * P * (N * P)) × (k + k ≤ 4096)
    unfolding trail toll
    few k valid r = (
      omega (
        arith,
        r.deep,
        levels_bound hop N P valid r.by r.begun.node r.begun.protocol (least_cheapest hop D b r.begun.least r.by end (omega (arith, r.weighs)) (omega (arith, r.counts))),
      ),
      omega (arith, r.deep, half hop r.by, r.counts, r.begun.short),
    )

    less : {i : ℕ} (k : ℕ) → k ≤ i → Whole i → Whole k
    less k h r = record { S = r.S; a = r.a; w = r.w; n = r.n; begun = r.begun; by = r.by; weighs = r.weighs; counts = r.counts; deep = omega (arith, r.deep) }

    whole_wrap : {f : Frame} {fs : List Frame} {v x w n r z u m : ℕ} (l c : ℕ) → Nest hop N P t D b f fs v x w n → hop (key l wrap x z) v ≡ some (r, c) → w ≡ c + u → n ≡ suc m
        → (s : Rest hop D b r z (x ∷ hides f fs)) → price hop D b s ≡ u → length (path hop D b s) ≡ m → Whole (suc (length fs))
    unfolding path price trail toll keys weight depth
    whole_wrap {fs = fs} {x = x} l c k h p q (rest {y = y} i (out s e g d o)) a j =
        less (suc (length fs)) (omega arith) (whole k (tunnel l c s e h i g d) o (omega arith)
        (omega (arith, length-append (keys hop i) (key s unwrap x y ∷ keys hop d), length-append (keys hop i) (key s unwrap x y ∷ (keys hop d ++ trail hop D b o)), length-append (keys hop d) (trail hop D b o))))

    -- the tunnels open, one that passes its test counted in: what is known before its record is written
    pub few_levels : {f : Frame} {fs : List Frame} {v x w n l y z r s u m : ℕ} → Valid hop N P → Exact hop N P t → Nest hop N P t D b f fs v x w n
        → Passes hop N P t f fs v x w n (key l wrap y z) r s u m → (suc (suc (length fs)) ≤ N * P * (N * P)) × (suc (length fs) + suc (length fs) ≤ 4096)
    few_levels {fs = fs} valid exact k (wrap_passes l c h p q o) =
        let g = (test_open hop N P t D b valid exact l c k h p q).0 o in
        few (suc (length fs)) valid (whole_wrap l c k h p q g.by g.weighs g.counts)

-- M places, a record of five entries and a bit for each place, k tunnels open: all the records fit 8 × M² entries
pub records_fit : (M j k : ℕ) → 16 * j ≤ M + 15 → suc k ≤ M * M → k + k ≤ 4096 → (j + 5) * suc k ≤ 8 * (M * M)
records_fit M j k hj hk hh = go (dec_le M 48)
  where
    go : Dec (M ≤ 48) → (j + 5) * suc k ≤ 8 * (M * M)
    go (yes g) =
        let a : j + 5 ≤ 8 = omega arith in
        omega (arith, mul-le-mul_right (suc k) a)
    go (no g) =
        let a : suc k ≤ 2049 = omega arith in
        let c : 49 ≤ M = omega arith in
        omega (arith, mul-le-mul_right (j + 5) a, mul-le-mul_right M c)
