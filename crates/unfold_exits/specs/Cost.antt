-- What is left of a route as one number, weight first, then steps; and what the tables tell of a pair of places, as such a number.
-- Assumes nothing: these are definitions.
use Rattle.std.specs.Prelude.{ℕ, zero, suc, ◌+◌, ◌*◌, ◌≤◌, min, cond, ◌&&◌, List, leb, length, get_or}
use Rattle.paper.specs.Limits.{heaviest, longest}
use Rattle.tables_costs.specs.Costs.{far}

-- sums and orders of costs are those of the numbers, while steps stay below 65,536
abbrev pub cost : ℕ → ℕ → ℕ
cost w s = w * 65536 + s

-- the cost that two entries of the tables tell; far where they tell of no route of at most 4,096 steps
unfoldable pub told : ℕ → ℕ → ℕ
told w s = cond (leb w heaviest && leb s longest) (cost w s) far

unfoldable pub told_at : (W C : List ℕ) → ℕ → ℕ
told_at W C i = told (get_or W i 0) (get_or C i 0)

-- the rooms hold an entry for each pair of `size` places
pub record Square (size : ℕ) (W C : List ℕ) : Type 0 where
  pub small : size ≤ 1024
  pub weights : size * size ≤ length W
  pub counts : size * size ≤ length C

-- the least of f 0, f 1, up to f (n - 1); far if that is none
unfoldable pub least : (ℕ → ℕ) → ℕ → ℕ
least f zero = far
least f (suc n) = min (least f n) (f n)
