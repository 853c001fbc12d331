-- The weight and count rooms as a table of values, and what a store does to them.
-- Assumes nothing: these are definitions.
use Rattle.std.specs.Prelude.{ℕ, ◌+◌, ◌*◌, ◌≡◌, Bool, true, cond, ◌&&◌, ◌||◌, List, leb, ltb, eqb, get_or, set}
use Rattle.paper.specs.Limits.{heaviest, over_mark}
use Rattle.paper.specs.Net.{place}
use Rattle.laws.specs.Value.{Value, within, over, never, heft, count}

-- the value that two entries stand for
unfoldable pub value : ℕ → ℕ → Value
value w s = cond (leb w heaviest) (within w s) (cond (leb w over_mark) over never)

-- w and s are the two entries that stand for the value e
pub record Spells (w s : ℕ) (e : Value) : Type 0 where
  pub of_weight : w ≡ heft e
  pub of_count : s ≡ count e

-- the weight is less, or the same with fewer steps
unfoldable pub less : (w s v r : ℕ) → Bool
less w s v r = ltb w v || (eqb w v && ltb s r)

-- the weights, the counts, and whether an entry fell
pub data Cells : Type 0 where
  cells : List ℕ → List ℕ → Bool → Cells

unfoldable pub value_at : List ℕ → List ℕ → ℕ → Value
value_at W C i = value (get_or W i 0) (get_or C i 0)

-- where the entry of the places (S, a) and (D, b) stands
abbrev pub pair_at : (n p S a D b : ℕ) → ℕ
pair_at n p S a D b = place p S a * (n * p) + place p D b

-- the table that the rooms hold
unfoldable pub table : (n p : ℕ) (W C : List ℕ) → (S a D b : ℕ) → Value
table n p W C S a D b = value_at W C (pair_at n p S a D b)

unfoldable pub stored : (i w s : ℕ) → Cells → Cells
stored i w s (cells W C b) = cells (set W i w) (set C i s) b

-- stored where that lowers the entry
unfoldable pub lowered : (i w s : ℕ) → Cells → Cells
lowered i w s (cells W C b) = cond (less w s (get_or W i 0) (get_or C i 0)) (cells (set W i w) (set C i s) true) (cells W C b)
