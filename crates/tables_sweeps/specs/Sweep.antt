-- A sweep over all the rows, as a function of the rooms: one function here for each in the code.
-- Assumes nothing: these are definitions.
use Rattle.std.specs.Prelude.{ℕ, ◌+◌, ◌*◌, ◌-◌, ◌<◌, ◌≡◌, Bool, true, false, cond, ◌||◌, List, set}
use Rattle.paper.specs.Limits.{never_mark}
use Rattle.network.specs.Network.{nodes, protocols, place_in}
use Rattle.tables_costs.specs.Loop.{upto}
use Rattle.tables_costs.specs.Cells.{Cells, cells, stored, lowered}
use Rattle.tables_sweeps.specs.Row.{row}

-- the weights, the counts, the stamp of each row's last change, and whether an entry fell
pub data Stage : Type 0 where
  stage : List ℕ → List ℕ → List ℕ → Bool → Stage

-- a row swept: it gets the stamp where it fell
unfoldable pub stamped : (stamp P : ℕ) (H : List ℕ) (b : Bool) → Cells → Stage
stamped stamp P H b (cells W C r) = stage W C (cond r (set H P stamp) H) (b || r)

-- the k-th of n nodes, from the first on or from the last
unfoldable pub turned : Bool → ℕ → ℕ → ℕ
turned false n k = k
turned true n k = n - 1 - k

module _ (g : List ℕ) (stamp since : ℕ) where
  unfoldable pub visited : (v x : ℕ) → Stage → Stage
  visited v x (stage W C H b) = stamped stamp (place_in g v x) H b (row g H since v x (cells W C false))

  unfoldable pub node_rows : ℕ → Stage → Stage
  node_rows v = upto (visited v) (protocols g)

  unfoldable pub sweep : Bool → Stage → Stage
  sweep back = upto (λ k. node_rows (turned back (nodes g) k)) (nodes g)

  -- from one stage to another by visits of rows
  pub data Visits : Stage → Stage → Type 0 where
    none : {s : Stage} → Visits s s
    more : {s t : Stage} (v x : ℕ) → v < nodes g → x < protocols g → Visits s t → Visits s (visited v x t)

  -- t comes from s by some of what f does: a sweep may pass over rows, but not where everything counts as new
  pub record Passing (s : Stage) (f : Stage → Stage) (t : Stage) : Type 0 where
    pub visits : Visits s t
    pub full : since ≡ 0 → t ≡ f s

-- every entry `never`, then those of a place with itself 0 and 0
unfoldable pub cleared : ℕ → Cells → Cells
cleared m = upto (λ i. stored i never_mark 0) m

unfoldable pub diagonal : ℕ → Cells → Cells
diagonal size = upto (λ k. lowered (k * size + k) 0 0) size
