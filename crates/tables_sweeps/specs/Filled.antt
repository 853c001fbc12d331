-- What the filled rooms say: the entry of every pair of places. Later entries are as before.
-- Assumes nothing: these are definitions.
use Rattle.std.specs.Prelude.{ℕ, ◌*◌, ◌<◌, ◌≤◌, ◌≡◌, List, length, get_or}
use Rattle.laws.specs.Unfold.{Exact}
use Rattle.network.specs.Network.{nodes, protocols, places, hop_in}
use Rattle.tables_costs.specs.Cells.{Spells, pair_at, table}

-- W' and C' are the rooms W and C, filled for the network g
pub record Filled (g W C W' C' : List ℕ) : Type 0 where
  -- every value is the pair's entry
  pub exact : Exact (hop_in g) (nodes g) (protocols g) (table (nodes g) (protocols g) W' C')
  -- and its two numbers are those that stand for it
  pub spelled : (S a D b : ℕ) → S < nodes g → a < protocols g → D < nodes g → b < protocols g
      → Spells (get_or W' (pair_at (nodes g) (protocols g) S a D b) 0) (get_or C' (pair_at (nodes g) (protocols g) S a D b) 0) (table (nodes g) (protocols g) W' C' S a D b)
  pub later_weights : (i : ℕ) → places g * places g ≤ i → get_or W' i 0 ≡ get_or W i 0
  pub later_counts : (i : ℕ) → places g * places g ≤ i → get_or C' i 0 ≡ get_or C i 0
  pub weights_length : length W' ≡ length W
  pub counts_length : length C' ≡ length C
