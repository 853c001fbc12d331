-- Filled rooms hold what the paper says of the tables.
-- Main result: `tabled`. Assumes nothing.
use Prim.Native.Nat.{ℕ, ◌*◌, ◌<◌}
use mathlib.Core.Path.{◌≡◌}
use mathlib.Core.List.{List}
use lib.ListN.{get_or, replicate}
use Rattle.paper.specs.Rooms.{laid, Entries, Tabled}
use Rattle.laws.proofs.Outcome.{entries}
use Rattle.network.specs.Network.{nodes, protocols, places, hop_in}
use Rattle.tables_costs.specs.Cells.{pair_at, table}
use Rattle.tables_sweeps.specs.Filled.{Filled}

pub tabled : (g W C X W' C' X' : List ℕ) → Filled g W C W' C' → X' ≡ laid X 0 (replicate (8 * (places g * places g)) 0)
    → Tabled (hop_in g) (nodes g) (protocols g) W C X W' C' X'
tabled g W C X W' C' X' f e =
    record {
      pairs = pairs;
      later_weights = f.later_weights;
      later_counts = f.later_counts;
      choices = e;
      weights_length = f.weights_length;
      counts_length = f.counts_length;
    }
  where
    pairs : (S a D b : ℕ) → S < nodes g → a < protocols g → D < nodes g → b < protocols g
        → Entries (hop_in g) S a D b (get_or W' (pair_at (nodes g) (protocols g) S a D b) 0) (get_or C' (pair_at (nodes g) (protocols g) S a D b) 0)
    pairs S a D b hS ha hD hb =
        let s = f.spelled S a D b hS ha hD hb in
        rw (s.of_weight, s.of_count) (entries (hop_in g) S a D b (table (nodes g) (protocols g) W' C' S a D b) (f.exact.entry S a D b hS ha hD hb))
