-- Clearing the first entries one by one fills them. Assumes nothing.
use Prim.Native.Nat.{ℕ, zero, suc, ◌≤◌}
use mathlib.Core.Path.{◌≡◌, refl}
use mathlib.Core.Bool.{Bool}
use mathlib.Core.List.{List, ◌++◌}
use native.Mathlib.Omega.{arith}
use native.Mathlib.Numerals.{add-one}
use lib.ListN.{length, drop, replicate}
use Rattle.std.proofs.lemmas.List.Edits.{fill_more}
use Rattle.tables_costs.specs.Cells.{cells, stored}
use Rattle.tables_costs.specs.Loop.{upto}
use Rattle.tables_sweeps.specs.Sweep.{cleared}

pub cleared_is : (m : ℕ) (W C : List ℕ) (b : Bool) → m ≤ length W → m ≤ length C
    → cleared m (cells W C b) ≡ cells (replicate m 4294967295 ++ drop m W) (replicate m 0 ++ drop m C) b
unfolding cleared upto stored
cleared_is zero W C b p q = refl
cleared_is (suc m) W C b p q =
    rw (cleared_is m W C b (omega arith) (omega arith), fill_more m 4294967295 W (omega arith), fill_more m 0 C (omega arith), add-one m) refl
