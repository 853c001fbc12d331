-- What the proofs of the code cite: one law for each function, over plain variables. Assumes nothing.
use Prim.Native.Nat.{ℕ, ◌*◌}
use mathlib.Core.Path.{◌≡◌}
use mathlib.Core.Bool.{false}
use mathlib.Core.List.{List}
use Rattle.network.specs.Network.{places, place_in}
use Rattle.tables_costs.specs.Costs.{blank}
use Rattle.tables_costs.specs.Cells.{Cells, cells}
use Rattle.tables_sweeps.specs.Row.{ways, merged, row}

module _ (g W C : List ℕ) (v x : ℕ) (H : List ℕ) (since size here : ℕ) (s : size ≡ places g) (p : here ≡ place_in g v x) where
  pub row_done : (base : ℕ) (y : List ℕ) (t : Cells) → y ≡ ways g W C H since v x (blank 1024) → base ≡ here * size → t ≡ merged base size y (cells W C false)
      → t ≡ row g H since v x (cells W C false)
  unfolding row
  row_done base y t e f h = rw (← e, ← s, ← p, ← f) h
