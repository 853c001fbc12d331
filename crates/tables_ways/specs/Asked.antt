-- What the functions ask of the rooms that they are lent. Assumes nothing: these are definitions.
use Rattle.std.specs.Prelude.{ℕ, ◌≤◌, List, length}
use Rattle.network.specs.Network.{places}
use Rattle.tables_spread.specs.Asked.{Roomy}

-- the rooms, and a stamp for every row
pub record Sweeping (g W C H : List ℕ) : Type 0 where
  pub roomy : Roomy (places g) W C
  pub stamps : places g ≤ length H
