-- What is lent to the tables: rooms that are long enough for the places of the network g.
-- Assumes nothing: these are definitions.
use Rattle.std.specs.Prelude.{ℕ, ◌*◌, ◌≤◌, List, length}
use Rattle.network.specs.Network.{places}

pub record Lent (g W C X : List ℕ) : Type 0 where
  pub weights : places g * places g ≤ length W
  pub counts : places g * places g ≤ length C
  pub choices : 8 * (places g * places g) ≤ length X
