-- What the functions ask of the rooms and lists that they are lent. Assumes nothing: these are definitions.
use Rattle.std.specs.Prelude.{ℕ, ◌*◌, ◌<◌, ◌≤◌, List, length}

-- an entry for every pair of places
pub record Roomy (size : ℕ) (W C : List ℕ) : Type 0 where
  pub few : size ≤ 1024
  pub weights : size * size ≤ length W
  pub counts : size * size ≤ length C

-- on from the places of one list, into another
pub record Spreading (size : ℕ) (W C a y : List ℕ) : Type 0 where
  pub roomy : Roomy size W C
  pub places : size ≤ length a
  pub ways : size ≤ length y

-- the same for the row of place P, with a stamp for every row
pub record Going (size : ℕ) (W C H : List ℕ) (P : ℕ) (a y : List ℕ) : Type 0 where
  pub spreading : Spreading size W C a y
  pub stamps : size ≤ length H
  pub inside : P < size
