-- Steps and the records behind them, in the network in memory: the columns' laws at its records. Assumes nothing.
use Prim.Native.Nat.{ℕ, ◌+◌, ◌<◌}
use mathlib.Core.Path.{◌≡◌}
use mathlib.Core.List.{List}
use mathlib.Core.Option.{some}
use Rattle.paper.specs.Net.{Kind, code, key}
use Rattle.laws.proofs.Fixpoint as fixpoint
use Rattle.network_records.specs.Columns.{kind_of_code}
use Rattle.network_records.proofs.Links as columns
use Rattle.network.specs.Network.{nodes, protocols, links, funs, size_of, links_room, funs_room, number, from, to, toll, node, kind, x_of, y_of, fee, hop_in}
use Rattle.network.specs.Arranged.{Arranged}

module _ (g : List ℕ) (o : Arranged g) where
  -- function j over link i, where both leave v
  pub step_at : (j i v k x : ℕ) → j < funs g → i < links g → from g i ≡ node g j → node g j ≡ v → kind g j ≡ k → x_of g j ≡ x
      → hop_in g (key (number g i) (kind_of_code k) x (y_of g j)) v ≡ some (to g i, fee g j + toll g i)
  step_at = columns.step_at (size_of g) (links_room g) (funs_room g) o.valid

  -- the function and the link of a step
  abbrev pub Found : (l : ℕ) (c : Kind) (x y v u w : ℕ) → Type 0
  Found = columns.Found (size_of g) (links_room g) (funs_room g) o.valid

  pub found : (l : ℕ) (c : Kind) (x y v u w : ℕ) → hop_in g (key l c x y) v ≡ some (u, w) → Found l c x y v u w
  found = columns.found (size_of g) (links_room g) (funs_room g) o.valid

  -- the code of a function's kind
  pub kind_is : (c : Kind) (j : ℕ) → j < funs g → kind_of_code (kind g j) ≡ c → kind g j ≡ code c
  kind_is = columns.kind_is (size_of g) (links_room g) (funs_room g) o.valid

  -- steps lead to places
  pub steps_inside : fixpoint.Valid (hop_in g) (nodes g) (protocols g)
  steps_inside = columns.steps_inside (size_of g) (links_room g) (funs_room g) o.valid
