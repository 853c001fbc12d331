use Rattle.tables_costs.specs.Cells.{cells, lowered}
use Rattle.tables_costs.specs.Loop.{upto}
use Rattle.tables_costs.specs.Rooms.{SameRooms}
use mathlib.Core.Path.{◌≡◌}
use Prim.Native.Nat.{◌+◌, ◌*◌}
use Rattle.tables_lowering.proofs.begin.stay.Given as goal

abbrev pub invariant-loop-k : goal.invariant-loop-k
invariant-loop-k l =
    SameRooms l.initial.tables l.tables × (cells l.tables.weight.now l.tables.count.now l.any ≡ upto (λ i. lowered (i * l.size + i) 0 0) l.k (cells l.initial.tables.weight.now l.initial.tables.count.now l.initial.any))
