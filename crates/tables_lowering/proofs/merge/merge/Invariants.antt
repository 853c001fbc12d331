use Rattle.tables_sweeps.specs.Row.{merging}
use Rattle.tables_costs.specs.Cells.{cells}
use Rattle.tables_costs.specs.Loop.{upto}
use Rattle.tables_costs.specs.Rooms.{SameRooms}
use mathlib.Core.Path.{◌≡◌}
use Rattle.tables_lowering.proofs.merge.merge.Given as goal

abbrev pub invariant-loop-q : goal.invariant-loop-q
invariant-loop-q l =
    SameRooms l.initial.tables l.tables × (cells l.tables.weight.now l.tables.count.now l.any ≡ upto (merging l.base l.y) l.q (cells l.initial.tables.weight.now l.initial.tables.count.now l.initial.any))
