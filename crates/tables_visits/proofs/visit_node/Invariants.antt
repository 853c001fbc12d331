use Rattle.tables_sweeps.specs.Sweep.{stage, visited, Passing}
use Rattle.tables_costs.specs.Loop.{upto}
use Rattle.tables_costs.specs.Rooms.{SameRooms}
use lib.ListN.{length}
use mathlib.Core.Path.{◌≡◌}
use Rattle.tables_visits.proofs.visit_node.Given as goal

abbrev pub invariant-loop-x : goal.invariant-loop-x
invariant-loop-x l =
    SameRooms l.initial.tables l.tables × (length l.stamps ≡ length l.initial.stamps)
    × Passing l.net l.round.stamp l.round.since (stage l.initial.tables.weight.now l.initial.tables.count.now l.initial.stamps l.initial.any) (upto (visited l.net l.round.stamp l.round.since l.v) l.x) (stage l.tables.weight.now l.tables.count.now l.stamps l.any)
