use Rattle.tables_costs.specs.Rooms.{SameRooms}
use Rattle.tables.proofs.Settling.{left, Settling}
use Rattle.tables.proofs.settle.settle.Given as goal

abbrev pub invariant-loop-done : goal.invariant-loop-done
invariant-loop-done l =
    SameRooms l.initial.tables l.tables
    × Settling l.net l.initial.tables.weight.now l.initial.tables.count.now l.initial.stamps l.tables.weight.now l.tables.count.now l.stamps l.done

abbrev pub decreases-loop-done : goal.decreases-loop-done
decreases-loop-done l = left l.tables.weight.now l.tables.count.now l.round.since l.done
