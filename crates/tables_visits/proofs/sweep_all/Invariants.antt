use Rattle.tables_sweeps.specs.Sweep.{stage, node_rows, turned, Passing}
use Rattle.tables_costs.specs.Loop.{upto}
use Rattle.tables_costs.specs.Rooms.{SameRooms}
use lib.ListN.{length}
use mathlib.Core.Path.{◌≡◌}
use Rattle.tables_visits.proofs.sweep_all.Given as goal

abbrev pub invariant-loop-k : goal.invariant-loop-k
invariant-loop-k l =
    SameRooms l.initial.tables l.tables × (length l.stamps ≡ length l.initial.stamps)
    × Passing l.net l.round.stamp l.round.since (stage l.initial.tables.weight.now l.initial.tables.count.now l.initial.stamps l.initial.any) (upto (λ i. node_rows l.net l.round.stamp l.round.since (turned l.back l.n i)) l.k) (stage l.tables.weight.now l.tables.count.now l.stamps l.any)
