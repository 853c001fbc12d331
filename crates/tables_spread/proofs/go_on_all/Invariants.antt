use Rattle.tables_sweeps.specs.Row.{onward}
use Rattle.tables_costs.specs.Loop.{upto}
use lib.ListN.{length}
use mathlib.Core.Path.{◌≡◌}
use Rattle.tables_spread.proofs.go_on_all.Given as goal

abbrev pub invariant-loop-r : goal.invariant-loop-r
invariant-loop-r l = (length l.y ≡ length l.initial.y) × (l.y ≡ upto (onward l.tables.weight.now l.tables.count.now l.size l.a) l.r l.initial.y)
