use mathlib.Core.Path.{◌≡◌}
use Rattle.unfold_exits.specs.Lists.{over_exit}
use Rattle.unfold_exits.specs.Cost.{least}
use Rattle.unfold_exits.proofs.finish.finish.Given as goal

abbrev pub invariant-loop-exit : goal.invariant-loop-exit
invariant-loop-exit l = l.best ≡ least (over_exit l.tables.weight.now l.tables.count.now l.exits l.row) l.exit-index
