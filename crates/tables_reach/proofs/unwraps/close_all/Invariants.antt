use Rattle.tables_sweeps.specs.Row.{closing}
use Rattle.tables_costs.specs.Loop.{upto}
use lib.ListN.{length}
use mathlib.Core.Path.{◌≡◌}
use Rattle.tables_reach.proofs.unwraps.close_all.Given as goal

abbrev pub invariant-loop-j : goal.invariant-loop-j
invariant-loop-j l = (length l.ends ≡ length l.initial.ends) × (l.ends ≡ upto (closing l.net l.x l.exits) l.j l.initial.ends)
