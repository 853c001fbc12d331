use Rattle.tables_sweeps.specs.Row.{landing}
use Rattle.tables_costs.specs.Loop.{upto}
use lib.ListN.{length}
use mathlib.Core.Path.{◌≡◌}
use Rattle.tables_reach.proofs.unwraps.land_all.Given as goal

abbrev pub invariant-loop-i : goal.invariant-loop-i
invariant-loop-i l = (length l.a ≡ length l.initial.a) × (l.a ≡ upto (landing l.net l.x l.ends) l.i l.initial.a)
