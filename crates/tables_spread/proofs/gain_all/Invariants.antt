use Rattle.tables_sweeps.specs.Row.{going}
use Rattle.tables_costs.specs.Loop.{upto}
use lib.ListN.{length}
use mathlib.Core.Path.{◌≡◌}
use Prim.Native.Nat.{◌*◌}
use Rattle.tables_spread.proofs.gain_all.Given as goal

abbrev pub invariant-loop-r : goal.invariant-loop-r
invariant-loop-r l = (length l.y ≡ length l.initial.y) × (l.y ≡ upto (going l.tables.weight.now l.tables.count.now l.size l.news.stamps.now l.news.since (l.at * l.size) l.a) l.r l.initial.y)
