use Rattle.tables_sweeps.specs.Row.{carried}
use Rattle.tables_costs.specs.Loop.{upto}
use lib.ListN.{length}
use mathlib.Core.Path.{◌≡◌}
use Prim.Native.Nat.{◌+◌}
use Rattle.tables_spread.proofs.compose.Given as goal

abbrev pub invariant-loop-q : goal.invariant-loop-q
invariant-loop-q l = (length l.y ≡ length l.initial.y) × (l.y ≡ upto (λ q. carried l.tables.weight.now l.tables.count.now l.c (l.base + q) q) l.q l.initial.y)
