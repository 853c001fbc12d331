use native.Mathlib.Omega.{arith}
use Rattle.tables_costs.proofs.Worth.{spells_never, spells_over, spells_within}
use Rattle.tables_costs.proofs.cost.entry_of.Goals as goal

pub returns-then-k-ge-FAR : goal.returns-then-k-ge-FAR
returns-then-k-ge-FAR c = spells_never _ c.if-k-ge-FAR.true

pub returns-then-from-k : goal.returns-then-from-k
returns-then-from-k c = spells_over _ (omega arith) (omega arith)

pub returns : goal.returns
returns c = spells_within _ _ (omega arith) (omega arith) (omega arith)
