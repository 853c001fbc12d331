use mathlib.Core.Path.{refl}
use native.Mathlib.Omega.{arith}
use Rattle.unfold_exits.specs.Lists.{finishing}
use Rattle.unfold_exits.specs.Cost.{least}
use Rattle.unfold_exits.proofs.Least.{least_more, least_all}
use Rattle.unfold_exits.proofs.finish.finish.Goals as goal

pub loop-exit-init : goal.loop-exit-init
unfolding least
loop-exit-init c = refl

pub loop-exit-preserved : goal.loop-exit-preserved
loop-exit-preserved c = let l = c.loop-exit in least_more _ l.exit-index _ _ _ l.invariant c.over_exit.ensures c.min-best.ensures

pub returns : goal.returns
unfolding finishing
returns c = let l = c.loop-exit in least_all _ l.exit-index _ _ (omega arith) (omega arith) l.invariant
