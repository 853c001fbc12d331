use mathlib.Core.Path.{refl}
use Rattle.tables_reach.proofs.Closings.{no_unwrap, no_exit, closed}
use Rattle.tables_reach.proofs.unwraps.close.Goals as goal

pub returns-then-not-serves : goal.returns-then-not-serves
returns-then-not-serves c = no_unwrap _ _ _ _ _ _ c.serves.ensures c.if-not-serves.true

pub returns-then-k-lt-FAR : goal.returns-then-k-lt-FAR
returns-then-k-lt-FAR c =
    closed _ _ _ _ _ _ c.serves.ensures c.number_of.result _ (rw (← c.fun_node.ensures.0, ← c.fun_y.ensures.0) c.number_of.ensures.0) refl c.if-not-serves.false _ _ _ _ c.if-k-lt-FAR.true c.fun_node.ensures.0 c.fun_weight.ensures.0 c.step_cost.ensures.0 c.lower_to.ensures

pub returns-else-k-lt-FAR : goal.returns-else-k-lt-FAR
returns-else-k-lt-FAR c =
    no_exit _ _ _ _ _ _ c.serves.ensures c.number_of.result _ (rw (← c.fun_node.ensures.0, ← c.fun_y.ensures.0) c.number_of.ensures.0) refl c.if-not-serves.false c.if-k-lt-FAR.false
