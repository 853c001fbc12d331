use mathlib.Core.Path.{refl}
use native.Mathlib.Omega.{arith}
use Rattle.unfold_exits.proofs.Landings.{fun_other, fun_far, fun_listed}
use Rattle.unfold_exits.proofs.tunnels.list_fun.Goals as goal

pub returns-then-not-serves : goal.returns-then-not-serves
returns-then-not-serves c = fun_other c.requires.2 _ c.serves.ensures c.if-not-serves.true

pub returns-then-cost-ge-FAR : goal.returns-then-cost-ge-FAR
returns-then-cost-ge-FAR c = fun_far c.requires.2 _ _ _ _ c.fun_node.ensures.0 c.fun_weight.ensures.0 c.step_cost.ensures.0 refl c.if-cost-ge-FAR.true

pub returns : goal.returns
returns c =
    fun_listed c.requires.2 _ _ _ _ c.fun_node.ensures.0 c.fun_weight.ensures.0 c.step_cost.ensures.0 refl
    _ _ _ (omega arith) c.serves.ensures c.if-not-serves.false c.fun_y.ensures.0 c.number_of.ensures.0 c.push.ensures
