use Rattle.tables_reach.proofs.Turns.{passed, no_tunnels}
use Rattle.tables_costs.specs.Costs.{blank}
use Rattle.tables_reach.proofs.pass.Goals as goal

pub returns-then-is_none : goal.returns-then-is_none
returns-then-is_none c = no_tunnels _ _ _ _ _ _ _ c.first_fun.ensures.arranged c.first_fun.ensures.first c.if-is_none.ensures

pub returns : goal.returns
unfolding blank
returns c = passed _ _ _ _ _ _ _ _ _ c.enter.ensures c.close_all.ensures c.land_all.ensures
