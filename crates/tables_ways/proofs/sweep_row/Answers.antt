use Rattle.tables_costs.specs.Costs.{blank}
use Rattle.tables_ways.proofs.Turns.{row_done}
use Rattle.tables_ways.proofs.sweep_row.Goals as goal

pub returns-clause-swept : goal.returns-clause-swept
unfolding blank
returns-clause-swept c =
    row_done _ _ _ _ _ _ _ _ _ c.places-size.ensures.0 c.number_of-here.ensures.0 _ _ _ (rw (c.to_read.ensures.0, c.to_read.ensures.1) at c.find_ways.ensures) c.row_of.ensures.0 c.merge.ensures.merged
