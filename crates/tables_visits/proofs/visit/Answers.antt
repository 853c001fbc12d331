use Rattle.tables_visits.proofs.Turns.{visiting, passed_by}
use Rattle.tables_sweeps.proofs.Passes.{passing_row}
use Rattle.tables_visits.proofs.visit.Goals as goal

pub returns-then-is_settled-clause-passing : goal.returns-then-is_settled-clause-passing
returns-then-is_settled-clause-passing c = passed_by _ _ _ _ _ _ c.is_settled.ensures c.if-is_settled.true

pub returns-clause-passing : goal.returns-clause-passing
returns-clause-passing c =
    let w = c.requires.1 in
    passing_row _ _ _ _ _ _ _ w.0 w.1 (visiting _ _ _ _ _ _ _ _ _ _ _ _ _ _ c.sweep_row-r.ensures.swept c.number_of.ensures.0 c.mark.ensures)
