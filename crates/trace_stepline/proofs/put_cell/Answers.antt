-- With a dot before it or without. Assumes nothing.
use Rattle.digits.proofs.Writing.{wrote_then}
use Rattle.trace_stepline.proofs.Dotted.{cell_lowest, cell_above}
use Rattle.trace_stepline.proofs.put_cell.Goals as goal
use Rattle.trace_stepline.proofs.put_cell.Goals.{then-h-gt0, else-h-gt0}

pub returns : goal.returns
returns c =
    elim c.if-h-gt0.branch [
      | then-h-gt0 w ↦ rw (cell_above _ _ w.if-h-gt0.true) (wrote_then w.byte.ensures (rw w.w-is at c.number.ensures))
      | else-h-gt0 w ↦ rw (cell_lowest _ _ w.if-h-gt0.false) (rw w.w-is at c.number.ensures)
    ]
