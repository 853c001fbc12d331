-- A tab, then the cells. Assumes nothing.
use Rattle.digits.proofs.Writing.{wrote_then}
use Rattle.trace_stepline.proofs.Dotted.{lowest}
use Rattle.trace_stepline.proofs.put_stack.Goals as goal

pub returns : goal.returns
returns c = wrote_then c.byte.ensures (rw (lowest c.args.cells.now c.args.height c.requires.0) at c.put_cells.ensures)
