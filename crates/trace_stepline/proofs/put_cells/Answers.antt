-- The loop keeps: the text of the cells before this one is written. Assumes nothing.
use Rattle.std.proofs.Common.{arith, length, ◌≡◌}
use Rattle.trace_stepline.proofs.Dotted.{cell_fits, cell_put, no_cells}
use Rattle.trace_stepline.proofs.put_cells.Goals as goal

pub loop-h-init : goal.loop-h-init
loop-h-init c = no_cells c.args.cells.now c.args.w.now

pub put_cell-requires : goal.put_cell-requires
put_cell-requires c = cell_fits c.args.cells.now c.loop-h.h _ c.from.ensures c.loop-h.invariant _ c.loop-h-test.true c.requires

pub loop-h-preserved : goal.loop-h-preserved
loop-h-preserved c = cell_put c.args.cells.now c.loop-h.h _ c.from.ensures c.loop-h.invariant c.put_cell.ensures

pub returns : goal.returns
returns c = let all : length c.args.cells.now ≡ c.loop-h.h = omega arith in rw all c.loop-h.invariant
