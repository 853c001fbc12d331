-- The loop keeps: the text of the cells before this one is written. Assumes nothing.
use Rattle.paper.specs.Trace.{dotted}
use Rattle.digits.specs.Write.{Wrote}
use Rattle.trace_stack.specs.Items.{below}
use Rattle.trace_stepline.proofs.put_cells.Given as goal

abbrev pub invariant-loop-h : goal.invariant-loop-h
invariant-loop-h l = Wrote l.initial.w l.w (dotted (below l.cells l.h))
