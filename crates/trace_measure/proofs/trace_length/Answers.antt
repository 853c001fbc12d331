-- The path line, then the step lines. Assumes nothing.
use native.Mathlib.Omega.{arith}
use Rattle.trace_measure.proofs.Tallies.{total_most, whole}
use Rattle.trace_measure.proofs.trace_length.Goals as goal

pub overflow_add-result : goal.overflow_add-result
overflow_add-result c = omega (arith, c.steps_size.ensures, total_most c.requires, c.width.ensures, c.width-2.ensures)

pub returns : goal.returns
returns c = omega (arith, c.steps_size.ensures, whole c.requires c.args.weight, c.width.ensures, c.width-2.ensures)
