use native.Mathlib.Omega.{arith}
use Rattle.unfold_tries.proofs.funs.use_of.Goals as goal

pub overflow_cast-result : goal.overflow_cast-result
overflow_cast-result c = omega (arith, c.args.solved.now.arranged.valid.protocols)

pub overflow_cast-result-2 : goal.overflow_cast-result-2
overflow_cast-result-2 c = omega (arith, c.args.solved.now.arranged.valid.protocols)
