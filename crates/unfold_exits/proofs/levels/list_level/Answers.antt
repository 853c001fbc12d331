use native.Mathlib.Omega.{arith}
use Rattle.unfold_exits.proofs.Places.{level_listed}
use Rattle.unfold_exits.proofs.levels.list_level.Goals as goal

pub returns : goal.returns
returns c = let l = c.loop-q in level_listed l.q l.invariant _ c.words_for-q-end.ensures.0 (omega arith) (omega arith) (omega (arith, c.left_at-left.ensures))
