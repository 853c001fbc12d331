-- One digit fewer is left. Assumes nothing.
use borrow.Author.Rules.{rules}
use Rattle.digits.proofs.Writing.{digit_leaves}
use Rattle.digits.proofs.write.Writer.number.Goals as goal

pub loop-k-preserved : goal.loop-k-preserved
loop-k-preserved c = let l = c.loop-k in digit_leaves c.args.n l.k _ (search rules) l.invariant c.digit.ensures c.byte.ensures
