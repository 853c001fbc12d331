-- One number fewer is left. Assumes nothing.
use borrow.Author.Rules.{rules}
use Rattle.digits.proofs.Writing.{field_leaves}
use Rattle.digits.proofs.write.Writer.fields.Goals as goal

pub loop-n-preserved : goal.loop-n-preserved
loop-n-preserved c = let l = c.loop-n in field_leaves c.args.numbers.now l.n-index (search rules) l.invariant c.field.ensures
